use Rattle.std.proofs.Common.{◌∙◌, [], ◌++◌, ◌∷◌, Err, refl, sym, ap, subst, arith}
use Rattle.rm_edge.specs.Outside.{Held}
use Rattle.rm_requests.specs.Lines.{IsRequestFile, TimedDatagram}
use Rattle.rm_requests.specs.Reading.{Answers, Reached, reached_of, datagram_in}
use Rattle.rm_probe.proofs.JudgeLemmas.{HasTaken, of_file, refuses, taken_all, taken_more, taken_none}
use Rattle.rm_probe.proofs.requests.judge.Goals as goal

pub loop-fault-init : goal.loop-fault-init
loop-fault-init g c = record {
  same = λ each. refl;
  quiet = λ each. refl;
  few = omega (arith, ap (λ (p : Reached). p.number) c.requires);
  none = λ absent. ap (λ (p : Reached). p.read) c.requires;
  file = λ bytes is. ([], subst (λ (p : Reached). HasTaken [] p bytes) (sym c.requires) (taken_none bytes));
}

pub loop-fault-preserved : goal.loop-fault-preserved
loop-fault-preserved g c =
    let i = c.loop-fault.invariant in
    let takes = rw c.in-Ok-Some.field-0-is at c.in-Ok-Some.ensures.answers in
    let request : TimedDatagram = record { moment = c.in-Ok-Some.field-0-0.moment; datagram = datagram_in c.next.new.self } in
    record {
      same = λ each. c.in-Ok-Some.ensures.shelf.constant each ∙ i.same each;
      quiet = λ each. c.in-Ok-Some.ensures.shelf.quiet (λ e. cc) each ∙ i.quiet each;
      few = omega (arith, takes.next, takes.few);
      none = λ absent. absurd (let e = sym c.in-Ok-Some.is ∙ c.next.ensures.absent (i.same c.args.name.now ∙ absent) (i.none absent) in cc);
      file = λ bytes is.
          let (taken, has) = i.file bytes is in
          (taken ++ request ∷ [], taken_more taken request (reached_of c.loop-fault.requests) (reached_of c.next.new.self) bytes has (takes.passes bytes (i.same c.args.name.now ∙ is) has.agrees) takes.next takes.order takes.moment);
    }

pub returns-in-Ok-None-clause-judged : goal.returns-in-Ok-None-clause-judged
returns-in-Ok-None-clause-judged g c =
    let i = c.loop-fault.invariant in
    let (stays, none) = rw c.in-Ok-None.field-0-is at c.in-Ok-None.ensures.answers in
    of_file (g.F.Shelf.held c.args.shelf.now c.args.name.now) IsRequestFile
    (λ absent. let e = sym c.in-Ok-None.is ∙ c.next.ensures.absent (i.same c.args.name.now ∙ absent) (i.none absent) in cc)
    (λ bytes is. let (taken, has) = i.file bytes is in (taken, taken_all taken (reached_of c.loop-fault.requests) bytes has (none bytes (i.same c.args.name.now ∙ is) has.agrees) i.few))

pub returns-in-Err-clause-judged : goal.returns-in-Err-clause-judged
returns-in-Err-clause-judged g c =
    let i = c.loop-fault.invariant in
    refuses (g.F.Shelf.held c.args.shelf.now c.args.name.now) (reached_of c.loop-fault.requests) (reached_of c.next.new.self) (datagram_in c.next.new.self) c.in-Err.fault
    (λ absent. let e = sym c.in-Err.is ∙ c.next.ensures.absent (i.same c.args.name.now ∙ absent) (i.none absent) in cc)
    (subst (λ (h : Held). Answers h (reached_of c.loop-fault.requests) (reached_of c.next.new.self) (datagram_in c.next.new.self) (Err c.in-Err.fault)) (i.same c.args.name.now) c.in-Err.ensures.answers) i.file
