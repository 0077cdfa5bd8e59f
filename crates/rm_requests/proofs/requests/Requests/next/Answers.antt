use Rattle.std.proofs.Common.{◌∙◌, List, ℕ, length, take, drop, sym, ap, subst, arith}
use Rattle.std.proofs.lemmas.List.{with_items_is}
use Rattle.rm_window.specs.Window.{octets_of}
use Rattle.rm_requests.specs.Reading.{reached_of, HoldsLine, IsWrongAfter}
use Rattle.rm_requests.proofs.FileLemmas.{has_line, wrong_line, takes_line}
use Rattle.rm_window.proofs.WindowLemmas.{front_short}
use Rattle.rm_requests.proofs.requests.Requests.next.Goals as goal

pub returns-then-number-gt-MOST_LINES-clause-answers : goal.returns-then-number-gt-MOST_LINES-clause-answers
returns-then-number-gt-MOST_LINES-clause-answers g c =
    let self = c.args.self.now in
    let octets = octets_of c.line_end.new.self.window in
    let stays = c.in-Ok.ensures.stays in (
      stays,
      omega (arith, stays.number, self.few, c.if-number-gt-MOST_LINES.true),
      λ bytes is front.
          let holds = c.in-Ok.ensures.holds bytes is front in
          has_line (drop self.at bytes) (omega (arith, c.if-len-eq0.false, c.len.ensures, front_short octets (drop self.at bytes) holds.front)),
    )

pub returns-in_default-read_next-clause-answers : goal.returns-in_default-read_next-clause-answers
returns-in_default-read_next-clause-answers g c =
    let self = c.args.self.now in
    let stays = c.in-Ok.ensures.stays in (
      stays,
      stays.number,
      omega (arith, c.if-number-gt-MOST_LINES.false),
      λ bytes is front.
          let holds = subst (λ (t : List ℕ). HoldsLine t (drop self.at bytes)) (sym c.octets.ensures) (c.in-Ok.ensures.holds bytes is front) in
          wrong_line (reached_of self) c.octets.result.now c.first_line-passed.result.0.now c.first_line-passed.result.1 bytes holds (omega (arith, c.if-len-eq0.false, c.len.ensures, ap length c.octets.ensures)) c.first_line-passed.ensures
          (subst (λ (last : ℕ). IsWrongAfter last c.first_line-passed.result.0.now) stays.last c.in_default-read_next.ensures),
    )

pub returns-clause-answers : goal.returns-clause-answers
returns-clause-answers g c =
    let self = c.args.self.now in
    let stays = c.in-Ok.ensures.stays in
    let datagram = take c.in-Some.count c.read_next.new.into in
    let kept = c.pass.ensures.datagram ∙ ap (take c.in-Some.count) (with_items_is c.line_end.new.self.datagram c.read_next.new.into (omega (arith, c.read_next.auto.into, c.deref_mut.ensures.len))) in
    record {
      number = stays.number;
      next = omega (arith, c.pass.ensures.number, stays.number);
      few = omega (arith, c.if-number-gt-MOST_LINES.false, stays.number);
      moment = c.pass.ensures.last;
      order = omega (arith, c.in-Some.ensures.0, stays.last);
      range = c.in-Some.ensures.1;
      passes = λ bytes is front.
          let holds = subst (λ (t : List ℕ). HoldsLine t (drop self.at bytes)) (sym c.octets.ensures) (c.in-Ok.ensures.holds bytes is front) in
          rw kept (takes_line (reached_of self) c.octets.result.now c.first_line-passed.result.0.now c.first_line-passed.result.1 bytes holds (omega (arith, c.if-len-eq0.false, c.len.ensures, ap length c.octets.ensures)) c.first_line-passed.ensures
          (reached_of c.pass.new.self) (record { moment = c.in-Some.moment; datagram = datagram }) c.in-Some.ensures.3
          (omega (arith, c.pass.ensures.at, stays.at)) (c.pass.ensures.read ∙ ap (drop c.first_line-passed.result.1) (sym c.octets.ensures)));
    }
