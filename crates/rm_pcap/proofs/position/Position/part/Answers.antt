use Rattle.std.proofs.Common.{◌∙◌, length, sym, ap, arith, inr}
use Rattle.std.proofs.lemmas.Result.{err_from_is_err_and}
use Rattle.rm_window.specs.Window.{octets_of}
use Rattle.rm_pcap.specs.declared.record.Part.TheVariants.{Whole as WholePart}
use Rattle.rm_pcap.specs.Steps.{fault_at}
use Rattle.rm_pcap.specs.Seen.{heading_of, within}
use Rattle.rm_pcap.proofs.FoundLemmas.{is_header, found_broken, cut_behind, whole_part, heading_in, faultless_in}
use Rattle.rm_pcap.proofs.KeptLemmas.{fault_there, included_there, heading_there}
use Rattle.rm_pcap.proofs.position.Position.part.Goals as goal

pub returns-then-count-eq0-clause-stands : goal.returns-then-count-eq0-clause-stands
returns-then-count-eq0-clause-stands g c = λ bytes is front.
    let h = c.in-Ok.ensures.holds bytes is front in
    (h.front, omega (arith, c.in-Ok.ensures.count, c.if-count-eq0.true, h.all (omega (arith, c.in-Ok.ensures.count, c.if-count-eq0.true))))

pub returns-then-count-lt-RECORD_HEADER-clause-stands :
    goal.returns-then-count-lt-RECORD_HEADER-clause-stands
returns-then-count-lt-RECORD_HEADER-clause-stands g c = λ bytes is front.
    let h = c.in-Ok.ensures.holds bytes is front in
    let e = h.all (omega (arith, c.in-Ok.ensures.count, c.if-count-lt-RECORD_HEADER.true)) in
    (h.front, within (omega (arith, c.in-Ok.ensures.count, c.if-count-eq0.false, e)) (omega (arith, c.in-Ok.ensures.count, c.if-count-lt-RECORD_HEADER.true, e)))

pub returns-in_err-heading-clause-faults : goal.returns-in_err-heading-clause-faults
returns-in_err-heading-clause-faults g c =
    let p = err_from_is_err_and c.from_residual.result c.from_residual.ensures.1 in
    let position = c.args.self in
    rw (p.1, p.2)
    (inr (record {
      place = c.in_err-heading.ensures.place;
      stands = λ bytes is front.
          let header = is_header position.reach bytes c.octets.result.now (octets_of c.hold.new.self) c.octets.ensures (c.in-Ok.ensures.holds bytes is front)
          (omega (arith, c.in-Ok.ensures.count, c.if-count-lt-RECORD_HEADER.false)) in
          found_broken position.form position.start position.reach bytes c.octets.result.now c.in_err-heading.field-0.0 header c.in_err-heading.ensures.judged;
    }))

pub returns-then-count-whole-clause-stands : goal.returns-then-count-whole-clause-stands
returns-then-count-whole-clause-stands g c = λ bytes is front.
    let h = c.in-Ok.ensures.holds bytes is front in
    let more = c.in-Ok-hold.ensures.holds bytes (c.hold.ensures.shelf.constant c.args.name.now ∙ is) h.front in
    let header = is_header c.args.self.reach bytes c.octets.result.now (octets_of c.hold.new.self) c.octets.ensures h (omega (arith, c.in-Ok.ensures.count, c.if-count-lt-RECORD_HEADER.false)) in (
      more.front,
      cut_behind c.args.self.form c.args.self.start c.args.self.reach bytes c.octets.result.now (octets_of c.hold-2.new.self) c.in_ok-heading.heading header
          c.in_ok-heading.ensures.judged.0 c.in_ok-heading.ensures.judged.1 more (omega (arith, c.in-Ok-hold.ensures.count, c.if-count-whole.true)),
    )

pub returns-clause-stands : goal.returns-clause-stands
returns-clause-stands g c = λ bytes is front.
    let h = c.in-Ok.ensures.holds bytes is front in
    let more = c.in-Ok-hold.ensures.holds bytes (c.hold.ensures.shelf.constant c.args.name.now ∙ is) h.front in
    let header = is_header c.args.self.reach bytes c.octets.result.now (octets_of c.hold.new.self) c.octets.ensures h (omega (arith, c.in-Ok.ensures.count, c.if-count-lt-RECORD_HEADER.false)) in (
      more.front,
      whole_part c.args.self.form c.args.self.start c.args.self.reach bytes c.octets.result.now (octets_of c.hold-2.new.self) c.in_ok-heading.heading header
          c.in_ok-heading.ensures.judged.0 c.in_ok-heading.ensures.judged.1 more.front (omega (arith, c.in-Ok-hold.ensures.count, c.if-count-whole.false)),
    )

pub returns-clause-part : goal.returns-clause-part
returns-clause-part g c = record {
  long = omega (arith, c.in-Ok-hold.ensures.count, c.if-count-whole.false);
  numbers = heading_in c.args.self.form c.args.self.start c.args.self.reach (octets_of c.hold.new.self) (octets_of c.hold-2.new.self) c.in_ok-heading.heading c.hold-2.ensures.keeps
      (omega (arith, c.in-Ok.ensures.count, c.if-count-lt-RECORD_HEADER.false)) (c.in_ok-heading.ensures.judged.1 ∙ ap (heading_of c.args.self.form c.args.self.start c.args.self.reach) c.octets.ensures);
  faultless = faultless_in c.args.self.form c.args.self.start c.args.self.reach (octets_of c.hold.new.self) (octets_of c.hold-2.new.self) c.hold-2.ensures.keeps
      (omega (arith, c.in-Ok.ensures.count, c.if-count-lt-RECORD_HEADER.false))
      (ap (fault_at c.args.self.form c.args.self.start c.args.self.reach) (sym c.octets.ensures) ∙ c.in_ok-heading.ensures.judged.0);
  sound = c.in_ok-heading.ensures.sound;
}

-- where all of the record was read already, no read is needed
pub returns-in_default-clause-faultless : goal.returns-in_default-clause-faultless
returns-in_default-clause-faultless g c = λ there. omega (arith, there.long, c.in_default.ensures.few)

pub returns-in_default-clause-same : goal.returns-in_default-clause-same
returns-in_default-clause-same g c = λ there. absurd (omega (arith, there.long, c.in_default.ensures.few))

pub returns-then-count-eq0-clause-whole : goal.returns-then-count-eq0-clause-whole
returns-then-count-eq0-clause-whole g c = λ there.
    let same = c.hold.ensures.same (omega (arith, there.long)) in
    absurd (omega (arith, there.long, c.in-Ok.ensures.count, c.if-count-eq0.true, ap length same))

pub returns-then-count-eq0-clause-same : goal.returns-then-count-eq0-clause-same
returns-then-count-eq0-clause-same g c = λ there. c.hold.ensures.same (omega (arith, there.long))

pub returns-then-count-lt-RECORD_HEADER-clause-whole :
    goal.returns-then-count-lt-RECORD_HEADER-clause-whole
returns-then-count-lt-RECORD_HEADER-clause-whole g c = λ there.
    let same = c.hold.ensures.same (omega (arith, there.long)) in
    absurd (omega (arith, there.long, c.in-Ok.ensures.count, c.if-count-lt-RECORD_HEADER.true, ap length same))

pub returns-then-count-lt-RECORD_HEADER-clause-same :
    goal.returns-then-count-lt-RECORD_HEADER-clause-same
returns-then-count-lt-RECORD_HEADER-clause-same g c = λ there. c.hold.ensures.same (omega (arith, there.long))

pub returns-in_err-heading-clause-faultless : goal.returns-in_err-heading-clause-faultless
returns-in_err-heading-clause-faultless g c =
    let p = err_from_is_err_and c.from_residual.result c.from_residual.ensures.1 in
    let position = c.args.self in
    rw p.1
    (λ there.
    let same = c.hold.ensures.same (omega (arith, there.long)) in
    fault_there position.form position.start position.reach c.octets.result.now (octets_of c.args.window.now) c.in_err-heading.field-0.0 (c.octets.ensures ∙ same) there
    c.in_err-heading.ensures.judged)

pub returns-in_err-heading-clause-same : goal.returns-in_err-heading-clause-same
returns-in_err-heading-clause-same g c = λ there. c.hold.ensures.same (omega (arith, there.long))

pub returns-in_default-hold-clause-faultless : goal.returns-in_default-hold-clause-faultless
returns-in_default-hold-clause-faultless g c = λ there.
    let same = c.hold.ensures.same (omega (arith, there.long)) in
    let included = included_there c.args.self.form c.args.self.start c.args.self.reach c.octets.result.now (octets_of c.args.window.now) c.in_ok-heading.heading (c.octets.ensures ∙ same) c.in_ok-heading.ensures.judged.1 in
    omega (arith, there.long, included, c.in_default-hold.ensures.few, ap length same)

pub returns-in_default-hold-clause-same : goal.returns-in_default-hold-clause-same
returns-in_default-hold-clause-same g c = λ there.
    let same = c.hold.ensures.same (omega (arith, there.long)) in
    let included = included_there c.args.self.form c.args.self.start c.args.self.reach c.octets.result.now (octets_of c.args.window.now) c.in_ok-heading.heading (c.octets.ensures ∙ same) c.in_ok-heading.ensures.judged.1 in
    absurd (omega (arith, there.long, included, c.in_default-hold.ensures.few, ap length same))

pub returns-then-count-whole-clause-whole : goal.returns-then-count-whole-clause-whole
returns-then-count-whole-clause-whole g c = λ there.
    let same = c.hold.ensures.same (omega (arith, there.long)) in
    let included = included_there c.args.self.form c.args.self.start c.args.self.reach c.octets.result.now (octets_of c.args.window.now) c.in_ok-heading.heading (c.octets.ensures ∙ same) c.in_ok-heading.ensures.judged.1 in
    let again = c.hold-2.ensures.same (omega (arith, there.long, included, ap length same)) in
    absurd (omega (arith, there.long, included, c.in-Ok-hold.ensures.count, c.if-count-whole.true, ap length same, ap length again))

pub returns-then-count-whole-clause-same : goal.returns-then-count-whole-clause-same
returns-then-count-whole-clause-same g c = λ there.
    let same = c.hold.ensures.same (omega (arith, there.long)) in
    let included = included_there c.args.self.form c.args.self.start c.args.self.reach c.octets.result.now (octets_of c.args.window.now) c.in_ok-heading.heading (c.octets.ensures ∙ same) c.in_ok-heading.ensures.judged.1 in
    c.hold-2.ensures.same (omega (arith, there.long, included, ap length same)) ∙ same

pub returns-clause-whole : goal.returns-clause-whole
returns-clause-whole g c = λ there.
    let same = c.hold.ensures.same (omega (arith, there.long)) in
    ap WholePart (heading_there c.args.self.form c.args.self.start c.args.self.reach c.octets.result.now (octets_of c.args.window.now) c.in_ok-heading.heading (c.octets.ensures ∙ same) c.in_ok-heading.ensures.judged.1)

pub returns-clause-same : goal.returns-clause-same
returns-clause-same g c = λ there.
    let same = c.hold.ensures.same (omega (arith, there.long)) in
    let included = included_there c.args.self.form c.args.self.start c.args.self.reach c.octets.result.now (octets_of c.args.window.now) c.in_ok-heading.heading (c.octets.ensures ∙ same) c.in_ok-heading.ensures.judged.1 in
    c.hold-2.ensures.same (omega (arith, there.long, included, ap length same)) ∙ same
