use Rattle.std.proofs.Common.{◌≡◌, inr, refl}
use Rattle.rm_window.specs.Window.{octets_of}
use Rattle.rm_pcap.specs.declared.record.Part.TheVariants.{Whole as WholePart, End as EndPart, Cut as CutPart}
use Rattle.rm_pcap.specs.Seen.{heading_of}
use Rattle.rm_pcap.proofs.FoundLemmas.{found_end, found_cut, found_late, found_whole, long_in}
use Rattle.rm_pcap.proofs.KeptLemmas.{kept_whole, kept_late}
use Rattle.rm_pcap.proofs.position.Position.see.Goals as goal

pub returns-in-Some-clause-found : goal.returns-in-Some-clause-found
returns-in-Some-clause-found g c = λ bytes is front.
    let position = c.args.self in
    let h = rw c.in-Ok-Whole.field-0-is at (c.in-Ok-Whole.ensures.stands bytes is front) in
    let whole = rw c.in-Ok-Whole.field-0-is at c.in-Ok-Whole.ensures.part in (
      h.0,
      found_whole position.form position.start position.reach bytes (octets_of c.part.new.window) c.in-Ok-Whole.heading c.in-Some.record h.0 whole h.1
          (c.in-Some.ensures.numbers (octets_of c.part.new.window) whole.numbers),
    )

pub returns-in-None-clause-faults : goal.returns-in-None-clause-faults
returns-in-None-clause-faults g c =
    let position = c.args.self in
    let whole = rw c.in-Ok-Whole.field-0-is at c.in-Ok-Whole.ensures.part in
    inr (record {
      place = refl;
      stands = λ bytes is front.
          let h = rw c.in-Ok-Whole.field-0-is at (c.in-Ok-Whole.ensures.stands bytes is front) in
          found_late position.form position.start position.reach bytes (octets_of c.part.new.window) c.in-Ok-Whole.heading h.0 whole h.1 (c.in-None.ensures.numbers (octets_of c.part.new.window) whole.numbers);
    })

pub returns-in-Ok-End-clause-found : goal.returns-in-Ok-End-clause-found
returns-in-Ok-End-clause-found g c = λ bytes is front.
    let h = rw c.in-Ok-End.field-0-is at (c.in-Ok-End.ensures.stands bytes is front) in
    (h.0, found_end c.args.self.form c.args.self.start c.args.self.reach bytes h.1)

pub returns-in-Ok-Cut-clause-found : goal.returns-in-Ok-Cut-clause-found
returns-in-Ok-Cut-clause-found g c = λ bytes is front.
    let h = rw c.in-Ok-Cut.field-0-is at (c.in-Ok-Cut.ensures.stands bytes is front) in
    (h.0, found_cut c.args.self.form c.args.self.start c.args.self.reach bytes h.1)

pub returns-in-Some-clause-follows : goal.returns-in-Some-clause-follows
returns-in-Some-clause-follows g c =
    let whole = rw c.in-Ok-Whole.field-0-is at c.in-Ok-Whole.ensures.part in
    c.in-Some.ensures.follows (octets_of c.part.new.window) whole.numbers

pub returns-in-Some-clause-long : goal.returns-in-Some-clause-long
returns-in-Some-clause-long g c =
    let position = c.args.self in
    let octets = octets_of c.part.new.window in
    let whole = rw c.in-Ok-Whole.field-0-is at c.in-Ok-Whole.ensures.part in
    long_in position.form position.start position.reach octets c.in-Ok-Whole.heading c.in-Some.record whole (c.in-Some.ensures.numbers octets whole.numbers)

-- where all of the record was read already
pub returns-in-Some-clause-kept : goal.returns-in-Some-clause-kept
returns-in-Some-clause-kept g c = λ there.
    let position = c.args.self in
    let whole = rw c.in-Ok-Whole.field-0-is at c.in-Ok-Whole.ensures.part in
    kept_whole position.form position.start position.reach (octets_of c.part.new.window) (octets_of c.args.window.now) c.in-Some.record (c.part.ensures.same there) there
    (c.in-Some.ensures.numbers (octets_of c.part.new.window) whole.numbers)

pub returns-in-None-clause-broken : goal.returns-in-None-clause-broken
returns-in-None-clause-broken g c = λ there.
    let position = c.args.self in
    let whole = rw c.in-Ok-Whole.field-0-is at c.in-Ok-Whole.ensures.part in
    kept_late position.form position.start position.reach (octets_of c.part.new.window) (octets_of c.args.window.now) (c.part.ensures.same there) there
    (c.in-None.ensures.numbers (octets_of c.part.new.window) whole.numbers)

pub returns-in-Ok-End-clause-kept : goal.returns-in-Ok-End-clause-kept
returns-in-Ok-End-clause-kept g c = λ there.
    let is : EndPart ≡ WholePart (heading_of c.args.self.form c.args.self.start c.args.self.reach (octets_of c.args.window.now)) = rw c.in-Ok-End.field-0-is at (c.in-Ok-End.ensures.whole there) in
    absurd cc

pub returns-in-Ok-Cut-clause-kept : goal.returns-in-Ok-Cut-clause-kept
returns-in-Ok-Cut-clause-kept g c = λ there.
    let is : CutPart ≡ WholePart (heading_of c.args.self.form c.args.self.start c.args.self.reach (octets_of c.args.window.now)) = rw c.in-Ok-Cut.field-0-is at (c.in-Ok-Cut.ensures.whole there) in
    absurd cc

pub returns-in-Err-clause-broken : goal.returns-in-Err-clause-broken
returns-in-Err-clause-broken g c = λ there. absurd (c.in-Err.ensures.faultless there)
