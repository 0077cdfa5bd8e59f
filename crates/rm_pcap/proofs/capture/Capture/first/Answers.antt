use Rattle.std.proofs.Common.{◌≡◌, ◌∙◌, ℕ, List, take, Some, None, Ok, refl, sym, ap, arith}
use Rattle.rm_pcap.specs.Records.{Ended, CutAt, time_of}
use Rattle.rm_pcap.specs.Steps.{Stops}
use Rattle.rm_pcap.specs.Progress.{Progress}
use Rattle.rm_window.specs.Window.{octets_of}
use Rattle.rm_pcap.specs.View.{progress_of, ahead_of}
use Rattle.rm_pcap.proofs.FoundLemmas.{found_end, found_cut}
use Rattle.rm_pcap.proofs.KeptLemmas.{there_in}
use Rattle.rm_pcap.proofs.BaseLemmas.{first_plain, first_whole, first_again, none_seen, looks_first, looks_broken, kind_first}
use Rattle.rm_pcap.proofs.capture.Capture.first.Goals as goal

pub returns-then-is_some-clause-looks : goal.returns-then-is_some-clause-looks
returns-then-is_some-clause-looks g c = record {
  place = refl;
  unseen = c.requires.unseen;
  told = λ time e. absurd cc;
  stands = λ bytes is agrees. (first_again c.args.self.now bytes (sym c.is_some.ensures ∙ c.if-is_some.true) c.requires.unseen agrees, agrees);
}

pub returns-in-Ok-Whole-clause-looks : goal.returns-in-Ok-Whole-clause-looks
unfolding progress_of
returns-in-Ok-Whole-clause-looks g c =
    let self = c.args.self.now in
    let octets = octets_of c.part.new.window in
    let none : self.seen ≡ None = none_seen self.seen (sym c.is_some.ensures ∙ c.if-is_some.false) in
    let whole = rw c.in-Ok-Whole.field-0-is at c.in-Ok-Whole.ensures.part in
    let time : time_of self.position.form octets ≡ c.time_of.result = ap (time_of self.position.form) (sym c.octets.ensures) ∙ sym c.time_of.ensures in
    looks_first _ (progress_of self) (ahead_of self.position octets self.seen) octets _ c.requires.unseen
    (λ frame after e. let n = sym (ap (ahead_of self.position octets) none) ∙ e in cc)
    (λ bytes is front.
    let h = rw c.in-Ok-Whole.field-0-is at (c.in-Ok-Whole.ensures.stands bytes is front) in (
      h.0,
      first_whole self.position.form self.position.start self.position.reach bytes octets c.in-Ok-Whole.field-0-0 c.requires.unseen.first h.1 h.0 (omega (arith, whole.long))
          ∙ ap (λ (t : ℕ). Ok (Some t)) time,
      λ found e. let n = sym (ap (ahead_of self.position octets) none) ∙ e in cc,
    ))
    (λ other e.
    let same : c.time_of.result ≡ other = cc in
    (there_in self.position.form self.position.start self.position.reach octets c.in-Ok-Whole.field-0-0 whole, time ∙ same))

pub returns-in-Ok-End-clause-looks : goal.returns-in-Ok-End-clause-looks
unfolding progress_of
returns-in-Ok-End-clause-looks g c =
    let self = c.args.self.now in
    looks_first _ (progress_of self) (Some (Stops Ended)) (octets_of c.part.new.window) _ c.requires.unseen
    (λ frame after e. cc)
    (λ bytes is front.
    let h = rw c.in-Ok-End.field-0-is at (c.in-Ok-End.ensures.stands bytes is front) in
    let found = found_end self.position.form self.position.start self.position.reach bytes h.1 in (
      h.0,
      first_plain self.position.form self.position.start self.position.reach bytes Ended c.requires.unseen.first tt found,
      λ other e. let same : Stops Ended ≡ other = cc in sym same ∙ found,
    ))
    (λ time e. absurd cc)

pub returns-in-Ok-Cut-clause-looks : goal.returns-in-Ok-Cut-clause-looks
unfolding progress_of
returns-in-Ok-Cut-clause-looks g c =
    let self = c.args.self.now in
    looks_first _ (progress_of self) (Some (Stops (CutAt self.position.reach.at))) (octets_of c.part.new.window) _ c.requires.unseen
    (λ frame after e. cc)
    (λ bytes is front.
    let h = rw c.in-Ok-Cut.field-0-is at (c.in-Ok-Cut.ensures.stands bytes is front) in
    let found = found_cut self.position.form self.position.start self.position.reach bytes h.1 in (
      h.0,
      first_plain self.position.form self.position.start self.position.reach bytes (CutAt self.position.reach.at) c.requires.unseen.first tt found,
      λ other e. let same : Stops (CutAt self.position.reach.at) ≡ other = cc in sym same ∙ found,
    ))
    (λ time e. absurd cc)

pub returns-in-Err-clause-same : goal.returns-in-Err-clause-same
unfolding progress_of
returns-in-Err-clause-same g c =
    let self = c.args.self.now in
    let same : octets_of c.truncate.new.self ≡ octets_of self.window =
    c.truncate.ensures.octets ∙ ap (λ (n : ℕ). take n (octets_of c.part.new.window)) c.len-next.ensures ∙ sym c.in-Err.ensures.keeps in
    ap (λ (octets : List ℕ). let p : Progress = record { form = self.position.form; start = self.position.start; reach = self.position.reach; ahead = ahead_of self.position octets self.seen; read = octets } in p) same

pub returns-in-Err-clause-looks : goal.returns-in-Err-clause-looks
unfolding progress_of
returns-in-Err-clause-looks g c = looks_broken _ (progress_of c.args.self.now) _ c.in-Err.fault (returns-in-Err-clause-same g c) c.requires.unseen c.in-Err.ensures.faults c.in-Err.ensures.late

pub returns-in-Err-clause-kinds : goal.returns-in-Err-clause-kinds
unfolding progress_of
returns-in-Err-clause-kinds g c = kind_first _ (progress_of c.args.self.now) c.in-Err.fault c.requires.unseen c.in-Err.ensures.faults c.in-Err.ensures.late
