-- A record by what its header says.
use Rattle.std.proofs.Common.{◌≡◌, ℕ, ◌+◌, Bool, true, false, if◌then◌else◌, List, Some, None, refl, sym, ap, ◌∙◌, arith}
use Rattle.rm_pcap.specs.declared.form.Form.{Form}
use Rattle.rm_pcap.specs.declared.start.Start.{Start}
use Rattle.rm_pcap.specs.declared.reach.Reach.{Reach}
use Rattle.rm_pcap.specs.declared.record.Heading.{Heading}
use Rattle.rm_pcap.specs.declared.record.Record.{Record}
use Rattle.rm_pcap.specs.Records.{time_of}
use Rattle.rm_pcap.specs.Steps.{is_late, moment_at}
use Rattle.rm_pcap.specs.Seen.{heading_of, record_of, AreSound, Follows}

-- the record behind a reach whose header says this, at a moment
abbrev pub record_by : Reach → Heading → ℕ → Record
record_by reach heading last = record {
  included = heading.included;
  original = heading.original;
  after = record { base = Some heading.base; last = last; count = reach.count + 1; at = reach.at + (16 + heading.included) };
}

-- the moment is the one that the header says
same_moment : (late : Bool) (moment last : ℕ) → (if late then None else Some moment) ≡ Some last → (late ≡ false) × (moment ≡ last)
same_moment true moment last e = absurd cc
same_moment false moment last e = (refl, cc)

is_none : (late : Bool) (moment : ℕ) → (if late then None else Some moment) ≡ None → late ≡ true
is_none true moment e = refl
is_none false moment e = absurd cc

module _ (form : Form) (start : Start) (reach : Reach) (octets : List ℕ) where
  said : (heading : Heading) (last : ℕ) → heading ≡ heading_of form start reach octets → heading.moment ≡ Some last
      → (is_late form start reach octets ≡ false) × (moment_at start reach (time_of form octets) ≡ last)
  said heading last is says =
      same_moment (is_late form start reach octets) (moment_at start reach (time_of form octets)) last (sym (ap (λ (t : Heading). t.moment) is) ∙ says)

  pub record_said : (heading : Heading) (last : ℕ) → heading ≡ heading_of form start reach octets → heading.moment ≡ Some last
      → Some (record_by reach heading last) ≡ (if is_late form start reach octets then None else Some (record_of form start reach octets))
  record_said heading last is says =
      let s = said heading last is says in
      rw s.0 (ap (λ (t : Heading). Some (record_by reach t last)) is ∙ ap (λ (n : ℕ). Some (record_by reach (heading_of form start reach octets) n)) (sym s.1))

  pub none_said : (heading : Heading) → heading ≡ heading_of form start reach octets → heading.moment ≡ None
      → None ≡ (if is_late form start reach octets then None else Some (record_of form start reach octets))
  none_said heading is says =
      let late = is_none (is_late form start reach octets) (moment_at start reach (time_of form octets)) (sym (ap (λ (t : Heading). t.moment) is) ∙ says) in
      rw late refl

  pub follows_said : (heading : Heading) (last : ℕ) → heading ≡ heading_of form start reach octets → heading.moment ≡ Some last → AreSound reach heading
      → Follows reach (record_by reach heading last)
  follows_said heading last is says sound = record {
    captured = sound.captured;
    most = sound.most;
    number = refl;
    few = omega (arith, sound.few);
    later = omega (arith, (said heading last is says).1);
    place = refl;
  }
