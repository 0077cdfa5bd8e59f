-- That what alarms read by recursion is what the cells read, and that nothing else is.
use Rattle.std.proofs.Common.{◌≡◌, ℕ, ◌≤◌, List, [], ◌∷◌, length, true, false, refl, sym, ap, ◌∙◌, nat_eq, arith}
use Rattle.std.proofs.lemmas.Bool.Decides.{nat_tests}
use Rattle.rm_model.specs.Counting.{Counting}
use Rattle.rm_model.specs.Journal.{Act, Journal}
use Rattle.rm_model.specs.Readings.{Readings}
use Rattle.rm_acts.specs.Recurring.{Sampleable, reading_of, read, with_readings, readings_before, readings_after, sampling, ReadAlikeBefore, ReadBefore}

module _ (cells : Sampleable) (settings : Counting) (only_before : ReadBefore cells) where
  abbrev before : Journal → (Journal → ℕ → Readings)
  before = readings_before cells settings

  abbrev after : Journal → ℕ → Readings
  after = readings_after cells settings

  -- one act more makes no difference to what is read after a journal that is earlier still
  longer : (act : Act) (earlier journal : Journal) → length journal ≤ length earlier
      → ReadAlikeBefore (before earlier) after journal → ReadAlikeBefore (before (act ∷ earlier)) after journal
  longer act earlier [] short alike = tt
  longer act earlier (a ∷ k) short alike =
      let differs : nat_eq (length k) (length earlier) ≡ false = grind (arith, nat_tests) in
      let shorter : length k ≤ length earlier = omega arith in
      (λ now name. rw differs (alike.0 now name), longer act earlier k shorter alike.1)

  alike_before : (journal : Journal) → ReadAlikeBefore (before journal) after journal
  alike_before [] = tt
  alike_before (act ∷ earlier) =
      let same : nat_eq (length earlier) (length earlier) ≡ true = grind (arith, nat_tests) in
      let short : length earlier ≤ length earlier = omega arith in
      (λ now name. rw same refl, longer act earlier earlier short (alike_before earlier))

  -- what is read after a journal is what the cells read by it
  pub reads_cells : (journal : Journal) (now : ℕ) (name : List ℕ)
      → after journal now name ≡ read (cells (sampling cells settings) journal now) name
  reads_cells journal now name = ap reading_of (only_before settings (before journal) after journal (alike_before journal) now name)

  module _ (readings : Journal → ℕ → Readings)
      (reads : (journal : Journal) (now : ℕ) (name : List ℕ) → readings journal now name ≡ read (cells (with_readings settings readings) journal now) name) where
    at : (journal : Journal) → ReadAlikeBefore readings after journal → (now : ℕ) (name : List ℕ)
        → readings journal now name ≡ after journal now name
    at journal earlier now name =
        reads journal now name ∙ (ap reading_of (only_before settings readings after journal earlier now name) ∙ sym (reads_cells journal now name))

    alike : (journal : Journal) → ReadAlikeBefore readings after journal
    alike [] = tt
    alike (act ∷ earlier) = (at earlier (alike earlier), alike earlier)

    -- readings that are what the cells read by them are these
    pub reads_alone : (journal : Journal) (now : ℕ) (name : List ℕ) → readings journal now name ≡ after journal now name
    reads_alone journal = at journal (alike journal)
