-- That the cells of historyControl and etherHistory are finitely many.
use Rattle.std.proofs.Common.{◌≡◌, ℕ, ◌≤◌, List, [], ◌∷◌, Bool, true}
use Rattle.rm_model.specs.Counting.{Counting}
use Rattle.rm_model.specs.Journal.{Journal}
use Rattle.rm_model.specs.Cells.{cells_of}
use Rattle.rm_model.specs.Finite.{AreFinite}
use Rattle.rm_model.proofs.Finite.{both_finite, table_finite}
use Rattle.rm_nested.proofs.Finite.{rows_of, in_rows, numbered_of, in_numbered}
use Rattle.rm_history.specs.Buckets.{complete_at, is_shown}
use Rattle.rm_history.specs.BucketLaws.{shown_tells}
use Rattle.rm_history.specs.HistoryControl.{history_control, control_table, plan_of}
use Rattle.rm_history.specs.EtherHistory.{sample_table}
use Rattle.rm_history.specs.Collection.{history_cells}

module _ (journal : Journal) (now : ℕ) where
  -- which buckets of a row are shown at a moment, and how many are complete
  abbrev shows : ℕ → ℕ → Bool
  shows row bucket = is_shown (plan_of journal (row ∷ [])) now bucket

  abbrev last : ℕ → ℕ
  last row = complete_at (plan_of journal (row ∷ [])) now

  low : (row bucket : ℕ) → shows row bucket ≡ true → bucket ≤ last row
  low row bucket shown = (shown_tells (plan_of journal (row ∷ [])) now bucket shown).1

  -- the indexes that buckets can have
  abbrev buckets_of : List (List ℕ)
  buckets_of = numbered_of history_control journal shows last low

pub control_finite : (journal : Journal) → AreFinite (cells_of (control_table journal))
control_finite journal = table_finite (control_table journal) (rows_of history_control journal) (in_rows history_control journal)

pub samples_finite : (settings : Counting) (journal : Journal) (now : ℕ) → AreFinite (cells_of (sample_table settings journal now))
samples_finite settings journal now =
    table_finite (sample_table settings journal now) (buckets_of journal now) (in_numbered history_control journal (shows journal now) (last journal now) (low journal now))

-- the cells of both are finitely many
pub history_finite : (settings : Counting) (journal : Journal) (now : ℕ) → AreFinite (history_cells settings journal now)
history_finite settings journal now =
    both_finite (cells_of (control_table journal)) (cells_of (sample_table settings journal now)) (control_finite journal) (samples_finite settings journal now)
