-- What is kept of a row of protocolDistControl is what a journal gives.
use Rattle.std.specs.Prelude.{◌≡◌, ℕ, [], ◌∷◌, ◌++◌, List, true, false, Option, Some, None, if◌then◌else◌}
use Rattle.rm_model.specs.Counting.{Counting}
use Rattle.rm_model.specs.Journal.{Journal}
use Rattle.rm_model.specs.ControlRows.{no_rows, activated, is_valid}
use Rattle.rm_dist.specs.declared.count.Count.{Count}
use Rattle.rm_dist.specs.declared.row.Tally.{Tally}
use Rattle.rm_dist.specs.Control.{dist_control, control_state}
use Rattle.rm_dist.specs.Counts.{Rising, count_in}
use Rattle.rm_dist.specs.DistStats.{are_some, packets_of, octets_of}
use Rattle.rm_dist.specs.Marks.{Mark, marks, new_marks, with_local}

-- the count of a local index, by some marks of it
abbrev pub count_by : (local : ℕ) → List Mark → Option Count
count_by local those = if are_some those then Some (record { local = local; packets = packets_of those; octets = octets_of those }) else None

-- the same by marks of several
abbrev pub count_of : List Mark → (local : ℕ) → Option Count
count_of some local = count_by local (with_local local some)

-- counts are those of marks
abbrev pub AreOfMarks : List Mark → List Count → Type 0
AreOfMarks some counts = (local : ℕ) → count_in counts local ≡ count_of some local

-- a row has counted since it became active, by these marks
pub record IsTallyOf (some : List Mark) (journal : Journal) (row : ℕ) (tally : Tally) : Type 0 where
  pub active : is_valid (control_state journal row) ≡ true
  pub since : tally.since ≡ activated dist_control no_rows journal (row ∷ [])
  pub rise : Rising tally.counts
  pub counts : AreOfMarks some tally.counts

-- exactly a row that is active has counted
abbrev pub IsTalliedBy : List Mark → Journal → (row : ℕ) → Option Tally → Type 0
IsTalliedBy some journal row None = is_valid (control_state journal row) ≡ false
IsTalliedBy some journal row (Some tally) = IsTallyOf some journal row tally

-- by the marks that the row has after a journal
abbrev pub IsTally : Counting → Journal → (row : ℕ) → Tally → Type 0
IsTally settings journal row tally = IsTallyOf (marks settings row journal) journal row tally

abbrev pub IsTallied : Counting → Journal → (row : ℕ) → Option Tally → Type 0
IsTallied settings journal row tally = IsTalliedBy (marks settings row journal) journal row tally

-- the marks of an active row before those go whose protocols aren't active any more after the newest act
abbrev pub unsifted : Counting → (row : ℕ) → Journal → List Mark
unsifted settings row [] = []
unsifted settings row (act ∷ earlier) = new_marks settings row act earlier ++ marks settings row earlier
