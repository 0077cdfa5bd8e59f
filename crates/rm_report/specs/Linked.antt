-- What a control row of hosts has seen since an earlier journal.
use Rattle.std.specs.Prelude.{◌≡◌, ℕ, ◌≤◌, List, [], ◌∷◌, ◌++◌, length}
use Rattle.std.specs.List.{AllByRecursion}
use Rattle.rm_model.specs.Journal.{Journal, frames_in}
use Rattle.rm_model.specs.ControlRows.{no_rows}
use Rattle.rm_acts.specs.Seen.{Seen, seen_since}
use Rattle.rm_hosts.specs.Control.{host_control, control_set}

-- frames that were seen after a journal
abbrev pub AreLater : (from : Journal) → List Seen → Type 0
AreLater from seen = AllByRecursion (λ one. (length from ≤ length one.before) × (length (frames_in from) ≤ length (frames_in one.before))) seen

-- The row has been valid since before the end of the earlier journal, and has seen frames of one data source; or it has seen frames only
-- after it.
pub data HasSeen (from journal : Journal) (row : ℕ) : Type 0 where
  goes_on : (later : List Seen) → AreLater from later → seen_since host_control no_rows journal (row ∷ []) ≡ later ++ seen_since host_control no_rows from (row ∷ [])
      → control_set journal (row ∷ []) 2 ≡ control_set from (row ∷ []) 2 → HasSeen from journal row
  begins_anew : AreLater from (seen_since host_control no_rows journal (row ∷ [])) → HasSeen from journal row

-- a journal goes on from an earlier one
pub record IsLinked (from journal : Journal) (row : ℕ) : Type 0 where
  pub acts : length from ≤ length journal
  pub frames : length (frames_in from) ≤ length (frames_in journal)
  pub seen : HasSeen from journal row
