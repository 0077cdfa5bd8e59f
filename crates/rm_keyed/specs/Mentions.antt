-- What the frames of a control row's data source mention.
use Rattle.std.specs.Prelude.{ℕ, List, [], ◌∷◌, filter, flat_map}
use Rattle.rm_model.specs.Journal.{Journal}
use Rattle.rm_model.specs.Interfaces.{is_interface}
use Rattle.rm_model.specs.ControlTable.{ControlTable}
use Rattle.rm_model.specs.ControlRows.{no_rows, value_of}
use Rattle.rm_acts.specs.Seen.{Seen, seen_since}
use Rattle.rm_evicting.specs.Mention.{Mention}

-- The mentions of a row, the newest first: those of the frames of its data source, which column 2 holds, since it became valid. A frame
-- that was seen says what it mentions.
abbrev pub mentions_since : {K V : Type 0} → ControlTable → (Seen → List (Mention K V)) → Journal → (row : ℕ) → List (Mention K V)
mentions_since table mentioned journal row =
    flat_map mentioned
    (filter (λ seen. is_interface (value_of table no_rows journal (row ∷ []) 2) seen.frame.interface) (seen_since table no_rows journal (row ∷ [])))
