-- The mentions of a row that takes one more frame, and of one that isn't valid.
use Rattle.std.proofs.Common.{◌≡◌, ℕ, List, [], ◌∷◌, ◌++◌, Bool, true, false, cond, ◌&&◌, refl, ap, ◌∙◌, filter}
use Rattle.std.specs.Prelude.{flat_map}
use Rattle.std.proofs.lemmas.List.Concat.{flat_map-cons}
use Rattle.rm_val.specs.Val.{Val}
use Rattle.rm_model.specs.Journal.{Frame, Journal, passes}
use Rattle.rm_model.specs.Interfaces.{is_interface}
use Rattle.rm_model.specs.ControlTable.{ControlTable}
use Rattle.rm_model.specs.ControlRows.{no_rows, is_valid, state_of, value_of}
use Rattle.rm_acts.specs.Seen.{Seen, with_act, seen_since}
use Rattle.rm_evicting.specs.Mention.{Mention}
use Rattle.rm_keyed.specs.Mentions.{mentions_since}

and_idle : (a b : Bool) → b ≡ false → (a && b) ≡ false
and_idle true b idle = idle
and_idle false b idle = refl

-- a row that isn't valid has seen no frame
seen_idle : (table : ControlTable) (journal : Journal) (index : List ℕ) → is_valid (state_of table no_rows journal index) ≡ false → seen_since table no_rows journal index ≡ []
seen_idle table [] index idle = refl
seen_idle table (act ∷ earlier) index idle =
    ap (λ t. cond t (with_act act earlier (seen_since table no_rows earlier index)) [])
    (and_idle (is_valid (state_of table no_rows earlier index)) (is_valid (state_of table no_rows (act ∷ earlier) index)) idle)

module _ {K V : Type 0} (table : ControlTable) (mentioned : Seen → List (Mention K V)) (journal : Journal) (row : ℕ) where
  abbrev source : Val
  source = value_of table no_rows journal (row ∷ []) 2

  abbrev seen : List Seen
  seen = seen_since table no_rows journal (row ∷ [])

  abbrev said : List Seen → List (Mention K V)
  said some = flat_map mentioned (filter (λ each. is_interface source each.frame.interface) some)

  one_more : (newest : Seen) → said (newest ∷ seen) ≡ cond (is_interface source newest.frame.interface) (mentioned newest) [] ++ said seen
  one_more newest =
      elim (is_interface source newest.frame.interface) as (λ t. flat_map mentioned (cond t (newest ∷ filter (λ each. is_interface source each.frame.interface) seen) (filter (λ each. is_interface source each.frame.interface) seen)) ≡ cond t (mentioned newest) [] ++ said seen) [
        | true ↦ flat_map-cons mentioned newest (filter (λ each. is_interface source each.frame.interface) seen)
        | false ↦ refl
      ]

  -- a frame of the data source of a valid row is mentioned before the others
  pub mentions_passed : (frame : Frame) → is_valid (state_of table no_rows journal (row ∷ [])) ≡ true
      → mentions_since table mentioned (passes frame ∷ journal) row ≡ cond (is_interface source frame.interface) (mentioned (record { frame = frame; before = journal })) [] ++ mentions_since table mentioned journal row
  mentions_passed frame valid =
      ap (λ t. said (cond (t && t) (record { frame = frame; before = journal } ∷ seen) [])) valid
      ∙ one_more (record { frame = frame; before = journal })

  -- a row that isn't valid has none
  pub mentions_idle : is_valid (state_of table no_rows journal (row ∷ [])) ≡ false → mentions_since table mentioned journal row ≡ []
  mentions_idle idle = ap said (seen_idle table journal (row ∷ []) idle)
