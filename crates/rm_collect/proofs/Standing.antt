-- Where each row has the part that it had, nothing changes for a caller. What a caller sees is what was held before.
use Rattle.std.proofs.Common.{◌≡◌, ℕ, List, ◌∷◌, sym, ap, subst, ◌∙◌}
use Rattle.std.specs.Prelude.{is_some}
use Rattle.rm_model.specs.Counting.{Counting}
use Rattle.rm_model.specs.Journal.{Act, Journal}
use Rattle.rm_columns.specs.RowForm.{RowForm}
use Rattle.rm_pool.specs.declared.slot.Slot.{Slot}
use Rattle.rm_pool.specs.Slots.{part_in}
use Rattle.rm_pool.specs.Pools.{Allowed}
use Rattle.rm_collect.specs.Rows.{IsKept}
use Rattle.rm_collect.specs.Collection.{Collection, begun_by}
use Rattle.rm_collect.specs.Held.{Held}
use Rattle.rm_collect.specs.WellHeld.{IsWellHeld}
use Rattle.rm_collect.specs.Group.{Stands, HasBegunSet}

module _ {C P S J : Type 0} (form : RowForm C) (collection : Collection C P S J) {held seen : Held C P S} (is_seen : held ≡ seen) (parts : List (Slot P)) (same : (row : ℕ) → part_in parts row ≡ part_in held.parts row) where
  abbrev with_parts : Held C P S
  with_parts = record held { parts = parts }

  pub still_stands : (settings : Counting) (journal : Journal) → Stands form collection seen settings journal → Stands form collection with_parts settings journal
  still_stands settings journal stands =
      let stood : Stands form collection held settings journal = rw is_seen stands in
      record {
        suits = stood.suits;
        given = stood.given;
        rows = stood.rows;
        parts = λ row. subst (IsKept form.table collection.is_of settings journal row) (sym (same row)) (stood.parts row);
      }

  pub still_begun : (settings : Counting) (act : Act) (earlier : Journal) → HasBegunSet form collection seen settings act earlier → HasBegunSet form collection with_parts settings act earlier
  still_begun settings act earlier begun =
      let had : HasBegunSet form collection held settings act earlier = rw is_seen begun in
      record {
        suits = had.suits;
        given = had.given;
        rows = had.rows;
        parts = λ row. subst (IsKept form.table (begun_by collection act earlier) settings (act ∷ earlier) row) (sym (same row)) (had.parts row);
      }

  pub still_well_held : IsWellHeld collection held → IsWellHeld collection with_parts
  still_well_held well = record {
    in_range = well.in_range;
    fits = λ row. subst (Allowed (collection.fits held.last held.frames)) (sym (same row)) (well.fits row);
    of_valid = λ row. ap is_some (same row) ∙ well.of_valid row;
  }
