-- A Set that was begun is whole where nothing is to be turned by it, and once what is has been turned.
use Rattle.std.proofs.Common.{◌≡◌, ℕ, List, [], ◌∷◌, Option, Some, None, sym, ◌∙◌}
use Rattle.rm_model.specs.Counting.{Counting}
use Rattle.rm_model.specs.Journal.{Act, Assignments, Journal, passes, assigns, samples}
use Rattle.rm_columns.specs.RowForm.{RowForm}
use Rattle.rm_pool.specs.declared.slot.Slot.{Slot}
use Rattle.rm_pool.specs.Slots.{part_in}
use Rattle.rm_pool.specs.Pools.{Allowed, Became}
use Rattle.rm_collect.specs.Rows.{IsKept}
use Rattle.rm_collect.specs.Collection.{Collection, begun_by}
use Rattle.rm_collect.specs.Held.{Held}
use Rattle.rm_collect.specs.WellHeld.{IsWellHeld}
use Rattle.rm_collect.specs.Group.{Stands, HasBegunSet, HasBegun}
use Rattle.rm_collect.specs.Turned.{IsTurned}
use Rattle.rm_collect.proofs.Becoming.{still_has}

module _ {C P S J : Type 0} (form : RowForm C) (collection : Collection C P S J) (settings : Counting) (moment : ℕ) (values : Assignments) (earlier : Journal) where
  abbrev set : Act
  set = assigns moment values

  -- nothing is to be turned
  module _ (whole : (row : ℕ) (part : P) → collection.has_begun settings set earlier row part → collection.is_of settings (set ∷ earlier) row part) where
    kept_whole : (row : ℕ) (o : Option P) → IsKept form.table (begun_by collection set earlier) settings (set ∷ earlier) row o → IsKept form.table collection.is_of settings (set ∷ earlier) row o
    kept_whole row None idle = idle
    kept_whole row (Some part) is = (is.0, whole row part is.1)

    pub whole_stands : (held : Held C P S) → collection.suits held.shared settings (set ∷ earlier) → HasBegunSet form collection held settings set earlier → Stands form collection held settings (set ∷ earlier)
    whole_stands held suits begun = record {
      suits = suits;
      given = begun.given;
      rows = begun.rows;
      parts = λ row. kept_whole row (part_in held.parts row) (begun.parts row);
    }

-- What a Set turns has been turned for each row, by what rows share after it, where this is what a caller sees before.
module _ {C P S J : Type 0} (form : RowForm C) (collection : Collection C P S J) {held seen : Held C P S} (is_seen : held ≡ seen) (shared : S) (parts : List (Slot P))
    (became : (row : ℕ) → Became (IsTurned collection shared held.frames) (part_in held.parts row) (part_in parts row)) where
  abbrev with_turned : Held C P S
  with_turned = record { rows = held.rows; parts = parts; shared = shared; frames = held.frames; last = held.last }

  fit_turned : (o n : Option P) → Became (IsTurned collection shared held.frames) o n → Allowed (collection.fits held.last held.frames) o → Allowed (collection.fits held.last held.frames) n
  fit_turned None None b fit = tt
  fit_turned None (Some new) b fit = absurd b
  fit_turned (Some part) None b fit = absurd b
  fit_turned (Some part) (Some new) b fit = b.fits held.last fit

  pub well_turned : IsWellHeld collection held → IsWellHeld collection with_turned
  well_turned well = record {
    in_range = well.in_range;
    fits = λ row. fit_turned (part_in held.parts row) (part_in parts row) (became row) (well.fits row);
    of_valid = λ row. still_has (IsTurned collection shared held.frames) (part_in held.parts row) (part_in parts row) (became row) ∙ well.of_valid row;
  }

  module _ (settings : Counting) (moment : ℕ) (values : Assignments) (earlier : Journal) (suits : collection.suits shared settings (assigns moment values ∷ earlier))
      (begun : HasBegunSet form collection held settings (assigns moment values) earlier) where
    kept_turned : (row : ℕ) (o n : Option P) → Became (IsTurned collection shared held.frames) o n
        → IsKept form.table (begun_by collection (assigns moment values) earlier) settings (assigns moment values ∷ earlier) row o
        → IsKept form.table collection.is_of settings (assigns moment values ∷ earlier) row n
    kept_turned row None None b is = is
    kept_turned row None (Some new) b is = absurd b
    kept_turned row (Some part) None b is = absurd b
    kept_turned row (Some part) (Some new) b is = (is.0, b.turned settings moment values earlier row (sym begun.given) suits is.1)

    set_turned : Stands form collection with_turned settings (assigns moment values ∷ earlier)
    set_turned = record {
      suits = suits;
      given = begun.given;
      rows = begun.rows;
      parts = λ row. kept_turned row (part_in held.parts row) (part_in parts row) (became row) (begun.parts row);
    }

  pub stands_turned : (settings : Counting) (journal : Journal) → ((earlier : Journal) → collection.suits held.shared settings earlier → collection.suits shared settings journal)
      → HasBegun form collection seen settings journal → Stands form collection with_turned settings journal
  stands_turned settings [] suits begun = absurd begun
  stands_turned settings (passes frame ∷ earlier) suits begun = absurd begun
  stands_turned settings (samples moment alarm reading ∷ earlier) suits begun = absurd begun
  stands_turned settings (assigns moment values ∷ earlier) suits begun =
      let had : HasBegunSet form collection held settings (assigns moment values) earlier = rw is_seen begun in set_turned settings moment values earlier (suits earlier had.suits) had
