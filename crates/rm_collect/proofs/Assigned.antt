-- What is held after a Set with which nothing is wrong.
use Rattle.std.proofs.Common.{◌≡◌, ℕ, ◌≤◌, List, true, None}
use Rattle.rm_model.specs.Counting.{Counting}
use Rattle.rm_model.specs.Journal.{Assignments, Journal, assigns, last_moment, value_given}
use Rattle.rm_model.specs.ControlRows.{no_rows}
use Rattle.rm_model.specs.Judgement.{Bindings}
use Rattle.rm_columns.specs.RowForm.{RowForm}
use Rattle.rm_status.specs.declared.row.Row.{Row}
use Rattle.rm_status.specs.Rows.{row_in, AreControlRows}
use Rattle.rm_status.specs.Commit.{row_after}
use Rattle.rm_status.specs.Fine.{AreFine}
use Rattle.rm_status.proofs.Committed.{IsCommitted}
use Rattle.rm_status.proofs.Puts.{AllFine, all_fine}
use Rattle.rm_pool.specs.declared.slot.Slot.{Slot}
use Rattle.rm_pool.specs.Slots.{part_in, has_part}
use Rattle.rm_pool.specs.Pools.{valid_in, IsOfValid, IsThere}
use Rattle.rm_collect.specs.Collection.{Collection, IsLawful}
use Rattle.rm_collect.specs.Held.{Held}
use Rattle.rm_collect.specs.WellHeld.{IsWellHeld}
use Rattle.rm_collect.specs.Begun.{valid_columns, Begins}
use Rattle.rm_collect.specs.Group.{Stands, HasBegunSet}
use Rattle.rm_collect.proofs.InRange.{rows_in_range}
use Rattle.rm_collect.proofs.AfterSets.{rows_with_set, parts_with_set, all_fit_then}

module _ {C P S J : Type 0} (form : RowForm C) (collection : Collection C P S J) (laws : IsLawful form collection) {held seen : Held C P S} (is_seen : held ≡ seen) (well : IsWellHeld collection held)
    (now : ℕ) (later : seen.last ≤ now) (bs : Bindings) (fine : AreFine form seen.rows bs) (new : List (Row C)) (after : (i : ℕ) → row_in new i ≡ row_after form.table form.with_column form.blank bs i (row_in held.rows i))
    (then : List (Slot P)) (of_valid : IsOfValid then new)
    (stays : (row : ℕ) → valid_in new row ≡ true → has_part held.parts row ≡ true → part_in then row ≡ part_in held.parts row)
    (begun : (row : ℕ) → valid_in new row ≡ true → part_in held.parts row ≡ None → IsThere (Begins form collection held.shared now (valid_columns new row)) (part_in then row)) where
  abbrev with_set : Held C P S
  with_set = record { rows = new; parts = then; shared = held.shared; frames = held.frames; last = now }

  bindings_fine : AllFine form.table bs
  bindings_fine = all_fine form.table bs fine.alone

  pub well_with_set : IsWellHeld collection with_set
  well_with_set = record {
    in_range = rows_in_range form collection laws bs held.rows new bindings_fine after well.in_range;
    fits = all_fit_then form collection laws held.shared held.last now held.frames (rw is_seen later) new held.parts then well.fits of_valid stays begun;
    of_valid = of_valid;
  }

  pub begun_with_set : (settings : Counting) (journal : Journal) (values : Assignments) → AreControlRows form.table held.rows → Stands form collection seen settings journal → last_moment journal ≤ now
      → ((name : List ℕ) → value_given values name ≡ value_given bs name) → HasBegunSet form collection with_set settings (assigns now values) journal
  begun_with_set settings journal values ordered stands reached gives =
      let stood : Stands form collection held settings journal = rw is_seen stands in
      let set : IsCommitted form no_rows journal values bs held.rows new =
      record { gives = gives; fine = rw is_seen fine; held = ordered; stood = stood.rows; after = after } in
      record {
        suits = stood.suits;
        given = stood.given;
        rows = rows_with_set form journal now bs values held.rows new set;
        parts = parts_with_set form collection laws held.shared settings journal stood.suits now reached bs values held.rows new set held.parts then stood.parts of_valid stays begun;
      }
