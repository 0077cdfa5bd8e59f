-- The laws of what the active rows of a control table collect.
use Rattle.std.proofs.Common.{◌≡◌, ℕ, ◌*◌, true, List, ◌∷◌, Option, refl, sym, ◌∙◌}
use Rattle.std.specs.Prelude.{ℤ}
use Rattle.rm_model.specs.Counting.{Counting}
use Rattle.rm_model.specs.Journal.{Assignments, Journal, passes, assigns, samples}
use Rattle.rm_model.specs.ControlRows.{no_rows}
use Rattle.rm_model.specs.Finite.{AreFinite}
use Rattle.rm_model.specs.declared.row.State.TheVariants.{Valid}
use Rattle.rm_group.specs.Listed.{AreOfObjects, AreRefused, is_listed, is_settable}
use Rattle.rm_columns.specs.RowForm.{can_name}
use Rattle.rm_status.specs.declared.row.Row.{Row}
use Rattle.rm_status.specs.Rows.{AreControlRows}
use Rattle.rm_status.specs.RowsAfter.{AreRowsAfter}
use Rattle.rm_keyed.specs.SourceControl.{TableEntry}
use Rattle.rm_pool.specs.declared.slot.Slot.{Slot}
use Rattle.rm_pool.specs.Slots.{part_in}
use Rattle.rm_collect.specs.Collection.{IsLawful, alone, kept}
use Rattle.rm_collect.specs.Rows.{GoesOn, IsKept}
use Rattle.rm_layer_tables.specs.declared.layer_columns.LayerColumns.{LayerColumns}
use Rattle.rm_layer_tables.specs.Collection.{ShownTables, layer_collection}
use Rattle.rm_layer_tables.specs.Control.{layer_control, control_state}
use Rattle.rm_layer_tables.specs.ControlColumns.{set_to, layer_rows}
use Rattle.rm_layer_tables.specs.Going.{sampled, going_on, shared_still}
use Rattle.rm_layer_tables.specs.Parts.{Holding, IsPart, IsBegunPart}
use Rattle.rm_layer_tables.specs.RangeLaws.{blank_in_range, put_in_range}
use Rattle.rm_layer_tables.specs.ReadyLaws.{ready_later, ready_next}

module _ {P K G A : Type 0} (holding : Holding P K G A) where
  -- a sample makes no difference to a part
  one_sample : (settings : Counting) (journal : Journal) (moment alarm : ℕ) (reading : Option ℤ) (row : ℕ) (part : P) → IsPart holding settings journal row part
      → IsPart holding settings (samples moment alarm reading ∷ journal) row part
  one_sample settings journal moment alarm reading row part is = record {
    source = is.source;
    held = sampled holding.layer holding.tally holding.eq settings row journal moment alarm reading (holding.table_of part) is.held;
  }

  -- nor does a Set over which the row goes on, before what the Set turns is turned
  set_begun : (settings : Counting) (moment : ℕ) (values : Assignments) (earlier : Journal) (row : ℕ) (part : P) → control_state holding.layer.control earlier row ≡ Valid
      → GoesOn (layer_control holding.layer.control) row earlier (assigns moment values ∷ earlier) → IsPart holding settings earlier row part
      → IsBegunPart holding settings (assigns moment values) earlier row part
  set_begun settings moment values earlier row part valid going is = record {
    source = is.source ∙ sym (going.set 2 refl refl);
    held = going_on holding.layer holding.tally holding.eq settings moment values earlier row (holding.table_of part) valid going is.held;
  }

  abbrev entry : can_name 1 holding.layer.control ≡ true → TableEntry
  entry named = record { numbers = holding.layer.control; named = named }

  -- by what holds of the tables: rows and parts that are those after a journal show what the tables have; the cells are finitely many, each of an object
  -- that is listed; and what can't be set is notWritable
  pub layer_lawful : {T : Type 0} (shown : ShownTables P) (named : can_name 1 holding.layer.control ≡ true)
      → ((parts : List (Slot P)) (settings : Counting) (journal : Journal) → ((row : ℕ) → IsKept (layer_control holding.layer.control) (IsPart holding) settings journal row (part_in parts row))
      → (now : ℕ) (rows : List (Row (LayerColumns T))) → AreControlRows (layer_control holding.layer.control) rows → AreRowsAfter (layer_control holding.layer.control) no_rows set_to rows journal
      → (name : List ℕ) → kept (layer_rows {T = T} (entry named)) (layer_collection holding shown) rows parts now name ≡ shown.cells settings journal now name)
      → ((settings : Counting) (journal : Journal) (now : ℕ) → AreFinite (shown.cells settings journal now))
      → ((settings : Counting) (journal : Journal) (now : ℕ) → AreOfObjects (is_listed shown.tables) (shown.cells settings journal now))
      → AreRefused (is_listed shown.tables) (is_settable (layer_control holding.layer.control)) (alone (layer_rows {T = T} (entry named)) (layer_collection holding shown))
      → IsLawful (layer_rows {T = T} (entry named)) (layer_collection holding shown)
  unfolding layer_rows
  layer_lawful shown named same finite listed refused = record {
    blank_in_range = λ index. blank_in_range;
    put_in_range = put_in_range holding.layer.control;
    fits_later = λ last now frames part. ready_later (holding.table_of part) (2 * frames) last now;
    fits_taken = λ judged seen frames part new ready takes. ready_next (holding.table_of new) frames seen.moment takes.ready;
    is_of_taken = λ settings journal row frame judged part new valid judges fits is takes. takes.stands settings row journal frame refl refl refl judges is;
    is_of_sampled = λ settings journal moment alarm reading row part valid going is. one_sample settings journal moment alarm reading row part is;
    begun_going = λ settings moment values earlier row part valid still going is. set_begun settings moment values earlier row part valid going is;
    suits_taken = λ settings journal frame shared are. shared_still holding.layer.kind (passes frame) settings journal shared tt are;
    suits_sampled = λ settings journal moment alarm reading shared are. shared_still holding.layer.kind (samples moment alarm reading) settings journal shared tt are;
    same = λ settings journal now rows parts held is are later. same parts settings journal are now rows held is;
    same_sampled = λ settings journal now rows parts held is are later name. refl;
    recurring = λ settings one other journal alike now name. refl;
    finite = finite;
    by_number = refl;
    unsampled = refl;
    shows_listed = listed;
    refuses_listed = refused;
  }
