-- That frames and samples make no difference to the directory.
use Rattle.std.proofs.Common.{◌≡◌, ℕ, ◌+◌, ◌^◌, List, ◌∷◌, Bool, true, false, cond, not, ◌&&◌, nat_eq, nat_lt, Option, refl, sym, ap, ◌∙◌, arith}
use Rattle.std.specs.Prelude.{ℤ}
use Rattle.std.specs.Option.{option_map_or}
use Rattle.std.proofs.lemmas.Bool.Decides.{nat_tests}
use Rattle.rm_model.specs.Journal.{Act, Frame, Journal, passes, samples, moment_of}
use Rattle.rm_model.specs.ControlRows.{is_absent}
use Rattle.rm_columns.specs.Values.{natural_in}
use Rattle.rm_status.specs.RowsAfter.{AreRowsAfter}
use Rattle.rm_status.proofs.Held.{count_none}
use Rattle.rm_status.proofs.RowsAfterLemmas.{state_sampled, rows_passes, rows_samples}
use Rattle.rm_path.specs.Identifier.{number_of}
use Rattle.rm_dir.specs.declared.directory.Directory.{Directory}
use Rattle.rm_dir.specs.DirectoryIndex.{directory_index, protocol_of}
use Rattle.rm_dir.specs.DirectoryRows.{set_to}
use Rattle.rm_dir.specs.ProtocolDir.{protocol_dir, directory_beginning, directory_state, directory_value}
use Rattle.rm_dir.specs.LocalIndexes.{makes, count_made_below, greatest_given, local_index}
use Rattle.rm_dir.specs.LastChange.{removes, config_of, changes_config, changes, changes_some, last_change}
use Rattle.rm_dir.specs.Group.{Stands}

and_not : (b : Bool) → (b && not b) ≡ false
and_not true = refl
and_not false = refl

not_and : (b : Bool) → (not b && b) ≡ false
not_and true = refl
not_and false = refl

never : (a b : Bool) → (a && (b && false)) ≡ false
never true true = refl
never true false = refl
never false b = refl

itself : (n : ℕ) → nat_eq n n ≡ true
itself n = grind (arith, nat_tests)

-- an act after which each row is in the state in which it was, with the columns that it had
module _ (act : Act) (journal : Journal)
    (states : (index : List ℕ) → directory_state (act ∷ journal) index ≡ directory_state journal index)
    (values : (index : List ℕ) (column : ℕ) → directory_value (act ∷ journal) index column ≡ directory_value journal index column) where
  none_made : (index : List ℕ) → makes act journal index ≡ false
  none_made index = ap (λ s. is_absent (directory_state journal index) && not (is_absent s)) (states index) ∙ and_not (is_absent (directory_state journal index))

  none_removed : (index : List ℕ) → removes act journal index ≡ false
  none_removed index = ap (λ s. not (is_absent (directory_state journal index)) && is_absent s) (states index) ∙ not_and (is_absent (directory_state journal index))

  same_config : (index : List ℕ) (column : ℕ) → not (nat_eq (config_of (act ∷ journal) index column) (config_of journal index column)) ≡ false
  same_config index column = ap (λ v. not (nat_eq (natural_in v) (config_of journal index column))) (values index column) ∙ ap not (itself (config_of journal index column))

  none_configured : (index : List ℕ) (column : ℕ) → changes_config act journal index column ≡ false
  none_configured index column =
      ap (λ b. not (is_absent (directory_state journal index)) && (not (is_absent (directory_state (act ∷ journal) index)) && b)) (same_config index column)
      ∙ never (not (is_absent (directory_state journal index))) (not (is_absent (directory_state (act ∷ journal) index)))

  none_changed : (index : List ℕ) → changes act journal index ≡ false
  none_changed index = rw (none_made index, none_removed index, none_configured index 7, none_configured index 8) refl

  none_counted : count_made_below act journal (2 ^ 32) ≡ 0
  none_counted = count_none (λ row. makes act journal (directory_index row)) (2 ^ 32) (λ i _. none_made (directory_index i))

  no_change : changes_some act journal ≡ false
  no_change = ap (nat_lt 0) (count_none (λ row. changes act journal (directory_index row)) (2 ^ 32) (λ i _. none_changed (directory_index i)))

  same_given : greatest_given (act ∷ journal) ≡ greatest_given journal
  same_given = ap (λ n. greatest_given journal + n) none_counted ∙ plus_none (greatest_given journal)
    where
      plus_none : (n : ℕ) → n + 0 ≡ n
      plus_none n = omega arith

  same_local : (index : List ℕ) → local_index (act ∷ journal) index ≡ local_index journal index
  same_local index =
      ap (λ b. cond b (greatest_given journal + 1 + count_made_below act journal (option_map_or number_of (protocol_of index) 0)) (local_index journal index)) (none_made index)

  same_change : last_change (act ∷ journal) ≡ last_change journal
  same_change = ap (λ b. cond b (moment_of act) (last_change journal)) no_change

  goes_on : (directory : Directory) → Stands directory journal → AreRowsAfter protocol_dir directory_beginning set_to directory.rows (act ∷ journal) → Stands directory (act ∷ journal)
  goes_on directory stands rows = record {
    rows = rows;
    locals = λ i row here. stands.locals i row here ∙ sym (same_local (directory_index i));
    given = stands.given ∙ sym same_given;
    changed = stands.changed ∙ sym same_change;
  }

-- a frame that passes
pub stands_passed : (directory : Directory) (journal : Journal) (frame : Frame) → Stands directory journal → Stands directory (passes frame ∷ journal)
stands_passed directory journal frame stands =
    goes_on (passes frame) journal (λ index. refl) (λ index column. refl) directory stands (rows_passes protocol_dir directory_beginning set_to directory.rows journal frame stands.rows)

-- a sample of an alarm: the rows are no alarms
pub stands_sampled : (directory : Directory) (journal : Journal) (moment alarm : ℕ) (reading : Option ℤ) → Stands directory journal → Stands directory (samples moment alarm reading ∷ journal)
stands_sampled directory journal moment alarm reading stands =
    goes_on (samples moment alarm reading) journal (state_sampled protocol_dir directory_beginning refl journal moment alarm reading) (λ index column. refl) directory stands
    (rows_samples protocol_dir directory_beginning set_to refl directory.rows journal moment alarm reading stands.rows)
