-- The form of rows, from a line for each column.
use Rattle.std.proofs.Common.{◌≡◌, ℕ, ◌+◌, ◌≤◌, List, [], ◌∷◌, length, true, ◌&&◌, Option, None, refl, sym, subst, nat_eq, arith}
use Rattle.std.specs.Prelude.{nat_le}
use Rattle.std.proofs.lemmas.Bool.Decides.{nat_tests}
use Rattle.rm_val.specs.Val.{Val}
use Rattle.rm_val.specs.Spellable.{IsSpellable}
use Rattle.rm_model.specs.Alike.{HasSameColumns}
use Rattle.rm_model.specs.ControlTable.{ControlTable, RowRules, no_rules, row_index}
use Rattle.rm_model.specs.Judgement.{is_sound}
use Rattle.rm_model.specs.Sheet.{are_apart}
use Rattle.rm_group.specs.Search.{are_rising}
use Rattle.rm_columns.specs.Field.{first_in}
use Rattle.rm_columns.specs.RowForm.{RowForm, can_name}
use Rattle.rm_columns.specs.SheetLaws.{row_begins}
use Rattle.rm_columns.proofs.ColumnLaws.{Sets, set_of}

-- The form in which a type keeps the rows of a table whose rows are all alike. A new row has what each column begins with, and a column
-- that is set has what it was set to.
abbrev pub row_form : {C : Type 0} (table : ControlTable) (shown : List ℕ) (set_to : C → ℕ → Option Val) (blank : C) (with_column : C → ℕ → Val → C)
    → ((n : ℕ) → set_to blank n ≡ first_in table.columns n)
    → ((row : C) (n : ℕ) (value : Val) → Sets table.columns n value (set_to row) (set_to (with_column row n value)))
    → table.rules ≡ no_rules → is_sound table ≡ true → are_apart table.columns ≡ true → are_rising shown ≡ true → can_name table.indexing.longest table.entry ≡ true → RowForm C
row_form table shown set_to blank with_column begins sets plain sound apart rising named = record {
  table = table;
  shown = shown;
  set_to = set_to;
  blank = λ index. blank;
  with_column = with_column;
  blank_alike = λ index. subst (λ (rules : RowRules). HasSameColumns table (set_to blank) (rules.first (row_index table index))) (sym plain) (row_begins table (set_to blank) begins apart);
  set_with = λ row n other value fine. set_of table.columns n other value (set_to row) (set_to (with_column row n value)) (sets row n value) fine;
  sound = sound;
  apart = apart;
  rising = rising;
  named = named;
}

-- what can name cells has a spelling, and leaves room for a column and an index
pub names_spell : (longest : ℕ) (entry : List ℕ) → can_name longest entry ≡ true → IsSpellable entry
names_spell longest [] named = absurd (cc)
names_spell longest (first ∷ []) named = absurd (cc)
names_spell longest (first ∷ second ∷ more) named =
    let one : first ≡ 1 = grind (arith, nat_tests) in
    let three : second ≡ 3 = grind (arith, nat_tests) in
    (omega arith, λ _. omega arith, omega arith)

pub names_fit : (longest : ℕ) (entry : List ℕ) → can_name longest entry ≡ true → length entry + longest ≤ 127
names_fit longest [] named = absurd (cc)
names_fit longest (first ∷ []) named = absurd (cc)
names_fit longest (first ∷ second ∷ more) named = let few : length more + longest ≤ 125 = grind (arith, nat_tests) in omega arith
