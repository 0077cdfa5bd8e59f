-- Which Sets nothing is wrong with, by the rows of a control table.
use Rattle.std.specs.Prelude.{List, length}
use Rattle.rm_model.specs.Judgement.{Bindings, first_pass, second_pass, IsFirstFault}
use Rattle.rm_model.specs.declared.verdict.Verdict.TheVariants.{Fine}
use Rattle.rm_columns.specs.RowForm.{RowForm}
use Rattle.rm_status.specs.declared.row.Row.{Row}
use Rattle.rm_status.specs.Rows.{rows_before}

-- both passes find nothing wrong with a Set, by the rows that are held
pub record AreFine {C : Type 0} (form : RowForm C) (rows : List (Row C)) (bindings : Bindings) : Type 0 where
  pub alone : IsFirstFault (length bindings) (first_pass form.table bindings) Fine
  pub together : IsFirstFault (length bindings) (second_pass form.table (rows_before form.table form.set_to rows) bindings) Fine
