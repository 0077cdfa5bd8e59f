-- Where the tables begin.
use Rattle.rm_model.specs.Counting.{Counting}
use Rattle.rm_model.specs.Journal.{Journal}
use Rattle.rm_group.specs.Least.{AreFrom}
use Rattle.rm_keyed.specs.SourceControl.{TableEntry}
use Rattle.rm_keyed.proofs.TwoLaws.{all_from}
use Rattle.rm_sourced.specs.Sourcing.{Sourcing, control_table}
use Rattle.rm_sourced.specs.Shown.{ShownTable, table_after}
use Rattle.rm_sourced.specs.Collection.{source_cells}
use Rattle.rm_sourced.specs.Laws.{IsLawful}

-- after a journal they begin with the control table
pub cells_from : {K C R : Type 0} (entry : TableEntry) (sourcing : Sourcing K C R) (first second : ShownTable K R) → IsLawful entry sourcing first second
    → (settings : Counting) (journal : Journal) → AreFrom entry.numbers (source_cells entry sourcing first second settings journal)
cells_from entry sourcing first second laws settings journal =
    all_from (table_after first entry sourcing settings journal) (table_after second entry sourcing settings journal) (control_table entry sourcing settings journal) laws.first_below laws.second_below
