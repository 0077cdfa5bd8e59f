-- What follows for a journal from what holds of the rows that are held.
use Rattle.std.proofs.Common.{◌≡◌, ℕ, List, length, Option, subst}
use Rattle.rm_val.specs.Val.{Val}
use Rattle.rm_val.specs.declared.error.ErrorStatus.{ErrorStatus}
use Rattle.rm_model.specs.Cells.{Cells, IsNext}
use Rattle.rm_model.specs.ControlTable.{ControlTable}
use Rattle.rm_model.specs.ControlRows.{Beginning}
use Rattle.rm_model.specs.Journal.{Journal}
use Rattle.rm_model.specs.Judgement.{Bindings, IsFirstFault, second_pass, rows_after}
use Rattle.rm_model.specs.declared.verdict.Verdict.{Verdict}
use Rattle.rm_model.proofs.Alike.{second_pass_alike}
use Rattle.rm_status.specs.declared.row.Row.{Row}
use Rattle.rm_status.specs.Rows.{rows_before}
use Rattle.rm_status.specs.RowsAfter.{AreRowsAfter}

-- the second pass on rows that are those after a journal is that on the journal's
pub judged_after : {C : Type 0} (t : ControlTable) (beginning : Beginning) (set_to : C → ℕ → Option Val) (rows : List (Row C)) (journal : Journal) → AreRowsAfter t beginning set_to rows journal → (bs : Bindings) (verdict : Verdict)
    → IsFirstFault (length bs) (second_pass t (rows_before t set_to rows) bs) verdict → IsFirstFault (length bs) (second_pass t (rows_after t beginning journal) bs) verdict
judged_after t beginning set_to rows journal is bs verdict first =
    let same = second_pass_alike t (rows_before t set_to rows) (rows_after t beginning journal) is.alike bs in
    subst (λ (fault : ℕ → Option ErrorStatus). IsFirstFault (length bs) fault verdict) (λ d k. same k d) first

-- what is next among cells is next among the same cells
pub same_next : (shown after : Cells) → ((name : List ℕ) → shown name ≡ after name) → (asked found : List ℕ) (value : Option Val) → IsNext shown asked value found → IsNext after asked value found
same_next shown after same asked found value next = subst (λ (cells : Cells). IsNext cells asked value found) (λ d name. same name d) next
