-- The numbers of the rows that have a part, where the index of a row is one number.
use Rattle.std.proofs.Common.{◌≡◌, ℕ, List, true, sym, subst, ◌∙◌, arith}
use Rattle.rm_model.specs.ControlTable.{ControlTable}
use Rattle.rm_model.specs.Indexing.{Indexing, one_number, one_within}
use Rattle.rm_status.specs.declared.row.Row.{Row}
use Rattle.rm_status.specs.Rows.{AreControlRows}
use Rattle.rm_status.proofs.RowFacts.{valid_number}
use Rattle.rm_pool.specs.declared.slot.Slot.{Slot}
use Rattle.rm_pool.specs.Pools.{IsOfValid, AreNumbered}

pub numbered : {P C : Type 0} (t : ControlTable) → t.indexing ≡ one_number → (pool : List (Slot P)) (rows : List (Row C)) → AreControlRows t rows → IsOfValid pool rows → AreNumbered pool
numbered t one pool rows held of_valid row has =
    let fits = one_within row (subst (λ (indexing : Indexing). indexing.is_row row ≡ true) one (valid_number t rows row held.1 (sym (of_valid row) ∙ has))) in
    omega (arith, fits)
