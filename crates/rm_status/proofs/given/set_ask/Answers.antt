use Rattle.std.proofs.Common.{◌≡◌, ℕ, List, [], ◌∷◌, true, false, sym, ◌∙◌, arith, below_more}
use Rattle.std.specs.Str.{bytes_eq}
use Rattle.rm_model.specs.ControlTable.{row_index}
use Rattle.rm_model.specs.ControlRows.{cell_name}
use Rattle.rm_model.specs.Judgement.{nothing_bound, name_at}
use Rattle.rm_group.proofs.Finds.{find_here, find_never}
use Rattle.rm_status.proofs.Asks.{ask_found, ask_none}
use Rattle.rm_status.proofs.given.set_ask.Goals as goal

pub returns-then-is_cell : goal.returns-then-is_cell
returns-then-is_cell g c =
    let t = g.C.ControlRow.form.table in
    let bs = g.A.Assigns.bindings c.args.set.now in
    let k = c.loop-place.place in
    let name : List ℕ = cell_name t.entry t.status (row_index t c.args.row) in
    let here : bytes_eq (name_at bs k) name ≡ true = rw (← c.requires, ← c.status.ensures, ← c.name-name.ensures.value) (sym c.if-is_cell.ensures) in
    let found = find_here (λ a. bytes_eq a.name name) nothing_bound bs k (omega (arith, c.count-count.ensures.value)) c.loop-place.invariant here in
    c.value_ask.ensures ∙ ask_found t bs c.args.row c.kind.result c.kind.ensures k _ found c.value-value.ensures.value

pub loop-place-preserved : goal.loop-place-preserved
loop-place-preserved g c =
    let t = g.C.ControlRow.form.table in
    let bs = g.A.Assigns.bindings c.args.set.now in
    let here : bytes_eq (name_at bs c.loop-place.place) (cell_name t.entry t.status (row_index t c.args.row)) ≡ false = rw (← c.requires, ← c.status.ensures, ← c.name-name.ensures.value) (sym c.if-is_cell.ensures) in
    below_more _ _ c.loop-place.invariant here

pub returns : goal.returns
returns g c =
    let t = g.C.ControlRow.form.table in
    let bs = g.A.Assigns.bindings c.args.set.now in
    ask_none t bs c.args.row (find_never (λ a. bytes_eq a.name (cell_name t.entry t.status (row_index t c.args.row))) nothing_bound bs (λ j h. c.loop-place.invariant j (omega (arith, c.count-count.ensures.value))))
