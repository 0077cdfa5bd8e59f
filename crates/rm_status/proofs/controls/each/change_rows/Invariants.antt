use Rattle.std.proofs.Common.{◌≡◌, ◌++◌, map, take, drop}
use Rattle.rm_status.specs.Change.{changed_row}
use Rattle.rm_status.proofs.controls.each.change_rows.Given as goal

abbrev pub invariant-loop-row : goal.invariant-loop-row
invariant-loop-row g l =
    l.rows ≡ map (changed_row (g.V.Change.changed l.how)) (take l.row-index l.initial.rows) ++ drop l.row-index l.initial.rows
