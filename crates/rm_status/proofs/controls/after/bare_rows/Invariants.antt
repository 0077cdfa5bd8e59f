use Rattle.std.proofs.Common.{◌≡◌, take, length}
use Rattle.rm_status.specs.Bare.{bare_rows}
use Rattle.rm_status.proofs.controls.after.bare_rows.Given as goal

abbrev pub invariant-loop-row : goal.invariant-loop-row
invariant-loop-row g l = record {
  taken : bare_rows g.C.ControlRow.form.set_to l.bare.items ≡ bare_rows g.C.ControlRow.form.set_to (take l.row-index l.row-items);
  items : l.row-items ≡ l.rows.items;
  count : length l.bare.items ≡ l.row-index;
}
