use Rattle.std.proofs.Common.{◌≡◌, arith, ap, ◌∙◌}
use Rattle.rm_status.specs.declared.row.Row.{Row}
use Rattle.rm_status.specs.Bare.{bare_row}
use Rattle.rm_status.proofs.Bares.{one_more_bare}
use Rattle.rm_status.proofs.controls.after.bare_rows.Goals as goal

pub loop-row-preserved : goal.loop-row-preserved
loop-row-preserved g c =
    let set_to = g.C.ControlRow.form.set_to in
    let rows = c.as_slice-row-items.result.now in
    let k = c.loop-row.row-index in
    let x = c.row-item.result in
    let y : Row g.row.C.Denot = record { index = x.index; state = x.state; columns = c.bare.result } in
    let e : bare_row set_to y ≡ bare_row set_to x = λ i. record { index = x.index; state = x.state; columns = λ n. c.bare.ensures n i } in
    record {
      taken = one_more_bare set_to rows c.loop-row.bare.items c.push.new.self.items k c.row-item.result y (omega arith) c.loop-row.invariant.taken (e ∙ ap (bare_row set_to) c.row-item.is) c.push.ensures.items;
      items = c.loop-row.invariant.items;
      count = omega (arith, c.push.ensures.len, c.loop-row.invariant.count);
    }
