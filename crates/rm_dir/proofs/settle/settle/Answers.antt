use Rattle.std.proofs.Common.{◌∙◌, ap, sym, arith}
use Rattle.std.specs.Prelude.{nat_lt}
use Rattle.rm_dir.proofs.Settles.{begun, room, one_further, all_fresh, all_changed, all_rows}
use Rattle.rm_dir.proofs.settle.settle.Goals as goal

pub loop-number-init : goal.loop-number-init
loop-number-init c = begun c.args.rows.now c.len.ensures.rows c.args.given

pub with_row-so_far-requires : goal.with_row-so_far-requires
with_row-so_far-requires c = room c.args.rows.now c.len.ensures.rows c.args.given _ _ _ _ c.loop-number.invariant _ c.in-Some.ensures.least c.requires

pub loop-number-smaller : goal.loop-number-smaller
loop-number-smaller c =
    let next = one_further c.args.rows.now c.len.ensures.rows c.args.given _ _ _ _ c.loop-number.invariant _ c.in-Some.ensures.least _ _ _ c.with_row-so_far.ensures.given c.with_row-so_far.ensures.changed c.change_each.ensures in
    let above = c.in-Some.ensures.least.0 in
    omega (arith, next.within, above)

pub loop-number-preserved : goal.loop-number-preserved
loop-number-preserved c = one_further c.args.rows.now c.len.ensures.rows c.args.given _ _ _ _ c.loop-number.invariant _ c.in-Some.ensures.least _ _ _ c.with_row-so_far.ensures.given c.with_row-so_far.ensures.changed c.change_each.ensures

pub returns-clause-rows : goal.returns-clause-rows
returns-clause-rows c = all_rows c.args.rows.now c.len.ensures.rows c.args.given _ _ _ _ c.loop-number.invariant c.in_default.ensures.least

pub returns-clause-given : goal.returns-clause-given
returns-clause-given c =
    let end = all_fresh c.args.rows.now c.len.ensures.rows c.args.given _ _ _ _ c.loop-number.invariant c.in_default.ensures.least in
    let is = c.loop-number.invariant.count in
    omega (arith, end, is)

pub returns-clause-changed : goal.returns-clause-changed
returns-clause-changed c = c.loop-number.invariant.changes ∙ ap (nat_lt 0) (sym (all_changed c.args.rows.now c.len.ensures.rows c.args.given _ _ _ _ c.loop-number.invariant c.in_default.ensures.least))
