use Rattle.std.proofs.Common.{sym, ◌∙◌}
use Rattle.rm_val.specs.Val.{val_of}
use Rattle.rm_group.proofs.Leasts.{is_below, second_before}
use Rattle.rm_group.proofs.both.BothGroup.after.Goals as goal

pub returns-then-is_under-clause-next : goal.returns-then-is_under-clause-next
returns-then-is_under-clause-next g c settings journal stands later askable =
    let found = c.after.new.out in
    let least = c.least-then-is_before in
    let under = is_below found least.result.now (sym c.is_under.ensures ∙ c.if-is_under.true) in
    second_before (g.G.Group.cells settings journal c.args.now) (g.H.Group.cells settings journal c.args.now) c.args.name.now found least.result.now (val_of c.in-Some.value)
    (c.in-Some.ensures.next settings journal stands.second later askable.1) under (least.ensures.from settings journal c.args.now)
