use Rattle.std.proofs.Common.{sym, subst, ◌∙◌}
use Rattle.std.specs.Option.{option_map}
use Rattle.rm_val.specs.Val.{val_of}
use Rattle.rm_model.specs.Cells.{IsNext}
use Rattle.rm_group.proofs.Leasts.{is_below, first_before}
use Rattle.rm_group.proofs.nearer.nearer_in.Goals as goal

pub returns-then-is_under-clause-next : goal.returns-then-is_under-clause-next
returns-then-is_under-clause-next g c cells settings journal next stands later askable =
    let found = c.args.out.now in
    let under = is_below found c.least.result.now (sym c.is_under.ensures ∙ c.if-is_under.true) in
    first_before cells (g.G.Group.cells settings journal c.args.now) c.args.name.now found c.least.result.now (val_of c.in-Some.value)
    (subst (λ one. IsNext cells c.args.name.now (option_map val_of one) found) c.in-Some.is next) under (c.least.ensures.from settings journal c.args.now)
