use Rattle.std.proofs.Common.{◌≡◌, Option, subst, option_map}
use Rattle.rm_val.specs.Val.{Val, val_of}
use Rattle.rm_collect.proofs.group.CollectingGroup.cell.Goals as goal

pub returns-clause-value : goal.returns-clause-value
returns-clause-value g c settings journal stands later askable =
    let held = c.args.self.now in
    let same = g.met.P.Collected.laws.same settings journal c.args.now held.rows held.parts c.shown_at.ensures.rows stands.rows stands.parts later c.args.name.now in
    subst (λ (shown : Option Val). option_map val_of c.shown_at.result ≡ shown) same c.shown_at.ensures.value
