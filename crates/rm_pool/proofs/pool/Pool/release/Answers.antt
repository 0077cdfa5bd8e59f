use Rattle.std.proofs.Common.{sym, ap, ◌∙◌, subst, cond, None, length}
use Rattle.rm_pool.specs.Pools.{valid_in}
use Rattle.rm_pool.specs.Slots.{kept, part_in, AreApart}
use Rattle.rm_pool.proofs.Spares.{released_in, apart_released, length_released}
use Rattle.rm_pool.proofs.pool.Pool.release.Goals as goal

pub invariant_of-self : goal.invariant_of-self
invariant_of-self g c = subst AreApart (sym c.release_all.ensures) (apart_released (valid_in c.args.rows.now) (kept c.self.inside.slots) c.self.invariant)

pub returns-clause-parts : goal.returns-clause-parts
returns-clause-parts g c = λ row.
    ap (λ l. part_in l row) c.release_all.ensures ∙ released_in (valid_in c.args.rows.now) (kept c.self.inside.slots) row ∙ ap (λ l. cond (valid_in c.args.rows.now row) (part_in l row) None) c.self.view_is

pub returns-clause-size : goal.returns-clause-size
returns-clause-size g c =
    ap length c.release_all.ensures ∙ length_released (valid_in c.args.rows.now) (kept c.self.inside.slots) ∙ ap length c.self.view_is
