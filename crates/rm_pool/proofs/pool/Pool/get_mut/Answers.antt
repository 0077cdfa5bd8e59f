use Rattle.rm_pool.specs.Slots.{kept}
use Rattle.rm_pool.proofs.Lent.{lent_is, lent_apart, found}
use Rattle.rm_pool.proofs.pool.Pool.get_mut.Goals as goal

pub invariant_of-self-lent : goal.invariant_of-self-lent
invariant_of-self-lent g c = λ r. (λ w. lent_apart c.self.inside.slots c.place-place.result w c.self.invariant, c.self.invariant)

pub returns : goal.returns
returns g c =
    let here = c.place-place.ensures in
    let seen = c.self.view_is in
    let is = λ (w : g.row.P.Denot). lent_is c.self.inside.slots c.args.row c.place-place.result w here in
    let f = found (kept c.self.inside.slots) c.args.row c.place-place.result c.kept_at.result here c.kept_at.ensures.value c.kept_at.ensures.none in
    (simp (is, seen), record { writes_back = tt; value = rw (← seen) f.0; none = rw (← seen) f.1 })
