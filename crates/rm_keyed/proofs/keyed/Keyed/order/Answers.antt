use Rattle.rm_evicting.proofs.Keys.{exact_key}
use Rattle.rm_keyed.proofs.HeldRows.{rank_here}
use Rattle.rm_keyed.proofs.keyed.Keyed.order.Goals as goal

pub returns : goal.returns
returns g c = λ mentions is.
    let exact = exact_key g.K.PartialEq.eq g.K.Ord.cmp g.met.K.Eq.laws g.met.K.Ord.matches_eq g.met.K.Key.exact in
    rw (c.order.ensures, c.rows.ensures.value) (rank_here g.K.PartialEq.eq exact g.V.Blank.blank_value g.V.Counts.plus c.args.self.now.rows.capacity mentions c.args.self.now.rows.rows is.rows c.args.key.now)
