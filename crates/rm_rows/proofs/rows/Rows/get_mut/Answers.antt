use Rattle.rm_evicting.proofs.Keys.{exact_key}
use Rattle.rm_recency.specs.Lending.{with_value_at}
use Rattle.rm_rows.proofs.ValueLemmas.{none_for, node_at_some, lent_kept_at, lent_rows_at, lent_len_at, lent_is, lent_reserved}
use Rattle.rm_rows.proofs.rows.Rows.get_mut.Goals as goal

pub value_at-requires : goal.value_at-requires
value_at-requires g c =
    let exact = exact_key g.K.PartialEq.eq g.K.Ord.cmp g.met.K.Eq.laws g.met.K.Ord.matches_eq g.met.K.Key.exact in
    node_at_some g.K.Ord.cmp g.met.K.Ord.total g.K.PartialEq.eq exact c.self.inside.list c.self.inside.entered.items c.self.inside.index.items c.self.invariant.holds.kept c.args.key.now c.node_of-ptr.result c.node_of-ptr.ensures.some

pub invariant_of-self-lent : goal.invariant_of-self-lent
invariant_of-self-lent g c =
    let exact = exact_key g.K.PartialEq.eq g.K.Ord.cmp g.met.K.Eq.laws g.met.K.Ord.matches_eq g.met.K.Key.exact in
    let t = c.self.inside.list in let es = c.self.inside.entered.items in let xs = c.self.inside.index.items in let k = c.self.invariant.holds.kept in let o = c.node_of-ptr.result in let i = c.node_of-ptr.ensures.some in let h = c.args.key.now in
    λ r. (
      (λ w. let l = lent_len_at g.K.Ord.cmp g.met.K.Ord.total g.K.PartialEq.eq exact t es xs k h o w i in
          lent_reserved g.K.Ord.cmp t (with_value_at t o w) c.self.inside.entered c.self.inside.index c.self.inside.room c.self.inside.capacity c.self.invariant (lent_kept_at g.K.Ord.cmp g.met.K.Ord.total g.K.PartialEq.eq exact t es xs k h o w i) l.0 l.1),
      c.self.invariant,
    )

pub returns : goal.returns
returns g c =
    let exact = exact_key g.K.PartialEq.eq g.K.Ord.cmp g.met.K.Eq.laws g.met.K.Ord.matches_eq g.met.K.Key.exact in
    let t = c.self.inside.list in let es = c.self.inside.entered.items in let xs = c.self.inside.index.items in let k = c.self.invariant.holds.kept in let o = c.node_of-ptr.result in let h = c.args.key.now in
    let i = c.node_of-ptr.ensures.some in let n = none_for g.K.Ord.cmp g.met.K.Ord.total g.K.PartialEq.eq exact t es xs k h o c.node_of-ptr.ensures.none in
    let seen = c.self.view_is in
    let f = lent_is g.K.Ord.cmp g.met.K.Ord.total g.K.PartialEq.eq exact t es xs k h o c.value_at.result i n c.value_at.ensures.value c.value_at.ensures.none in
    (simp (← seen, (λ (w : g.row.V.Denot). lent_rows_at g.K.Ord.cmp g.met.K.Ord.total g.K.PartialEq.eq exact t es xs k h o w i n)), record { writes_back = tt; value = rw (← seen) f.0; none = rw (← seen) f.1 })
