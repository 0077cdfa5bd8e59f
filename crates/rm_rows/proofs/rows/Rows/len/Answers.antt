use Rattle.std.proofs.Common.{◌≡◌, ◌≤◌, sym, ◌∙◌, length, subst, arith}
use Rattle.rm_evicting.proofs.Keys.{exact_key}
use Rattle.rm_rows.proofs.TouchLemmas.{rows_count}
use Rattle.rm_rows.proofs.rows.Rows.len.Goals as goal

pub returns-clause-value : goal.returns-clause-value
returns-clause-value g c =
    let exact = exact_key g.K.PartialEq.eq g.K.Ord.cmp g.met.K.Eq.laws g.met.K.Ord.matches_eq g.met.K.Key.exact in
    let h = c.self.invariant.holds in
    subst (λ w. c.len.result ≡ length w.rows) c.self.view_is
    (c.len.ensures ∙ h.count ∙ sym (rows_count g.K.Ord.cmp g.met.K.Ord.total g.K.PartialEq.eq exact c.self.inside.list c.self.inside.entered.items c.self.inside.index.items h.kept))

pub returns-clause-within : goal.returns-clause-within
returns-clause-within g c =
    let i = c.self.invariant in let h = i.holds in let a = h.count in let b = h.few in let d = i.within in let e = c.len.ensures in
    subst (λ w. c.len.result ≤ w.room) c.self.view_is (omega arith)
