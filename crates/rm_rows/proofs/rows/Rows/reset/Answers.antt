use Rattle.std.proofs.Common.{◌≤◌, arith, sym, subst}
use Rattle.rm_rows.proofs.TouchLemmas.{empty_reserved}
use Rattle.rm_rows.proofs.rows.Rows.reset.Goals as goal

pub invariant_of-self : goal.invariant_of-self
invariant_of-self g c =
    let i = c.self.invariant in let n = i.nodes in let p = i.places in let r = i.ring in let a = c.clear.ensures.capacity in let d = c.clear-2.ensures.capacity in let b = c.clear-3.ensures.capacity in
    let within : c.args.capacity ≤ c.self.inside.room = subst (λ w. c.args.capacity ≤ w.room) (sym c.self.view_is) c.requires.within in
    empty_reserved g.K.Ord.cmp c.clear.new.self c.clear-2.new.self c.clear-3.new.self c.clear.ensures.empty c.clear-2.ensures.items c.clear-3.ensures.items c.self.inside.room c.args.capacity c.requires.some within (omega arith) (omega arith) (omega arith)
