use Rattle.std.proofs.Common.{arith}
use Rattle.rm_rows.proofs.TouchLemmas.{empty_reserved}
use Rattle.rm_rows.proofs.rows.Rows.clear.Goals as goal

pub invariant_of-self : goal.invariant_of-self
invariant_of-self g c =
    let i = c.self.invariant in let n = i.nodes in let p = i.places in let r = i.ring in let a = c.clear.ensures.capacity in let d = c.clear-2.ensures.capacity in let b = c.clear-3.ensures.capacity in
    empty_reserved g.K.Ord.cmp c.clear.new.self c.clear-2.new.self c.clear-3.new.self c.clear.ensures.empty c.clear-2.ensures.items c.clear-3.ensures.items c.self.inside.room c.self.inside.capacity i.holds.some i.within (omega arith) (omega arith) (omega arith)
