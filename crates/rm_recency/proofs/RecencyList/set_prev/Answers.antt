use Rattle.std.proofs.Common.{refl, subst}
use Rattle.rm_recency.specs.Threads.{IsAtSome}
use Rattle.rm_recency.proofs.SetLemmas.{prev_set}
use Rattle.rm_recency.proofs.RecencyList.set_prev.Goals as goal

pub returns-in-Some : goal.returns-in-Some
returns-in-Some g c =
    rw c.in-Some.is (prev_set c.args.self.now c.in-Some.ptr c.node_mut.result.now _ (subst (λ a. IsAtSome c.args.self.now a) c.in-Some.is c.requires) c.node_mut.ensures.value c.args.to refl refl)
