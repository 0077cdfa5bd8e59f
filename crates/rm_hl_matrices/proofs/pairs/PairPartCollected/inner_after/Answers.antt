use Rattle.rm_hl_matrices.specs.Collection.{pair_collection, networks_shown, applications_shown}
use Rattle.rm_hl_matrices.proofs.pairs.PairPartCollected.inner_after.Goals as goal

pub returns-clause-next : goal.returns-clause-next
unfolding pair_collection
returns-clause-next g c =
    c.choose_nearer.ensures.next (networks_shown c.args.parts.now c.args.now) (applications_shown c.args.parts.now c.args.now) c.args.name.now
    c.next_of_two-nearer.ensures.next c.next_of_two-application.ensures.next
