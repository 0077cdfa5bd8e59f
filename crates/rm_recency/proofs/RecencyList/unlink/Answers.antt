use Rattle.rm_recency.proofs.ThreadLemmas.{here_at, next_at, prev_at, at_some_as, unlink_list}
use Rattle.rm_recency.proofs.RecencyList.unlink.Goals as goal

pub links-links-requires : goal.links-links-requires
links-links-requires g c = here_at c.args.self.now c.requires.0 c.args.ptr c.requires.1 c.requires.2

pub set_next-requires : goal.set_next-requires
set_next-requires g c = prev_at c.args.self.now c.requires.0 c.args.ptr c.requires.1 c.requires.2 c.links-links.result.prev c.links-links.ensures.prev

pub set_prev-requires : goal.set_prev-requires
set_prev-requires g c =
    at_some_as c.args.self.now c.set_next.new.self c.set_next.ensures.nodes c.links-links.result.next
    (next_at c.args.self.now c.requires.0 c.args.ptr c.requires.1 c.requires.2 c.links-links.result.next c.links-links.ensures.next)

pub returns-clause-list : goal.returns-clause-list
returns-clause-list g c =
    λ xs ys h. unlink_list c.args.self.now xs c.args.ptr ys h c.set_next.new.self c.set_prev.new.self c.links-links.result.prev c.links-links.result.next
    c.links-links.ensures.next c.links-links.ensures.prev c.set_next.ensures c.set_prev.ensures
