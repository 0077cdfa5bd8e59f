use Rattle.rm_recency.proofs.ThreadLemmas.{front_at, at_some_as, same_trans, front_list}
use Rattle.rm_recency.proofs.RecencyList.link_front.Goals as goal

pub set_prev-requires-2 : goal.set_prev-requires-2
set_prev-requires-2 g c =
    at_some_as c.args.self.now c.set_prev.new.self
    (same_trans c.args.self.now c.set_next-2.new.self c.set_prev.new.self (same_trans c.args.self.now c.set_next.new.self c.set_next-2.new.self c.set_next.ensures.nodes c.set_next-2.ensures.nodes) c.set_prev.ensures.nodes)
    c.newest-front.result (front_at c.args.self.now c.requires.1.0 c.requires.1.1 c.newest-front.result c.newest-front.ensures)

pub returns-clause-list : goal.returns-clause-list
returns-clause-list g c =
    λ ps h none. front_list c.args.self.now ps h c.set_next.new.self c.set_next-2.new.self c.set_prev.new.self c.set_prev-2.new.self c.args.ptr
    c.newest-front.result c.requires.0 none c.newest-front.ensures c.set_next.ensures c.set_next-2.ensures c.set_prev.ensures c.set_prev-2.ensures
