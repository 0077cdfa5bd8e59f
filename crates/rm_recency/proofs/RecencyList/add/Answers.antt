use Rattle.std.proofs.Common.{◌∙◌}
use Rattle.rm_recency.proofs.RowLemmas.{added}
use Rattle.rm_recency.proofs.RecencyList.add.Goals as goal

pub returns : goal.returns
returns g c =
    added c.args.self.now c.push_reserved.new.self _ c.link_to.result.ptr c.push_reserved.ensures.items c.push_reserved.ensures.len c.push_reserved.ensures.in_place c.push_reserved.ensures.capacity
    c.link_to.ensures.link (c.link_to.ensures.place ∙ c.len-place.ensures)
