use Rattle.std.proofs.Common.{rules}
use Rattle.std.proofs.lemmas.List.Sorted.{answers_always}
use Rattle.rm_dist.proofs.SearchLemmas.{searched}
use Rattle.rm_dist.proofs.counts.search.Goals as goal

pub returns : goal.returns
returns c =
    let facts = c.binary_search_by_key.ensures in
    let by_key = facts.position (λ count. count.local) (answers_always _ _ _ (λ f a r g called. search rules)) in
    let it = searched _ c.requires c.args.local _ facts.bound by_key in
    record { found = it.found; missing = it.missing }
