use Rattle.std.proofs.Common.{rules}
use Rattle.std.proofs.lemmas.List.Sorted.{answers_always}
use Rattle.rm_path.proofs.OrderLemmas.{searched}
use Rattle.rm_path.proofs.protocols.place_of.Goals as goal

pub returns : goal.returns
returns c =
    let facts = c.binary_search_by_key.ensures in
    let by_key = facts.position (λ entry. entry.number) (answers_always _ _ _ (λ f a r g called. search rules)) in
    let it = searched _ c.requires c.args.number _ facts.bound by_key in
    record { found = it.found; absent = it.absent }
