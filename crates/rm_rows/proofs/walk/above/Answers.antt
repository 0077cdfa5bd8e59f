use Rattle.std.proofs.Common.{◌≡◌, ◌<◌, sym, subst, List, Some, slice_get, arith}
use Rattle.std.proofs.lemmas.Option.{slice_get_within}
use denote.RawPtr.{Ptr}
use Rattle.rm_rows.specs.Index.{IsIndex}
use Rattle.rm_rows.proofs.KeptLemmas.{is_index}
use Rattle.rm_rows.proofs.TouchLemmas.{place_within}
use Rattle.rm_rows.proofs.NextLemmas.{cut_hit}
use Rattle.rm_rows.proofs.walk.above.Goals as goal

pub find-requires : goal.find-requires
find-requires g c =
    let k = c.requires.1 in
    subst (IsIndex g.K.Ord.cmp c.args.list.now) (sym c.deref.ensures.value) (is_index g.K.Ord.cmp c.args.list.now c.requires.0 k.rs c.args.index.now.items k.links k.recency k.stored)

pub overflow_add-result : goal.overflow_add-result
overflow_add-result g c =
    let lt : c.in-Ok.place < c.args.index.now.len = place_within g.K.Ord.cmp c.args.list.now c.args.index.now c.deref.result.now c.deref.ensures.value c.in-Some.key c.in-Ok.place c.in-Ok.ensures.found in
    let a = c.args.index.now.ok.1 in let b = c.args.index.now.small in record { fits = omega arith }

pub returns-in-Ok : goal.returns-in-Ok
returns-in-Ok g c =
    let xs = c.args.index.now.items in let found = c.in-Ok.ensures.found in
    let got : slice_get xs c.in-Ok.place ≡ Some found.0 = subst (λ (l : List Ptr). slice_get l c.in-Ok.place ≡ Some found.0) c.deref.ensures.value found.1 in
    rw c.in-Some.is (cut_hit g.K.Ord.cmp g.met.K.Ord.total c.args.list.now xs c.in-Some.key c.in-Ok.place found.0 c.requires.1.stored.sorted (slice_get_within xs c.in-Ok.place found.0 got) got found.2)
