use Rattle.std.proofs.Common.{◌≡◌, ◌≤◌, refl, sym, subst, length, List, Some, slice_get, true}
use Rattle.std.proofs.lemmas.Option.{slice_get_read}
use denote.RawPtr.{Ptr}
use Rattle.rm_rows.specs.Index.{IsIndex, IsCut}
use Rattle.rm_rows.proofs.Members.{at_in}
use Rattle.rm_rows.proofs.KeptLemmas.{is_index, member_at}
use Rattle.rm_rows.proofs.NextLemmas.{first_none, first_some}
use Rattle.rm_rows.proofs.first.first_row.Goals as goal

pub first_place-requires-clause-index : goal.first_place-requires-clause-index
first_place-requires-clause-index g c =
    let k = c.requires.kept.1 in
    subst (IsIndex g.K.Ord.cmp c.args.list.now) (sym c.deref-2.ensures.value) (is_index g.K.Ord.cmp c.args.list.now c.requires.kept.0 k.rs c.args.index.now.items k.links k.recency k.stored)

pub row-requires : goal.row-requires
row-requires g c =
    let k = c.requires.kept.1 in let xs = c.args.index.now.items in let i = c.first_place.result in let p = c.in-Some.ptr.now in let seen = c.deref.result.now in
    let read : slice_get seen i ≡ Some p = slice_get_read seen (length seen) i p refl c.in-Some.ensures.lookup.3.0 c.in-Some.ensures.lookup.1 in
    member_at g.K.Ord.cmp c.args.list.now c.requires.kept.0 k.rs xs k.links k.recency k.stored p
    (k.stored.index.back p (at_in p xs i (subst (λ (l : List Ptr). slice_get l i ≡ Some p) c.deref.ensures.value read)))

pub returns-in-Some : goal.returns-in-Some
returns-in-Some g c =
    let xs = c.args.index.now.items in let i = c.first_place.result in let p = c.in-Some.ptr.now in let seen = c.deref.result.now in
    let read : slice_get seen i ≡ Some p = slice_get_read seen (length seen) i p refl c.in-Some.ensures.lookup.3.0 c.in-Some.ensures.lookup.1 in
    let cut = subst (λ (l : List Ptr). IsCut c.args.list.now l (λ k. g.A.Above.is_above c.args.point.now k ≡ true) i) c.deref-2.ensures.value c.first_place.ensures in
    λ es k. first_some g.K.Ord.cmp g.met.K.Ord.total c.args.list.now xs es k (λ k. g.A.Above.is_above c.args.point.now k ≡ true) i cut p c.row.result.now
    (subst (λ (l : List Ptr). slice_get l i ≡ Some p) c.deref.ensures.value read) c.row.ensures

pub returns-in-None : goal.returns-in-None
returns-in-None g c =
    let xs = c.args.index.now.items in let i = c.first_place.result in
    let cut = subst (λ (l : List Ptr). IsCut c.args.list.now l (λ k. g.A.Above.is_above c.args.point.now k ≡ true) i) c.deref-2.ensures.value c.first_place.ensures in
    λ es k. first_none g.K.Ord.cmp g.met.K.Ord.total c.args.list.now xs es k (λ k. g.A.Above.is_above c.args.point.now k ≡ true) i cut
    (subst (λ (l : List Ptr). length l ≤ i) c.deref.ensures.value c.in-None.ensures.lookup.3)
