use Rattle.std.proofs.Common.{◌≡◌, ap, ◌∙◌, subst, List, Some, slice_get}
use denote.RawPtr.{Ptr}
use Rattle.rm_rows.specs.Index.{IsGap}
use Rattle.rm_rows.proofs.KeptLemmas.{key_place, gap_none}
use Rattle.rm_rows.proofs.index.place_of.Goals as goal

pub unreachable-requires : goal.unreachable-requires
unreachable-requires g c =
    gap_none g.K.Ord.cmp g.met.K.Ord.total c.args.list.now c.args.index.now.items c.requires.index c.args.key.now c.in-Err.field-0 c.requires.held.0
    (subst (λ (xs : List Ptr). IsGap g.K.Ord.cmp c.args.list.now xs c.args.key.now c.in-Err.field-0) c.deref.ensures.value c.in-Err.ensures.absent) c.requires.held.1 c.requires.held.2

pub returns : goal.returns
returns g c =
    λ p member key.
    let xs = c.args.index.now.items in let i = c.in-Ok.place in
    let found = c.in-Ok.ensures.found in
    let got : slice_get xs i ≡ Some found.0 = subst (λ (l : List Ptr). slice_get l i ≡ Some found.0) c.deref.ensures.value found.1 in
    let same : found.0 ≡ p = key_place g.K.Ord.cmp g.met.K.Ord.total c.args.list.now xs c.requires.index i found.0 p c.args.key.now got found.2 member key in
    got ∙ ap (λ (q : Ptr). Some q) same
