use Rattle.std.proofs.Common.{sym, subst, List}
use denote.RawPtr.{Ptr}
use Rattle.rm_evicting.proofs.Keys.{exact_key}
use Rattle.rm_rows.specs.Index.{IsIndex, IsGap}
use Rattle.rm_rows.proofs.KeptLemmas.{is_index}
use Rattle.rm_rows.proofs.TouchLemmas.{place_within, found_in, found_key_of, seek_none}
use Rattle.rm_rows.proofs.index.indexed_node.Goals as goal

pub find-requires : goal.find-requires
find-requires g c =
    let k = c.requires.1 in
    subst (IsIndex g.K.Ord.cmp c.args.list.now) (sym c.deref.ensures.value) (is_index g.K.Ord.cmp c.args.list.now c.requires.0 k.rs c.args.index.now.items k.links k.recency k.stored)

pub index-requires : goal.index-requires
index-requires g c = place_within g.K.Ord.cmp c.args.list.now c.args.index.now c.deref.result.now c.deref.ensures.value c.args.key.now c.in-Ok.place c.in-Ok.ensures.found

pub returns-in-Ok-clause-some : goal.returns-in-Ok-clause-some
returns-in-Ok-clause-some g c = (
  found_in g.K.Ord.cmp c.args.list.now c.args.index.now c.deref.result.now c.deref.ensures.value c.args.key.now c.in-Ok.place c.in-Ok.ensures.found c.index.result.now c.index.ensures,
  found_key_of g.K.Ord.cmp c.args.list.now c.args.index.now c.deref.result.now c.deref.ensures.value c.args.key.now c.in-Ok.place c.in-Ok.ensures.found c.index.result.now c.index.ensures,
)

pub returns-in-Err-clause-none : goal.returns-in-Err-clause-none
returns-in-Err-clause-none g c =
    let exact = exact_key g.K.PartialEq.eq g.K.Ord.cmp g.met.K.Eq.laws g.met.K.Ord.matches_eq g.met.K.Key.exact in
    λ es k. seek_none g.K.Ord.cmp g.met.K.Ord.total g.K.PartialEq.eq exact c.args.list.now es c.args.index.now.items k c.args.key.now c.in-Err.field-0
    (subst (λ (l : List Ptr). IsGap g.K.Ord.cmp c.args.list.now l c.args.key.now c.in-Err.field-0) c.deref.ensures.value c.in-Err.ensures.absent)
