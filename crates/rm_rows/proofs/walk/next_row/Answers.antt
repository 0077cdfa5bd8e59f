use Rattle.std.proofs.Common.{◌≡◌, ◌≤◌, sym, ap, ◌∙◌, subst, Some, slice_get, arith, inl, inr}
use Rattle.std.proofs.lemmas.Option.{slice_get_read}
use Rattle.rm_evicting.specs.declared.Row.{Row}
use Rattle.rm_rows.specs.Table.{IsAbove}
use Rattle.rm_rows.proofs.Members.{of_some, compared, at_in}
use Rattle.rm_recency.specs.Threads.{row_at}
use Rattle.std.proofs.lemmas.Bool.{both_ways}
use Rattle.rm_rows.proofs.KeptLemmas.{member_at}
use Rattle.rm_rows.proofs.NextLemmas.{next_none, next_some, past_none}
use Rattle.rm_rows.proofs.walk.next_row.Goals as goal

pub row-row-requires : goal.row-row-requires
row-row-requires g c =
    let k = c.requires.1 in let v = c.args.index.now in let i = c.loop-place.place in let p = c.index.result.now in
    let got : slice_get v.items i ≡ Some p = slice_get_read v.items v.len i p v.ok.0 (let a = c.loop-place-test.true in let b = c.len-place-end.ensures in omega arith) c.index.ensures in
    member_at g.K.Ord.cmp c.args.list.now c.requires.0 k.rs v.items k.links k.recency k.stored p (k.stored.index.back p (at_in p v.items i got))

pub returns-then-reaches-clause-next : goal.returns-then-reaches-clause-next
returns-then-reaches-clause-next g c =
    let v = c.args.index.now in let i = c.loop-place.place in let p = c.index.result.now in
    let got : slice_get v.items i ≡ Some p = slice_get_read v.items v.len i p v.ok.0 (let a = c.loop-place-test.true in let b = c.len-place-end.ensures in omega arith) c.index.ensures in
    λ es k. next_some g.K.Ord.cmp g.met.K.Ord.total c.args.list.now v.items es k c.args.mark (IsAbove g.K.Ord.cmp c.args.key) c.above-first.result c.above-first.ensures i p c.row-row.result.now (let a = c.loop-place.auto.place in omega arith) got c.row-row.ensures (c.reaches.ensures.reaches.0 c.if-reaches.true) c.loop-place.invariant

pub loop-place-preserved : goal.loop-place-preserved
loop-place-preserved g c =
    let v = c.args.index.now in let i = c.loop-place.place in let p = c.index.result.now in
    let got : slice_get v.items i ≡ Some p = slice_get_read v.items v.len i p v.ok.0 (let a = c.loop-place-test.true in let b = c.len-place-end.ensures in omega arith) c.index.ensures in
    λ j q r le lt g2 e up. elim (compared j i) [
      | inl less ↦ c.loop-place.invariant j q r le less g2 e up
      | inr m ↦ elim m [
        | inl same ↦ both_ways c.reaches.result c.if-reaches.false (c.reaches.ensures.reaches.1 (subst (λ (w : Row g.row.K.Denot g.row.V.Denot). c.args.mark ≤ w.tick) (of_some (sym e ∙ ap (row_at c.args.list.now) (of_some (sym g2 ∙ ap (slice_get v.items) same ∙ got)) ∙ c.row-row.ensures)) up))
        | inr more ↦ absurd (omega arith)
      ]
    ]

pub returns-clause-next : goal.returns-clause-next
returns-clause-next g c =
    let v = c.args.index.now in
    λ es k. next_none g.K.Ord.cmp g.met.K.Ord.total c.args.list.now v.items es k c.args.mark (IsAbove g.K.Ord.cmp c.args.key) c.above-first.result c.above-first.ensures
    (λ j q r le lt got e up. c.loop-place.invariant j q r le (let a = c.loop-place-test.false in let b = c.len-place-end.ensures in let d = v.ok.0 in omega arith) got e up)

pub returns-then-is_past-clause-next : goal.returns-then-is_past-clause-next
returns-then-is_past-clause-next g c =
    let v = c.args.index.now in
    λ es k. past_none g.K.Ord.cmp c.args.list.now es v.items k c.args.mark c.args.key
    (λ q s h e up. let past = c.is_past.ensures c.if-is_past.true es v.items q s k h e in omega arith)
