use Rattle.std.proofs.Common.{◌≡◌, ℕ, ◌+◌, ◌-◌, ◌/◌, ◌<◌, ◌≤◌, Some, length, slice_get, arith}
use Rattle.std.proofs.lemmas.Option.{slice_get_read}
use Rattle.rm_rows.proofs.RankLemmas.{later, sooner, none_between}
use Rattle.rm_rows.proofs.ranks.find_entry.Goals as goal

pub returns-then-here-entry-clause-some : goal.returns-then-here-entry-clause-some
returns-then-here-entry-clause-some g c =
    let d = c.args.entered.now in let s = c.loop-low.invariant in let lt = c.loop-low-test.true in
    let w = s.within in let len : d.len ≡ length d.items = d.ok.0 in
    let got : slice_get d.items (c.loop-low.low + (c.loop-low.high - c.loop-low.low) / 2) ≡ Some c.index.result.now = slice_get_read d.items d.len (c.loop-low.low + (c.loop-low.high - c.loop-low.low) / 2) c.index.result.now len (omega arith) c.index.ensures in
    (c.index.result.now, got, (c.row.result.now, c.row.ensures, c.if-here-entry.true))

pub loop-low-preserved-then-here-entry-2 : goal.loop-low-preserved-then-here-entry-2
loop-low-preserved-then-here-entry-2 g c =
    let d = c.args.entered.now in let s = c.loop-low.invariant in let lt = c.loop-low-test.true in
    let w = s.within in let len : d.len ≡ length d.items = d.ok.0 in
    let got : slice_get d.items (c.loop-low.low + (c.loop-low.high - c.loop-low.low) / 2) ≡ Some c.index.result.now = slice_get_read d.items d.len (c.loop-low.low + (c.loop-low.high - c.loop-low.low) / 2) c.index.result.now len (omega arith) c.index.ensures in
    later c.args.list.now d.items c.args.entry c.loop-low.low c.loop-low.high c.requires.1 s lt c.index.result.now c.row.result.now got c.row.ensures c.if-here-entry-2.true

pub loop-low-preserved : goal.loop-low-preserved
loop-low-preserved g c =
    let d = c.args.entered.now in let s = c.loop-low.invariant in let lt = c.loop-low-test.true in
    let w = s.within in let len : d.len ≡ length d.items = d.ok.0 in
    let got : slice_get d.items (c.loop-low.low + (c.loop-low.high - c.loop-low.low) / 2) ≡ Some c.index.result.now = slice_get_read d.items d.len (c.loop-low.low + (c.loop-low.high - c.loop-low.low) / 2) c.index.result.now len (omega arith) c.index.ensures in
    let le = c.if-here-entry-2.false in
    sooner c.args.list.now d.items c.args.entry c.loop-low.low c.loop-low.high c.requires.1 s lt c.index.result.now c.row.result.now got c.row.ensures (above le c.if-here-entry.false)
  where
    above : {m n : ℕ} → m ≤ n → (n ≡ m → ⊥) → m < n
    above le ne = omega (arith, le, ne)

pub returns-clause-none : goal.returns-clause-none
returns-clause-none g c =
    none_between c.args.list.now c.args.entered.now.items c.args.entry c.loop-low.low c.loop-low.high c.requires.1 c.loop-low.invariant c.loop-low-test.false
