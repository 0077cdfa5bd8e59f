use Rattle.std.proofs.Common.{◌≡◌, ◌+◌, subst, arith}
use Rattle.std.specs.Str.{bytes_eq}
use Rattle.million_references.specs.Loaded.{IsHeld}
use Rattle.million_references.specs.Load.{number, pair_references}
use Rattle.million_references.proofs.Frames.{next_drawn, next_tick, next_pairs}
use Rattle.million_references.proofs.load.load_pairs.Goals as goal

pub loop-frame-preserved : goal.loop-frame-preserved
loop-frame-preserved c =
    let i = c.loop-frame.frame in
    let kept = c.loop-frame.invariant in
    let stamped : c.from.result ≡ i = c.from.ensures in
    let drawn : c.next_number-number.result ≡ number (i + 1) = next_drawn i c.loop-frame.number c.next_number-number.result kept.drawn c.next_number-number.ensures.next in
    let more = c.refer.ensures.means c.args.capacity (pair_references i) kept.held in
    record {
      drawn = drawn;
      below = c.next_number-number.ensures.below;
      held = next_pairs i c.args.capacity c.next_number-number.result c.from.result _ drawn (next_tick i) c.refer.new.self c.pair.result c.pair.ensures stamped more;
      stamps = let e = c.refer.ensures.stamps in omega arith;
      tick = let e = c.refer.ensures.tick in let f = next_tick i in omega arith;
      few = let e = c.refer.ensures.few in omega arith;
    }

pub returns : goal.returns
returns c =
    let all : c.loop-frame.frame ≡ c.args.frames = omega arith in
    subst (λ n. IsHeld bytes_eq c.args.capacity (pair_references n) c.loop-frame.pairs) all c.loop-frame.invariant.held
