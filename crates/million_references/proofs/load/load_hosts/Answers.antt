use Rattle.std.proofs.Common.{◌≡◌, ◌+◌, ◌*◌, ap, subst, arith}
use Rattle.std.specs.Str.{bytes_eq}
use Rattle.million_references.specs.Loaded.{IsHeld}
use Rattle.million_references.specs.Load.{number, host_references}
use Rattle.million_references.proofs.Frames.{next_drawn, next_tick, next_hosts}
use Rattle.million_references.proofs.load.load_hosts.Goals as goal

pub loop-frame-preserved : goal.loop-frame-preserved
loop-frame-preserved c =
    let i = c.loop-frame.frame in
    let kept = c.loop-frame.invariant in
    let stamped : c.from-stamp.result ≡ i = c.from-stamp.ensures in
    let drawn : c.next_number-number.result ≡ number (i + 1) = next_drawn i c.loop-frame.number c.next_number-number.result kept.drawn c.next_number-number.ensures.next in
    let first = c.refer.ensures.means c.args.capacity (host_references i) kept.held in
    let both = c.refer-in-loop-frame.ensures.means c.args.capacity _ first in
    record {
      drawn = drawn;
      below = c.next_number-number.ensures.below;
      held = next_hosts i c.args.capacity c.next_number-number.result (2 * c.from-stamp.result) _ drawn (next_tick i) c.refer-in-loop-frame.new.self c.source.result c.destination.result c.source.ensures c.destination.ensures (ap (λ n. 2 * n) stamped) both;
      stamps = let e = c.refer-in-loop-frame.ensures.stamps in omega arith;
      tick = let e = c.refer-in-loop-frame.ensures.tick in let f = next_tick i in omega arith;
      few = let e = c.refer-in-loop-frame.ensures.few in omega arith;
    }

pub returns : goal.returns
returns c =
    let all : c.loop-frame.frame ≡ c.args.frames = omega arith in
    subst (λ n. IsHeld bytes_eq c.args.capacity (host_references n) c.loop-frame.hosts) all c.loop-frame.invariant.held
