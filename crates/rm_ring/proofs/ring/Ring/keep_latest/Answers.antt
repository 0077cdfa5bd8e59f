use Rattle.std.proofs.Common.{◌≤◌, length, sym, ap, ◌∙◌, arith, not}
use Rattle.rm_ring.specs.Kept.{Kept, stored}
use Rattle.rm_ring.proofs.CostLemmas.{drops, keeps_tail, drops_some}
use Rattle.rm_ring.proofs.ring.Ring.keep_latest.Goals as goal

pub dropping-preserved : goal.dropping-preserved
dropping-preserved g c =
    let small : length c.args.octets.now ≤ c.dropping.self.slice = omega (arith, c.requires, ap (λ (k : Kept g.row.T.Denot). k.slice) c.dropping.invariant.others) in
    drops c.args.self.now c.dropping.self c.drop_oldest.new.self (stored c.args.info c.args.octets.now) c.dropping.invariant (omega (arith, small, c.has_room.ensures.one))
    (sym c.has_room.ensures.answer ∙ c.dropping-test.true) c.drop_oldest.ensures

pub returns-clause-packets : goal.returns-clause-packets
returns-clause-packets g c =
    keeps_tail c.args.self.now c.dropping.self c.push.new.self (stored c.args.info c.args.octets.now) c.dropping.invariant (sym c.has_room.ensures.answer ∙ c.dropping-test.false) c.push.ensures

pub returns-clause-dropped : goal.returns-clause-dropped
returns-clause-dropped g c = ap not c.has_room-is_full.ensures.answer ∙ drops_some c.args.self.now (stored c.args.info c.args.octets.now)
