use Rattle.std.proofs.Common.{sym, ◌∙◌}
use Rattle.rm_ring.specs.Kept.{stored}
use Rattle.rm_ring.proofs.CostLemmas.{not_kept, is_kept}
use Rattle.rm_ring.proofs.ring.Ring.keep_if_room.Goals as goal

pub returns-then-not-has_room-clause-packets : goal.returns-then-not-has_room-clause-packets
returns-then-not-has_room-clause-packets g c =
    (not_kept c.args.self.now (stored c.args.info c.args.octets.now) c.has_room.ensures.within (sym c.has_room.ensures.answer ∙ c.if-not-has_room.true)).0

pub returns-then-not-has_room-clause-kept : goal.returns-then-not-has_room-clause-kept
returns-then-not-has_room-clause-kept g c =
    (not_kept c.args.self.now (stored c.args.info c.args.octets.now) c.has_room.ensures.within (sym c.has_room.ensures.answer ∙ c.if-not-has_room.true)).1

pub returns-clause-packets : goal.returns-clause-packets
returns-clause-packets g c =
    c.push.ensures ∙ (is_kept c.args.self.now (stored c.args.info c.args.octets.now) (sym c.has_room.ensures.answer ∙ c.if-not-has_room.false)).0

pub returns-clause-kept : goal.returns-clause-kept
returns-clause-kept g c =
    (is_kept c.args.self.now (stored c.args.info c.args.octets.now) (sym c.has_room.ensures.answer ∙ c.if-not-has_room.false)).1
