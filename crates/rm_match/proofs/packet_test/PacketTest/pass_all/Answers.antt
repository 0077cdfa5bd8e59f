use Rattle.std.proofs.Common.{refl, sym, ◌∙◌, arith}
use Rattle.rm_match.proofs.TestLemmas.{too_few, at_end, next_place, last_place, none_asked, some_asked}
use Rattle.rm_match.proofs.packet_test.PacketTest.pass_all.Goals as goal

pub returns-then-octets-self : goal.returns-then-octets-self
returns-then-octets-self c = sym (too_few c.args.self.now.data.now c.args.self.now.mask.now c.args.self.now.not_mask.now c.args.octets.now (omega arith))

pub loop-at-init : goal.loop-at-init
loop-at-init c = refl

pub returns-then-not-equals : goal.returns-then-not-equals
returns-then-not-equals c =
    last_place c.args.self.now.data.now c.args.self.now.mask.now c.args.self.now.not_mask.now c.args.octets.now c.loop-at.at c.loop-at.asks_difference c.loop-at.differs _ _
    (omega arith) (omega arith) c.test_at-test.ensures refl (sym c.equals.ensures ∙ c.if-not-equals.true)
    ∙ c.loop-at.invariant

pub loop-at-preserved : goal.loop-at-preserved
loop-at-preserved c =
    rw (c.asks_difference-asks_difference.ensures, c.differs-differs.ensures)
    (next_place c.args.self.now.data.now c.args.self.now.mask.now c.args.self.now.not_mask.now c.args.octets.now c.loop-at.at c.loop-at.asks_difference c.loop-at.differs _ _
    (omega arith) (omega arith) c.test_at-test.ensures refl (sym c.equals.ensures ∙ c.if-not-equals.false)
    ∙ c.loop-at.invariant)

pub returns-then-not-asks_difference : goal.returns-then-not-asks_difference
returns-then-not-asks_difference c =
    none_asked c.loop-at.asks_difference c.loop-at.differs c.if-not-asks_difference.true
    ∙ sym (at_end c.args.self.now.data.now c.args.self.now.mask.now c.args.self.now.not_mask.now c.args.octets.now c.loop-at.at c.loop-at.asks_difference c.loop-at.differs c.loop-at-test.false)
    ∙ c.loop-at.invariant

pub returns-else-not-asks_difference : goal.returns-else-not-asks_difference
returns-else-not-asks_difference c =
    some_asked c.loop-at.asks_difference c.loop-at.differs c.if-not-asks_difference.false
    ∙ sym (at_end c.args.self.now.data.now c.args.self.now.mask.now c.args.self.now.not_mask.now c.args.octets.now c.loop-at.at c.loop-at.asks_difference c.loop-at.differs c.loop-at-test.false)
    ∙ c.loop-at.invariant
