use Rattle.std.proofs.Common.{◌≡◌, ◌+◌, ◌≤◌, length, refl, sym, subst, ap, ◌∙◌, arith}
use Rattle.rm_acts.specs.Buffers.{all_or}
use Rattle.rm_ring.specs.Kept.{Kept}
use Rattle.rm_capture.specs.declared.captured.PacketInfo.{PacketInfo}
use Rattle.rm_capture.proofs.AcceptLemmas.{stored_as, accepted_more, same_storage, same_places, same_slice}
use Rattle.rm_capture.proofs.OneMore.{one_more}
use Rattle.rm_capture.proofs.captured.Captured.accept.Goals as goal

pub returns-clause-kept : goal.returns-clause-kept
returns-clause-kept c settings is_wrap size granted earlier frame of has =
    let sliced : c.args.self.now.slice ≡ all_or 262144 size = c.args.self.now.sliced ∙ has.sliced in
    let few : length frame.octets ≤ 262144 = omega (arith, c.requires.captured, ap length of.captured) in
    let packet = stored_as settings size c.args.self.now.slice frame earlier c.args.passing.now.facts c.args.passing.now.octets.now c.args.passing.now.number c.args.passing.now.moment c.args.self.now.accepted of has.count sliced c.requires.captured in
    accepted_more settings is_wrap size granted earlier frame c.args.self.now _ _ has few (rw c.min.ensures packet) c.keep-self.ensures.ring c.keep-self.ensures.lost refl refl

pub returns-clause-storage : goal.returns-clause-storage
returns-clause-storage c = ap (λ (k : Kept PacketInfo). k.storage) c.keep-self.ensures.ring ∙ same_storage c.args.self.now.action c.args.self.now.lost c.args.self.now.ring _

pub returns-clause-places : goal.returns-clause-places
returns-clause-places c = ap (λ (k : Kept PacketInfo). k.places) c.keep-self.ensures.ring ∙ same_places c.args.self.now.action c.args.self.now.lost c.args.self.now.ring _

pub invariant_of-self : goal.invariant_of-self
invariant_of-self c =
    let same = ap (λ (k : Kept PacketInfo). k.slice) c.keep-self.ensures.ring ∙ same_slice c.args.self.now.action c.args.self.now.lost c.args.self.now.ring _ in
    let longer : length c.keep-self.new.ring.packets ≤ length c.args.self.now.ring.packets + 1 =
    subst (λ (k : Kept PacketInfo). length k.packets ≤ length c.args.self.now.ring.packets + 1) (sym c.keep-self.ensures.ring) (one_more c.args.self.now.action c.args.self.now.lost c.args.self.now.ring _) in
    record { sliced = c.args.self.now.sliced ∙ sym same; fewer = omega (arith, longer, c.args.self.now.fewer); few = omega (arith, c.requires.room) }
