use Rattle.std.proofs.Common.{◌≡◌, length, slice_get, Some, sym, ap, ◌∙◌, arith}
use Rattle.rm_ring.specs.Runs.{without_oldest}
use Rattle.rm_ring.proofs.StepLemmas.{oldest_begins, laid_less}
use Rattle.rm_ring.proofs.ring.Ring.drop_oldest.Goals as goal

pub give_back-requires-clause-near : goal.give_back-requires-clause-near
give_back-requires-clause-near g c =
    let i = c.self.inside in
    let first : slice_get i.places.items 0 ≡ Some c.in-Some.oldest = sym c.pop_front.ensures.value ∙ c.in-Some.is in
    omega (arith, oldest_begins i.octets i.places i.runs i.granted i.left i.slice c.self.invariant c.in-Some.oldest first, c.self.invariant.near)

pub invariant_of-self-2 : goal.invariant_of-self-2
invariant_of-self-2 g c =
    let i = c.self.inside in
    let first : slice_get i.places.items 0 ≡ Some c.in-Some.oldest = sym c.pop_front.ensures.value ∙ c.in-Some.is in
    let runs : c.give_back.new.self ≡ without_oldest i.runs (length i.places.items) c.in-Some.oldest.size = c.give_back.ensures ∙ ap (λ n. without_oldest i.runs n c.in-Some.oldest.size) c.len-count.ensures.len in
    rw (c.pop_front.ensures.items, runs) (laid_less i.octets i.places i.runs i.granted i.left i.slice c.self.invariant c.in-Some.oldest first)
