use Rattle.std.proofs.Common.{◌≡◌, ◌+◌, ◌-◌, refl, sym, ap, ◌∙◌, arith, Some, take, drop, slice_get, option_map}
use Rattle.std.proofs.lemmas.Option.{slice_get-map}
use Rattle.rm_ring.specs.Kept.{stored}
use Rattle.rm_ring.specs.Laid.{packet_at}
use Rattle.rm_ring.proofs.LaidLemmas.{all_within}
use Rattle.rm_ring.proofs.ring.Ring.get.Goals as goal

pub overflow_add-result : goal.overflow_add-result
overflow_add-result g c =
    let found : slice_get c.self.inside.places.items c.args.at ≡ Some c.in_ok-place.place.now = sym c.nth_front.ensures ∙ rw c.in_ok-place.was refl in
    omega (arith, all_within _ _ _ _ c.self.invariant.laid c.args.at c.in_ok-place.place.now found, c.self.invariant.near)

pub slice_bounds-result-end : goal.slice_bounds-result-end
slice_bounds-result-end g c =
    let found : slice_get c.self.inside.places.items c.args.at ≡ Some c.in_ok-place.place.now = sym c.nth_front.ensures ∙ rw c.in_ok-place.was refl in
    omega (arith, all_within _ _ _ _ c.self.invariant.laid c.args.at c.in_ok-place.place.now found, c.deref.ensures.len)

pub returns : goal.returns
returns g c =
    let place = c.in_ok-place.place.now in
    let found : slice_get c.self.inside.places.items c.args.at ≡ Some place = sym c.nth_front.ensures ∙ rw c.in_ok-place.was refl in
    let size : place.start + place.size - place.start ≡ place.size = omega arith in
    ap (λ n. Some (stored place.info (take n (drop place.start c.deref.result.now)))) size
    ∙ ap (λ xs. Some (stored place.info (take place.size (drop place.start xs)))) c.deref.ensures.value
    ∙ sym (slice_get-map (packet_at c.self.inside.octets.items) c.self.inside.places.items c.args.at ∙ ap (option_map (packet_at c.self.inside.octets.items)) found)
    ∙ ap (λ k. slice_get k.packets c.args.at) c.self.view_is
