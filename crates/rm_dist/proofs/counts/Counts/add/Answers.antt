use Rattle.std.proofs.Common.{◌<◌, ◌≤◌, length, sym, ap, subst, ◌∙◌, arith}
use Rattle.rm_dist.specs.Counts.{IsFoundAt, IsMissingAt}
use Rattle.rm_dist.proofs.CountLemmas.{bumped_is, found_mark, found_within, full_mark, inserted_is, marked_rise, has_room, is_filled, place_within, room_mark}
use Rattle.rm_dist.proofs.counts.Counts.add.Goals as goal

pub add_in-requires : goal.add_in-requires
add_in-requires c =
    let is = subst (λ counts. IsFoundAt counts c.args.local c.in-Ok.place) (c.as_slice.ensures.value ∙ c.self.view_is) c.in-Ok.ensures.found in
    rw (c.self.view_is, is.at) (found_within c.args.self.now c.args.local is.found)

pub invariant_of-self : goal.invariant_of-self
invariant_of-self c =
    let is = subst (λ counts. IsFoundAt counts c.args.local c.in-Ok.place) (c.as_slice.ensures.value ∙ c.self.view_is) c.in-Ok.ensures.found in
    rw (c.add_in.ensures, c.self.view_is, is.at, bumped_is c.args.self.now c.args.local c.args.octets is.found)
    (marked_rise c.args.self.now c.args.local c.args.octets (rw c.self.view_is at c.self.invariant))

pub insert-requires : goal.insert-requires
insert-requires c =
    let is = subst (λ counts. IsMissingAt counts c.args.local c.in-Err.place) (c.as_slice.ensures.value ∙ c.self.view_is) c.in-Err.ensures.missing in
    let within = place_within c.args.self.now c.args.local in
    let same = ap length c.self.view_is in
    omega (arith, is.at, within, same, has_room c.is_full.result (length c.self.inside.counts.items) 32 c.is_full.ensures.value c.if-not-is_full.true c.is_full.ensures.fits)

pub invariant_of-self-then-not-is_full : goal.invariant_of-self-then-not-is_full
invariant_of-self-then-not-is_full c =
    let is = subst (λ counts. IsMissingAt counts c.args.local c.in-Err.place) (c.as_slice.ensures.value ∙ c.self.view_is) c.in-Err.ensures.missing in
    rw (c.insert.ensures.items, c.first.ensures, c.self.view_is, is.at, inserted_is c.args.self.now c.args.local c.args.octets is.missing)
    (marked_rise c.args.self.now c.args.local c.args.octets (rw c.self.view_is at c.self.invariant))

pub returns-then-not-is_full : goal.returns-then-not-is_full
returns-then-not-is_full c =
    let is = subst (λ counts. IsMissingAt counts c.args.local c.in-Err.place) (c.as_slice.ensures.value ∙ c.self.view_is) c.in-Err.ensures.missing in
    let few : length c.args.self.now < 32 = let same = ap length c.self.view_is in omega (arith, same, has_room c.is_full.result (length c.self.inside.counts.items) 32 c.is_full.ensures.value c.if-not-is_full.true c.is_full.ensures.fits) in
    rw (c.insert.ensures.items, c.first.ensures, c.self.view_is, is.at)
    (inserted_is c.args.self.now c.args.local c.args.octets is.missing ∙ sym (room_mark c.args.self.now (rw c.self.view_is at c.self.invariant) c.args.local c.args.octets few))

pub returns-else-not-is_full : goal.returns-else-not-is_full
returns-else-not-is_full c =
    let is = subst (λ counts. IsMissingAt counts c.args.local c.in-Err.place) (c.as_slice.ensures.value ∙ c.self.view_is) c.in-Err.ensures.missing in
    let many : 32 ≤ length c.args.self.now = let same = ap length c.self.view_is in omega (arith, same, is_filled c.is_full.result (length c.self.inside.counts.items) 32 c.is_full.ensures.value c.if-not-is_full.false) in
    sym (full_mark c.args.self.now (rw c.self.view_is at c.self.invariant) c.args.local c.args.octets is.missing many)

pub returns-in-Ok : goal.returns-in-Ok
returns-in-Ok c =
    let is = subst (λ counts. IsFoundAt counts c.args.local c.in-Ok.place) (c.as_slice.ensures.value ∙ c.self.view_is) c.in-Ok.ensures.found in
    rw (c.add_in.ensures, c.self.view_is, is.at)
    (bumped_is c.args.self.now c.args.local c.args.octets is.found ∙ sym (found_mark c.args.self.now (rw c.self.view_is at c.self.invariant) c.args.local c.args.octets is.found))
