use Rattle.std.proofs.Common.{◌≡◌, ◌+◌, ◌≤◌, length, take, nat_eq, get_or, true, false, sym, ◌∙◌, ap, arith}
use Rattle.rm_upper.specs.Kept.{is_among, all_with, all_made}
use Rattle.rm_upper.proofs.PathLemmas.{nothing_with, nothing_made, again_with, again_made, next_with, next_made, few_made, one_if, one_most}
use mir.Val.{bool_byte}
use Rattle.rm_upper.proofs.applications.take_all.Goals as goal
use Rattle.rm_upper.proofs.applications.take_all.Goals.{then-not-contains, else-not-contains}

pub loop-place-init : goal.loop-place-init
loop-place-init g c =
    let same : length c.args.slots.now ≡ length c.args.applications.now = c.told-slots ∙ sym (sym (ap (λ l. length l) c.as_slice-held.ensures.value) ∙ c.as_slice-held.ensures.each) in
    record {
      applications = sym (nothing_with g.N.Counts.tally c.args.stamp c.args.tick c.args.gain.now c.args.slots.now c.args.applications.now same);
      made = sym (nothing_made g.N.Counts.tally c.args.stamp c.args.tick c.args.gain.now c.args.slots.now c.args.applications.now);
    }

pub overflow_add-made : goal.overflow_add-made
overflow_add-made g c =
    let few : all_made (is_among (take c.loop-place.place c.args.path.now)) c.args.slots.now c.args.applications.now ≤ length c.args.slots.now = few_made (is_among (take c.loop-place.place c.args.path.now)) c.args.slots.now c.args.applications.now in
    let made : c.loop-place.made ≡ all_made (is_among (take c.loop-place.place c.args.path.now)) c.args.slots.now c.args.applications.now = c.loop-place.invariant.made in
    let long : length c.args.slots.now ≡ 32 = c.told-slots in
    let one = one_most c.take_for.result in
    let is : c.from-made.result ≡ bool_byte c.take_for.result = c.from-made.ensures in
    record { fits = omega (arith, few, made, long, one, is) }

pub loop-place-preserved : goal.loop-place-preserved
loop-place-preserved g c =
    let path = c.args.path.now in let place = c.loop-place.place in let slots = c.args.slots.now in let old = c.args.applications.now in
    elim c.if-not-contains.branch [
      | then-not-contains w ↦
          let off : is_among (take place path) (get_or path place 0) ≡ false = sym c.contains.ensures.value ∙ w.if-not-contains.true in
          let so_far : c.loop-place.applications ≡ all_with g.N.Counts.tally (is_among (take place path)) c.args.stamp c.args.tick c.args.gain.now slots old = c.loop-place.invariant.applications in
          record {
            applications = w.applications-is ∙ w.take_for.ensures.applications
                ∙ ap (λ l. all_with g.N.Counts.tally (nat_eq (get_or path place 0)) c.args.stamp c.args.tick c.args.gain.now slots l) so_far
                ∙ next_with g.N.Counts.tally c.args.stamp c.args.tick c.args.gain.now path place c.loop-place-test.true off slots old;
            made = w.made-is
                ∙ ap (λ n. c.loop-place.made + n) (w.from-made.ensures ∙ one_if w.take_for.result ∙ w.take_for.ensures.made ∙ ap (λ l. all_made (nat_eq (get_or path place 0)) slots l) so_far)
                ∙ ap (λ n. n + all_made (nat_eq (get_or path place 0)) slots (all_with g.N.Counts.tally (is_among (take place path)) c.args.stamp c.args.tick c.args.gain.now slots old)) c.loop-place.invariant.made
                ∙ next_made g.N.Counts.tally c.args.stamp c.args.tick c.args.gain.now path place c.loop-place-test.true off slots old;
          }
      | else-not-contains w ↦
          let there : is_among (take place path) (get_or path place 0) ≡ true = sym c.contains.ensures.value ∙ w.if-not-contains.false in
          record {
            applications = w.applications-is ∙ c.loop-place.invariant.applications ∙ again_with g.N.Counts.tally c.args.stamp c.args.tick c.args.gain.now path place c.loop-place-test.true there slots old;
            made = w.made-is ∙ c.loop-place.invariant.made ∙ again_made g.N.Counts.tally c.args.stamp c.args.tick c.args.gain.now path place c.loop-place-test.true there slots old;
          }
    ]

pub returns-clause-few : goal.returns-clause-few
returns-clause-few g c =
    let few : all_made (is_among (take c.loop-place.place c.args.path.now)) c.args.slots.now c.args.applications.now ≤ length c.args.slots.now = few_made (is_among (take c.loop-place.place c.args.path.now)) c.args.slots.now c.args.applications.now in
    let made : c.loop-place.made ≡ all_made (is_among (take c.loop-place.place c.args.path.now)) c.args.slots.now c.args.applications.now = c.loop-place.invariant.made in
    let long : length c.args.slots.now ≡ 32 = c.told-slots in
    omega (arith, few, made, long)
