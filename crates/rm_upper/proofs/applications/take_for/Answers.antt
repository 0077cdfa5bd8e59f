use Rattle.std.proofs.Common.{◌≡◌, length, get_or, None, Some, sym, ◌∙◌, ap, cond}
use Rattle.rm_upper.specs.Kept.{taken, is_made}
use Rattle.rm_upper.proofs.SlotLemmas.{none_with, none_made, taken_there, made_there}
use Rattle.rm_upper.proofs.applications.take_for.Goals as goal

pub returns-in_default-clause-applications : goal.returns-in_default-clause-applications
returns-in_default-clause-applications g c =
    let same : length c.args.slots.now ≡ length c.args.applications.now = c.told-slots ∙ sym (sym (ap (λ l. length l) c.as_slice-held.ensures.value) ∙ c.as_slice-held.ensures.each) in
    sym (none_with g.N.Counts.tally c.args.stamp c.args.tick c.args.gain.now c.args.protocol c.args.slots.now c.args.applications.now same c.in_default.ensures.none)

pub returns-in_default-clause-made : goal.returns-in_default-clause-made
returns-in_default-clause-made g c = sym (none_made g.N.Counts.tally c.args.stamp c.args.tick c.args.gain.now c.args.protocol c.args.slots.now c.args.applications.now c.in_default.ensures.none)

pub returns-clause-applications : goal.returns-clause-applications
returns-clause-applications g c =
    let place = c.in-Some.place in let slot = c.in-Some-slots.slot in let d = c.index-held-place.result in
    let same : length c.args.slots.now ≡ length c.args.applications.now = c.told-slots ∙ sym (sym (ap (λ l. length l) c.as_slice-held.ensures.value) ∙ c.as_slice-held.ensures.each) in
    let at : d ≡ get_or c.args.applications.now place d = c.index-held-place.is ∙ ap (λ l. get_or l place d) c.as_slice-held.ensures.value in
    let here : get_or c.args.slots.now place None ≡ Some slot = c.in-Some-slots.is in
    c.put.ensures ∙ taken_there g.N.Counts.tally c.args.stamp c.args.tick c.args.gain.now c.args.protocol d place c.args.slots.now c.args.applications.now slot c.take-taken.result c.requires same c.in-Some.ensures.found.0 here c.in-Some.ensures.found.1
    (c.take-taken.ensures ∙ ap (taken g.N.Counts.tally slot c.args.stamp c.args.tick c.args.gain.now) at)

pub returns-clause-made : goal.returns-clause-made
returns-clause-made g c =
    let place = c.in-Some.place in let slot = c.in-Some-slots.slot in let d = c.index-held-place.result in
    let same : length c.args.slots.now ≡ length c.args.applications.now = c.told-slots ∙ sym (sym (ap (λ l. length l) c.as_slice-held.ensures.value) ∙ c.as_slice-held.ensures.each) in
    let at : d ≡ get_or c.args.applications.now place d = c.index-held-place.is ∙ ap (λ l. get_or l place d) c.as_slice-held.ensures.value in
    let here : get_or c.args.slots.now place None ≡ Some slot = c.in-Some-slots.is in
    ap (λ b. cond b 1 0) (c.makes-made.ensures ∙ ap (is_made slot) at)
    ∙ made_there g.N.Counts.tally c.args.stamp c.args.tick c.args.gain.now c.args.protocol d place c.args.slots.now c.args.applications.now slot c.requires same c.in-Some.ensures.found.0 here c.in-Some.ensures.found.1
