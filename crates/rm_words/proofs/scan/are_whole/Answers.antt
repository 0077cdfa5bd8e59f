use Rattle.std.proofs.Common.{◌≡◌, Some, true, false, refl, sym, ap, ◌∙◌}
use Rattle.std.specs.Prelude.{slice_get}
use Rattle.rm_words.specs.Parts.{may_stand, next_of}
use Rattle.rm_words.proofs.WordLemmas.{IsRead, whole_more}
use Rattle.rm_words.proofs.scan.are_whole.Goals as goal

pub returns-then-not-may_stand : goal.returns-then-not-may_stand
returns-then-not-may_stand c =
    let at : slice_get c.args.words.now c.loop-place.place ≡ Some c.at.result.now = c.at.ensures in
    let is : IsRead c.args.words.now c.loop-place.place c.loop-place.expected c.as_bytes.result.now c.part-part.result (next_of c.loop-place.expected c.part-part.result) =
    record { word_at = at ∙ ap Some (sym c.as_bytes.ensures.value); part_is = c.part-part.ensures; next_is = refl } in
    let more = whole_more c.args.command _ _ _ _ _ _ is in
    let no : may_stand c.args.command c.part-part.result ≡ false = sym c.may_stand.ensures ∙ c.if-not-may_stand.true in
    sym (rw no at more) ∙ c.loop-place.invariant

pub loop-place-preserved : goal.loop-place-preserved
loop-place-preserved c =
    let at : slice_get c.args.words.now c.loop-place.place ≡ Some c.at.result.now = c.at.ensures in
    let is : IsRead c.args.words.now c.loop-place.place c.loop-place.expected c.as_bytes.result.now c.part-part.result c.after-expected.result =
    record { word_at = at ∙ ap Some (sym c.as_bytes.ensures.value); part_is = c.part-part.ensures; next_is = c.after-expected.ensures } in
    let more = whole_more c.args.command _ _ _ _ _ _ is in
    let yes : may_stand c.args.command c.part-part.result ≡ true = sym c.may_stand.ensures ∙ c.if-not-may_stand.false in
    sym (rw yes at more) ∙ c.loop-place.invariant
