use Rattle.std.proofs.Common.{◌≡◌, ℕ, ◌≤◌, List, [], ◌++◌, length, Some, refl, sym, ap, ◌∙◌}
use Rattle.std.specs.Prelude.{slice_get}
use Rattle.rm_words.specs.Parts.{part_of, next_of, values_in}
use Rattle.rm_words.specs.Scan.{so_far}
use Rattle.rm_words.proofs.WordLemmas.{IsRead, values_more, given_again, some_given, none_given, one_value, goes_on, stays}
use Rattle.rm_words.proofs.PartLemmas.{is_cut}
use Rattle.rm_words.proofs.scan.value_of.Goals as goal
use Rattle.rm_words.proofs.scan.value_of.Goals.{in-Some+else-is_some, in_default}

pub value_for-requires : goal.value_for-requires
value_for-requires c =
    is_cut c.loop-place.expected c.at-word.result.now c.part-part.result c.at-word.utf8 (c.part-part.ensures ∙ ap (part_of c.loop-place.expected) c.as_bytes.ensures.value)

pub returns-then-is_some : goal.returns-then-is_some
returns-then-is_some c =
    let at : slice_get c.args.words.now c.loop-place.place ≡ Some c.at-word.result.now = c.at-word.ensures in
    let is : IsRead c.args.words.now c.loop-place.place c.loop-place.expected c.at-word.result.now c.part-part.result (next_of c.loop-place.expected c.part-part.result) =
    record { word_at = at; part_is = c.part-part.ensures ∙ ap (part_of c.loop-place.expected) c.as_bytes.ensures.value; next_is = refl } in
    let more = values_more c.args.option _ _ _ _ _ _ is in
    let given : 1 ≤ length (so_far c.loop-place.given) = some_given c.loop-place.given (sym c.is_some.ensures ∙ c.if-is_some.true) in
    given_again (so_far c.loop-place.given) _ _ _ given (one_value c.in-Some.value.now c.in-Some.ensures) (ap (λ (rest : List (List ℕ)). so_far c.loop-place.given ++ rest) (sym more) ∙ c.loop-place.invariant)

pub loop-place-preserved : goal.loop-place-preserved
loop-place-preserved c =
    let at : slice_get c.args.words.now c.loop-place.place ≡ Some c.at-word.result.now = c.at-word.ensures in
    let is : IsRead c.args.words.now c.loop-place.place c.loop-place.expected c.at-word.result.now c.part-part.result c.after-expected.result =
    record { word_at = at; part_is = c.part-part.ensures ∙ ap (part_of c.loop-place.expected) c.as_bytes.ensures.value; next_is = c.after-expected.ensures } in
    let more = values_more c.args.option _ _ _ _ _ _ is in
    elim c.match-value_for.branch [
      | in-Some+else-is_some w ↦
          let nothing : so_far c.loop-place.given ≡ [] = none_given c.loop-place.given (sym w.is_some.ensures ∙ w.if-is_some.false) in
          let value : values_in c.args.option c.part-part.result c.at-word.result.now ≡ so_far c.match-value_for.given = w.in-Some.ensures ∙ ap so_far (sym w.given-is) in
          goes_on (so_far c.loop-place.given) _ _ _ (so_far c.match-value_for.given) _ c.loop-place.invariant more (ap (λ (front : List (List ℕ)). front ++ values_in c.args.option c.part-part.result c.at-word.result.now) nothing ∙ value)
      | in_default w ↦
          let none : values_in c.args.option c.part-part.result c.at-word.result.now ≡ [] = w.in_default.ensures in
          goes_on (so_far c.loop-place.given) _ _ _ (so_far c.match-value_for.given) _ c.loop-place.invariant more (stays (so_far c.loop-place.given) _ none ∙ ap so_far (sym w.given-is))
    ]
