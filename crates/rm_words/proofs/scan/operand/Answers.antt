use Rattle.std.proofs.Common.{◌≡◌, Some, true, false, refl, sym, ap, ◌∙◌, arith}
use Rattle.std.specs.Prelude.{slice_get}
use Rattle.rm_words.specs.Parts.{is_operand, next_of}
use Rattle.rm_words.proofs.WordLemmas.{IsRead, operand_here, operand_behind, no_operand}
use Rattle.rm_words.proofs.scan.operand.Goals as goal
use Rattle.rm_words.proofs.scan.operand.Goals.{then-is_operand+else-left-eq0, else-is_operand}

pub returns-then-left-eq0 : goal.returns-then-left-eq0
returns-then-left-eq0 c =
    let at : slice_get c.args.words.now c.loop-place.place ≡ Some c.at-word.result.now = c.at-word.ensures in
    let is : IsRead c.args.words.now c.loop-place.place c.loop-place.expected c.as_bytes.result.now c.part-part.result (next_of c.loop-place.expected c.part-part.result) =
    record { word_at = at ∙ ap Some (sym c.as_bytes.ensures.value); part_is = c.part-part.ensures; next_is = refl } in
    let yes : is_operand c.part-part.result ≡ true = sym c.is_operand.ensures ∙ c.if-is_operand.true in
    sym c.loop-place.invariant ∙ operand_here _ _ _ _ _ _ _ is yes c.if-left-eq0.true ∙ ap Some c.as_bytes.ensures.value

pub loop-place-preserved : goal.loop-place-preserved
loop-place-preserved c =
    let at : slice_get c.args.words.now c.loop-place.place ≡ Some c.at-word.result.now = c.at-word.ensures in
    let is : IsRead c.args.words.now c.loop-place.place c.loop-place.expected c.as_bytes.result.now c.part-part.result c.after-expected.result =
    record { word_at = at ∙ ap Some (sym c.as_bytes.ensures.value); part_is = c.part-part.ensures; next_is = c.after-expected.ensures } in
    elim c.if-is_operand.branch [
      | then-is_operand+else-left-eq0 w ↦
          let yes : is_operand c.part-part.result ≡ true = sym c.is_operand.ensures ∙ w.if-is_operand.true in
          operand_behind _ _ _ _ _ _ c.loop-place.left c.if-is_operand.left is yes (omega arith) ∙ c.loop-place.invariant
      | else-is_operand w ↦
          let no : is_operand c.part-part.result ≡ false = sym c.is_operand.ensures ∙ w.if-is_operand.false in
          no_operand _ _ _ _ _ _ c.loop-place.left c.if-is_operand.left is no w.left-is ∙ c.loop-place.invariant
    ]
