use Rattle.std.proofs.Common.{◌∷◌, [], ◌∙◌, length, ap, arith}
use Rattle.std.proofs.lemmas.List.{length-append}
use Rattle.rm_val.specs.Val.{val_of}
use Rattle.rm_group.specs.Assignments.{giving}
use Rattle.rm_reply.proofs.SetLemmas.{given_more}
use Rattle.rm_reply.proofs.request.Request.give.Goals as goal

pub loop-place-preserved : goal.loop-place-preserved
loop-place-preserved g c =
    let (so_far, count) = c.loop-place.invariant in (
      λ m asked. c.push.ensures ∙ given_more m.bindings c.loop-place.given c.loop-place.place c.name-name.result (val_of c.value-value.result)
          (record {
            within = omega (arith, c.loop-place-test.true, asked.told.count);
            name_is = c.name-name.ensures.name m.bindings asked.told.kept.1;
            value_is = c.value-value.ensures.value m.bindings asked.told.kept.1;
          }) (so_far m asked),
      omega (arith, ap length c.push.ensures, length-append c.loop-place.given (giving c.name-name.result (val_of c.value-value.result) ∷ []), count),
    )
