use Rattle.std.proofs.Common.{◌∙◌, ◌∷◌, [], length, ap, arith}
use Rattle.std.proofs.lemmas.List.{length-append}
use Rattle.std.proofs.lemmas.List.Elements.{All-push, All-same}
use Rattle.rm_val.specs.Spellable.{IsSpellable}
use Rattle.rm_reply.proofs.NameLemmas.{names_more}
use Rattle.rm_reply.proofs.request.Request.put_names.Goals as goal

-- src/request.rt:61:9
pub loop-place-preserved : goal.loop-place-preserved
loop-place-preserved g c =
    let (whole, asked, within) = c.requires.asked in
    let (so_far, count, spelled) = c.loop-place.invariant in (
      λ m told. c.push.ensures ∙ names_more m.bindings c.loop-place.names c.args.from c.loop-place.place c.name.result c.loop-place.auto.place
          (omega (arith, c.loop-place-test.true, within, asked.told.count, told.told.count)) (c.name.ensures.name m.bindings told.told.kept.1) (so_far m told),
      omega (arith, ap length c.push.ensures, length-append c.loop-place.names (c.name.result ∷ []), count),
      All-same IsSpellable _ _ c.push.ensures (All-push IsSpellable c.loop-place.names c.name.result spelled c.name.ensures.spelling),
    )
