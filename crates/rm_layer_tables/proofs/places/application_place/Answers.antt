use Rattle.std.proofs.Common.{◌≡◌, ◌+◌, drop, None, sym, ap, ◌∙◌}
use Rattle.rm_layer_tables.specs.Indexes.{application_place}
use Rattle.rm_layer_tables.proofs.PlaceLemmas.{other_length, other_protocol}
use Rattle.rm_layer_tables.proofs.places.application_place.Goals as goal
use Rattle.rm_layer_tables.proofs.places.application_place.Goals.{then-len-count-via-then-len-count, then-len-count-via-else-len-count+then-at-ne-IP_LOCAL}

pub returns-then-len-count : goal.returns-then-len-count
returns-then-len-count g c =
    elim c.then-len-count.branch as (λ _. None ≡ application_place g.K.LayerKey.form (drop 1 c.args.index.now)) [
      | then-len-count-via-then-len-count w ↦
          sym (other_length g.K.LayerKey.form c.args.index.now (λ same. w.if-len-count.true (c.len.ensures.value ∙ same ∙ ap (λ n. n + 4) (sym c.count.ensures.value))))
      | then-len-count-via-else-len-count+then-at-ne-IP_LOCAL w ↦ sym (other_protocol g.K.LayerKey.form c.args.index.now (λ same. w.if-at-ne-IP_LOCAL.true (w.at.ensures ∙ same)))
    ]
