use Rattle.std.proofs.Common.{ap, sym, ◌∙◌, drop}
use Rattle.std.specs.Prelude.{Some}
use Rattle.rm_model.specs.Judgement.{place_behind}
use Rattle.rm_status.proofs.PlaceLemmas.{place_outside, place_within}
use Rattle.rm_status.proofs.place.place_under.Goals as goal

pub returns-then-starts_with : goal.returns-then-starts_with
returns-then-starts_with g c =
    c.place_from.ensures ∙ ap (λ k. place_behind g.C.ControlRow.form.table (Some (drop k c.args.name.now))) c.len.ensures.value
    ∙ place_within g.C.ControlRow.form.table c.args.entry.now c.args.name.now (sym c.if-starts_with.true ∙ c.starts_with.ensures.value)

pub returns-else-starts_with : goal.returns-else-starts_with
returns-else-starts_with g c = place_outside g.C.ControlRow.form.table c.args.entry.now c.args.name.now (sym c.if-starts_with.false ∙ c.starts_with.ensures.value)
