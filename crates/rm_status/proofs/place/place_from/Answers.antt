use Rattle.std.proofs.Common.{sym, ap, ◌∙◌, drop}
use Rattle.std.specs.Prelude.{Some}
use Rattle.rm_model.specs.Judgement.{place_behind, place_in}
use Rattle.rm_group.proofs.StartLemmas.{drop_none, drop_some, get_within}
use Rattle.rm_status.proofs.place.place_from.Goals as goal

pub number-requires : goal.number-requires
number-requires g c = rw c.in-Some.ensures.past (get_within c.args.name.now c.args.from c.in-Some.column c.in-Some.ensures.value)

pub returns-in-Some : goal.returns-in-Some
returns-in-Some g c =
    let t = g.C.ControlRow.form.table in
    c.place_in.ensures ∙ ap (place_in c.in-Some.column) (c.number.ensures ∙ ap (λ k. t.indexing.number_of (drop k c.args.name.now)) c.in-Some.ensures.past)
    ∙ sym (ap (λ d. place_behind t (Some d)) (drop_some c.args.name.now c.args.from c.in-Some.column c.in-Some.ensures.value))

pub returns-in-None : goal.returns-in-None
returns-in-None g c = sym (ap (λ d. place_behind g.C.ControlRow.form.table (Some d)) (drop_none c.args.name.now c.args.from c.in-None.ensures.value))
