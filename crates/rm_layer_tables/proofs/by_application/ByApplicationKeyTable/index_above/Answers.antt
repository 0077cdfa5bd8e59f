use Rattle.std.proofs.Common.{◌<◌, ◌^◌, rules}
use Rattle.rm_evicting.proofs.Keys.{exact_key}
use Rattle.rm_layer_tables.proofs.WalkLemmas.{no_application, least_application}
use Rattle.rm_layer_tables.proofs.by_application.ByApplicationKeyTable.index_above.Goals as goal

pub returns-in_err-mark-clause-least : goal.returns-in_err-mark-clause-least
returns-in_err-mark-clause-least g c =
    rw c.from_residual.ensures
    (no_application g.V.Key.LayerKey.form g.met.V.Key.LayerKey.numbered g.V.Key.PartialEq.eq (exact_key g.V.Key.PartialEq.eq g.V.Key.Ord.cmp g.met.V.Key.Eq.laws g.met.V.Key.Ord.matches_eq g.met.V.Key.Key.exact) g.V.LayerView.table_of c.args.part.now c.args.numbers.now c.walk_place-place.result
    (rw c.bounds.ensures.value at c.walk_place-place.ensures) (rw (c.rows-rows.ensures, c.application_reached-from.ensures) at c.in_err-mark.ensures))

pub returns-clause-least : goal.returns-clause-least
returns-clause-least g c =
    let few : c.in_ok-mark.protocol < 2 ^ 32 = search rules in
    rw c.application_index.ensures.value
    (least_application g.V.Key.LayerKey.form g.met.V.Key.LayerKey.numbered g.V.Key.PartialEq.eq (exact_key g.V.Key.PartialEq.eq g.V.Key.Ord.cmp g.met.V.Key.Eq.laws g.met.V.Key.Ord.matches_eq g.met.V.Key.Key.exact) g.V.LayerView.table_of c.args.part.now c.args.numbers.now c.walk_place-place.result
    (rw c.bounds.ensures.value at c.walk_place-place.ensures) (rw c.rows-rows.ensures at c.are_sound.ensures.apart) c.in_ok-mark.mark c.in_ok-mark.key c.in_ok-mark.protocol c.is_named.ensures few
    (rw (c.rows-rows.ensures, c.application_reached-from.ensures) at c.in_ok-mark.ensures))
