use Rattle.std.proofs.Common.{◌≡◌, not, refl, sym, ap, subst, ◌∙◌}
use Rattle.rm_model.specs.Journal.{Act, assigns}
use Rattle.rm_layers.specs.Event.{AreUpTo}
use Rattle.rm_layers.specs.Applications.{Slots}
use Rattle.rm_upper.specs.Shown.{protocols}
use Rattle.rm_upper.specs.Standing.{StandsFor}
use Rattle.rm_layer_events.specs.Side.{turned, besides}
use Rattle.rm_layer_tables.specs.Layer.{side_of}
use Rattle.rm_layer_tables.specs.Standing.{AreOn}
use Rattle.rm_layer_tables.proofs.OnLemmas.{tuned_before, tuned_then}
use Rattle.rm_layer_tables.proofs.TurnLemmas.{alike, unlike, begins_with, ip_stays, ip_turned, up_to, one_turning}
use Rattle.rm_layer_tables.proofs.turning.turn.Goals as goal
use Rattle.rm_layer_tables.proofs.turning.turn.Goals.{then-is_turned, else-is_turned}

pub returns-clause-stands : goal.returns-clause-stands
returns-clause-stands g c = λ layer settings row moment values earlier few at on_is slots_are settled begun.
    let act : Act = assigns moment values in
    let was = c.args.table.now.layered in
    let now = c.if-is_turned.table.layered in
    let after = elim c.if-is_turned.branch as (λ _. StandsFor g.N.Counts.tally g.K.PartialEq.eq (besides (side_of layer settings row) act earlier) now × (now.slots ≡ was.slots) × (now.table.capacity ≡ was.table.capacity) × (c.if-is_turned.table.on ≡ c.args.on)) [
      | then-is_turned w ↦ rw w.table-is (
        rw (← ip_turned layer few settings row act earlier c.args.on on_is (unlike c.args.on c.is_ip_on.result w.if-is_turned.true ∙ ap not (c.is_ip_on.ensures ∙ begun.on))) (w.turn_ip.ensures.stands (begins_with layer few settings row act earlier) begun.stands),
        w.turn_ip.ensures.slots,
        w.turn_ip.ensures.capacity,
        w.turn_ip.ensures.on,
      )
      | else-is_turned w ↦ rw w.table-is (
        rw (← ip_stays layer few settings row act earlier (sym on_is ∙ alike c.args.on c.is_ip_on.result w.if-is_turned.false ∙ c.is_ip_on.ensures ∙ begun.on)) begun.stands,
        refl,
        refl,
        sym (alike c.args.on c.is_ip_on.result w.if-is_turned.false ∙ c.is_ip_on.ensures),
      )
    ] in
    let same : protocols was.slots ≡ protocols now.slots = ap protocols (sym after.1) in
    let old : AreOn layer.kind (protocols now.slots) earlier = subst (λ (slots : Slots). AreOn layer.kind slots earlier) same begun.slots in
    record {
      capacity = c.retune.ensures.capacity ∙ after.2 ∙ begun.capacity;
      on = c.retune.ensures.on ∙ after.3 ∙ on_is;
      slots = rw c.retune.ensures.slots slots_are;
      stands = c.retune.ensures.stands (turned (side_of layer settings row) act earlier) (besides (side_of layer settings row) act earlier)
          (subst (λ s. AreUpTo s (besides (side_of layer settings row) act earlier)) (sym at) (up_to layer few settings row act earlier))
          (tuned_before layer few settings row act earlier (protocols now.slots) old) (tuned_then layer few settings row act earlier c.args.slots.now slots_are)
          (rw at (one_turning layer few settings row act earlier (protocols now.slots) c.args.slots.now old slots_are (rw (← same) settled)))
          after.0;
    }
