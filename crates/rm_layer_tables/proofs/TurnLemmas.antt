-- What a Set turns, for the rows of a control row.
use Rattle.std.proofs.Common.{◌≡◌, ℕ, Bool, true, false, not, List, ◌∷◌, ◌++◌, refl, sym, ap, ◌∙◌}
use mathlib.Core.Bool.{beq}
use Rattle.std.proofs.lemmas.Bool.{true≢false}
use Rattle.rm_model.specs.Counting.{Counting}
use Rattle.rm_model.specs.Journal.{Act, Journal}
use Rattle.rm_layers.specs.Applications.{Slots}
use Rattle.rm_layers.specs.Event.{Event, AreUpTo, turns_ip}
use Rattle.rm_layers.specs.Turning.{IsChange}
use Rattle.rm_layer_events.specs.Side.{begun, turned, besides, events, next_stamp}
use Rattle.rm_layer_events.proofs.SideLemmas.{besides_after}
use Rattle.rm_layer_slots.specs.On.{is_ip_on}
use Rattle.rm_layer_slots.specs.Settled.{AreSettled}
use Rattle.rm_layer_slots.proofs.SideOn.{change_on}
use Rattle.rm_layer_tables.specs.Layer.{Layer, NamesFew, side_of}
use Rattle.rm_layer_tables.specs.LayerLaws.{counts_by, is_side_of}
use Rattle.rm_layer_tables.specs.Standing.{AreOn}
use Rattle.rm_layer_tables.proofs.OnLemmas.{tuned_before, tuned_then}

-- what a test of two says
pub unlike : (a b : Bool) → not (beq a b) ≡ true → a ≡ not b
unlike true true e = absurd (true≢false (sym e))
unlike true false e = refl
unlike false true e = refl
unlike false false e = absurd (true≢false (sym e))

pub alike : (a b : Bool) → not (beq a b) ≡ false → a ≡ b
alike true true e = refl
alike true false e = absurd (true≢false e)
alike false true e = absurd (true≢false e)
alike false false e = refl

module _ {K G : Type 0} (layer : Layer K G) (few : NamesFew layer) (settings : Counting) (row : ℕ) (act : Act) (earlier : Journal) where
  abbrev pub begins_with : List (Event K G)
  begins_with = begun (side_of layer settings row) act earlier ++ events (side_of layer settings row) earlier

  -- where ip stays as it is, nothing is turned
  pub ip_stays : is_ip_on layer.kind (act ∷ earlier) ≡ is_ip_on layer.kind earlier → begins_with ≡ besides (side_of layer settings row) act earlier
  ip_stays same = by_on (is_ip_on layer.kind earlier) (is_ip_on layer.kind (act ∷ earlier)) refl refl
    where
      by_on : (was now : Bool) → is_ip_on layer.kind earlier ≡ was → is_ip_on layer.kind (act ∷ earlier) ≡ now → begins_with ≡ besides (side_of layer settings row) act earlier
      by_on true true e f = rw (e, f) refl
      by_on false false e f = rw (e, f) refl
      by_on true false e f = absurd (cc)
      by_on false true e f = absurd (cc)

  pub ip_turned : (on : Bool) → on ≡ is_ip_on layer.kind (act ∷ earlier) → on ≡ not (is_ip_on layer.kind earlier) → turns_ip on ∷ begins_with ≡ besides (side_of layer settings row) act earlier
  ip_turned on now other = by_on (is_ip_on layer.kind earlier) on refl refl
    where
      by_on : (was is : Bool) → is_ip_on layer.kind earlier ≡ was → on ≡ is → turns_ip on ∷ begins_with ≡ besides (side_of layer settings row) act earlier
      by_on true true e f = absurd (true≢false (sym f ∙ other ∙ ap not e))
      by_on false false e f = absurd (true≢false (sym (sym f ∙ other ∙ ap not e)))
      by_on true false e f = rw (e, ← now, f) refl
      by_on false true e f = rw (e, ← now, f) refl

  pub up_to : AreUpTo (next_stamp earlier) (besides (side_of layer settings row) act earlier)
  up_to = (besides_after (side_of layer settings row) (is_side_of layer few settings row) act earlier).0

  pub one_turning : (old slots : Slots) → AreOn layer.kind old earlier → AreOn layer.kind slots (act ∷ earlier) → AreSettled old slots
      → IsChange (next_stamp earlier) (turned (side_of layer settings row) act earlier) (besides (side_of layer settings row) act earlier) old slots
  one_turning old slots was now settled =
      change_on layer.kind (side_of layer settings row) (counts_by layer few settings row) act earlier old slots (tuned_before layer few settings row act earlier old was) (tuned_then layer few settings row act earlier slots now) settled
