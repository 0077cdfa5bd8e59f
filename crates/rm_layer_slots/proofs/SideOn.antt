-- A side by the directory of protocols is one, and its events turn what the slots have.
use Rattle.std.proofs.Common.{◌≡◌, true, [], ◌∷◌, ◌++◌, nat_eq, refl, sym, ap, ◌∙◌}
use Rattle.std.specs.List.{list_any}
use Rattle.rm_model.specs.Journal.{Act, Journal}
use Rattle.rm_layers.specs.Applications.{Slots, has_slot}
use Rattle.rm_layers.specs.Upper.{AreTuned}
use Rattle.rm_layers.specs.Turning.{IsChange}
use Rattle.rm_layer_events.specs.Side.{Side, IsSide, next_stamp, turned, besides}
use Rattle.rm_layer_events.proofs.SideLemmas.{one_change, besides_after, set_on}
use Rattle.rm_layer_slots.specs.declared.slots.TableKind.{TableKind}
use Rattle.rm_layer_slots.specs.declared.slots.TableKind.TheVariants.{Hosts, Matrices}
use Rattle.rm_layer_slots.specs.On.{is_ip_on, CountsBy}
use Rattle.rm_layer_slots.specs.Settled.{AreSettled}
use Rattle.rm_layer_slots.proofs.SteadyLemmas.{on_steady, ip_steady}
use Rattle.rm_layer_slots.proofs.MovedLemmas.{all_new}

ip_first : (kind : TableKind) → is_ip_on kind [] ≡ true
ip_first Hosts = refl
ip_first Matrices = refl

module _ {K G : Type 0} (kind : TableKind) (side : Side K G) (counts : CountsBy kind side) where
  pub is_side : IsSide side
  is_side = record {
    few = counts.few;
    listed = λ p journal i. ap (list_any (nat_eq p)) (counts.locals journal) ∙ sym (counts.on p journal) ∙ i;
    ip_first = counts.ip [] ∙ ip_first kind;
    ip_steady = λ act earlier is. counts.ip (act ∷ earlier) ∙ ip_steady kind act earlier is ∙ sym (counts.ip earlier);
    steady = λ p act earlier is. counts.on p (act ∷ earlier) ∙ on_steady kind p act earlier is ∙ sym (counts.on p earlier);
  }

  pub change_on : (act : Act) (earlier : Journal) (old slots : Slots) → AreTuned old (besides side act earlier) → AreTuned slots (turned side act earlier ++ besides side act earlier) → AreSettled old slots
      → IsChange (next_stamp earlier) (turned side act earlier) (besides side act earlier) old slots
  change_on act earlier old slots was now settled =
      one_change side is_side act earlier old slots (all_new side is_side act earlier (λ p. has_slot p old) (λ p off. sym ((besides_after side is_side act earlier).1 p) ∙ sym (was.tuned p) ∙ off)
      old slots settled (λ p i. sym (set_on side is_side act earlier p) ∙ sym (now.tuned p) ∙ i))
