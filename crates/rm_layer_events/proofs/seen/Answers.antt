use Rattle.rm_layer_events.proofs.SideLemmas.{on_after, ip_after, rise_after, one_change, first_change, besides_after, turned_on}
use Rattle.rm_layer_events.proofs.seen.Goals as goal

pub returns : goal.returns
returns g c = record {
  on = λ side is p journal. on_after side is p journal;
  ip = λ side is journal. ip_after side is journal;
  stamps = λ side is journal. rise_after side is journal;
  change = λ side is act earlier old slots new. one_change side is act earlier old slots new;
  turned = λ side is protocol act earlier now before. turned_on side is protocol act earlier now before;
  besides = λ side is act earlier. besides_after side is act earlier;
  first = λ side old slots new. first_change side old slots new;
}
