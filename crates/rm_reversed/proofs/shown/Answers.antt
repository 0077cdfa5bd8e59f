use Rattle.std.specs.Ordering.{nat_cmp}
use Rattle.rm_evicting.proofs.Keys.{exact_key}
use Rattle.rm_layers.specs.Marks.{IsAboveName}
use Rattle.rm_order.proofs.ReversedLemmas.{alike_of}
use Rattle.rm_reversed.proofs.RowLemmas.{network_in-of, application_in_row-of, shows_network-of, shows_application-of, stands_at-of, next_in-of}
use Rattle.rm_reversed.proofs.shown.Goals as goal

pub returns : goal.returns
returns g c =
    let eq = g.K.PartialEq.eq in
    let to = g.K.Reversible.reversing in
    let twice = g.met.K.Reversible.twice in
    let alike = alike_of eq (exact_key eq g.K.Ord.cmp g.met.K.Eq.laws g.met.K.Ord.matches_eq g.met.K.Key.exact) to twice in
    record {
      network = λ layered key. network_in-of eq to twice alike layered key;
      application = λ layered key protocol. application_in_row-of eq to twice alike layered protocol key;
      network_ticks = λ layered key tick. shows_network-of eq to twice alike layered key tick;
      application_ticks = λ layered key protocol tick. shows_application-of eq to twice alike layered key protocol tick;
      stands_at = λ layered mark key. stands_at-of eq to twice alike layered mark key;
      next_in = λ layered mark key from next least. next_in-of eq to twice alike layered mark key (IsAboveName nat_cmp from) next least;
    }
