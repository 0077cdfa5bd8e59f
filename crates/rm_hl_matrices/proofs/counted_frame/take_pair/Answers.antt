use Rattle.std.proofs.Common.{◌≡◌, List, ◌∷◌, refl, sym, ◌∙◌, subst}
use Rattle.rm_layers.specs.Event.{Contribution, Event, names, is_ip_on, AreUpTo}
use Rattle.rm_upper.specs.Shown.{protocols, Agrees}
use Rattle.rm_upper.specs.Standing.{StandsFor}
use Rattle.rm_layer_events.proofs.SideLemmas.{ip_after, rise_after}
use Rattle.rm_layer_matrices.specs.declared.pair_counts.PairCounts.{PairCounts}
use Rattle.rm_layer_matrices.specs.PairCounts.{pair_tally}
use Rattle.rm_layer_tables.specs.Going.{passed_on}
use Rattle.rm_layer_tables.specs.Held.{seen_events}
use Rattle.rm_layer_tables.specs.Layer.{side_of}
use Rattle.rm_layer_tables.specs.LayerLaws.{is_side_of}
use Rattle.rm_layer_tables.specs.Tuned.{tuned_for}
use Rattle.rm_layer_tables.proofs.PathLemmas.{on_path}
use Rattle.rm_hl_matrices.specs.Pairs.{Pair}
use Rattle.rm_hl_matrices.specs.PairCells.{same_pair}
use Rattle.rm_hl_matrices.proofs.counted_frame.take_pair.Goals as goal

pub returns-clause-stands : goal.returns-clause-stands
returns-clause-stands c = λ layer settings row journal frame few refs at is.
    let side = side_of layer settings row in
    let r : List (Event Pair PairCounts) = seen_events layer same_pair settings journal row in
    let brings : Contribution PairCounts = record { stamp = c.args.stamp; tick = c.args.tick; path = c.args.path.now; gain = c.args.gain.now } in
    let on_here : is_ip_on r ≡ c.args.pairs.now.on = ip_after side (is_side_of layer few settings row) journal ∙ sym is.on in
    let rises = rise_after side (is_side_of layer few settings row) journal in
    let up : AreUpTo c.args.stamp r = subst (λ s. AreUpTo s r) (sym at) rises.0 in
    let agrees : Agrees c.args.pairs.now.layered.slots c.args.path.now brings = λ protocol here. on_path c.args.path.now protocol in
    let one : StandsFor pair_tally same_pair (names c.args.pair brings ∷ r) c.name.new.self.layered =
    c.name.ensures.stands r brings refl refl refl agrees on_here (tuned_for layer few same_pair settings row journal (protocols c.args.pairs.now.layered.slots) is.slots) (up, rises.1) is.stands in
    passed_on layer pair_tally same_pair settings row journal frame c.args.pairs.now c.name.new.self is c.name.ensures.capacity c.name.ensures.on c.name.ensures.slots (rw (refs, ← at) one)
