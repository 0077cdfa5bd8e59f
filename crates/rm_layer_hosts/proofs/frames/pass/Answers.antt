use Rattle.std.proofs.Common.{◌≡◌, ◌+◌, ◌<◌, List, ◌∷◌, refl, sym, ◌∙◌, subst, arith}
use Rattle.std.specs.Prelude.{Option}
use Rattle.rm_layers.specs.Event.{Contribution, Event, names, is_ip_on, AreUpTo}
use Rattle.rm_layers.specs.Upper.{AreTuned}
use Rattle.rm_layer_hosts.specs.declared.counts.NetworkCounts.{NetworkCounts}
use Rattle.rm_upper.specs.declared.slots.Slot.{Slot}
use Rattle.rm_upper.specs.Shown.{protocols, Agrees}
use Rattle.rm_upper.specs.Standing.{StandsFor}
use Rattle.rm_layer_events.specs.Side.{events}
use Rattle.rm_layer_events.proofs.SideLemmas.{ip_after, rise_after, up_to_more}
use Rattle.rm_layer_hosts.specs.Counts.{host_tally}
use Rattle.rm_layer_hosts.proofs.frames.pass.Goals as goal

pub returns-clause-stands : goal.returns-clause-stands
returns-clause-stands g c = λ side journal frame whole is refs at on tuned agrees stands.
    let r : List (Event g.row.K.Denot NetworkCounts) = events side journal in
    let first : Contribution NetworkCounts = record { stamp = c.args.stamp; tick = c.args.tick; path = whole; gain = c.args.source.now.gain } in
    let second : Contribution NetworkCounts = record { stamp = c.args.stamp + 1; tick = c.args.tick; path = whole; gain = c.args.destination.now.gain } in
    let on_here : is_ip_on r ≡ c.args.table.now.on = ip_after side is journal ∙ sym on in
    let rises = rise_after side is journal in
    let up : AreUpTo c.args.stamp r = subst (λ s. AreUpTo s (events side journal)) (sym at) rises.0 in
    let one : StandsFor host_tally g.K.PartialEq.eq (names c.args.source.now.key first ∷ r) c.name.new.self.layered = c.name.ensures.stands r first refl refl refl agrees on_here tuned (up, rises.1) stands in
    let slots : c.name.new.self.layered.slots ≡ c.args.table.now.layered.slots = c.name.ensures.slots in
    let agrees_still : Agrees c.name.new.self.layered.slots c.args.path.now second = subst (λ (x : List (Option Slot)). Agrees x c.args.path.now second) (sym slots) agrees in
    let tuned_then : AreTuned (protocols c.args.table.now.layered.slots) (names c.args.source.now.key first ∷ r) = record { tuned = tuned.tuned; apart = tuned.apart } in
    let tuned_still : AreTuned (protocols c.name.new.self.layered.slots) (names c.args.source.now.key first ∷ r) = subst (λ (x : List (Option Slot)). AreTuned (protocols x) (names c.args.source.now.key first ∷ r)) (sym slots) tuned_then in
    let on_still : is_ip_on r ≡ c.name.new.self.on = on_here ∙ sym c.name.ensures.on in
    let below : c.args.stamp < c.args.stamp + 1 = omega arith in
    let two : StandsFor host_tally g.K.PartialEq.eq (names c.args.destination.now.key second ∷ (names c.args.source.now.key first ∷ r)) c.name-2.new.self.layered = c.name-2.ensures.stands (names c.args.source.now.key first ∷ r) second refl refl refl agrees_still on_still tuned_still ((below, up_to_more c.args.stamp (c.args.stamp + 1) r (omega arith) up), (up, rises.1)) one in
    rw (refs, ← at) two
