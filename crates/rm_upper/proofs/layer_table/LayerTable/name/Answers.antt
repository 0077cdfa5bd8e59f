use Rattle.std.proofs.Common.{◌≡◌, ◌≤◌, ◌+◌, ◌*◌, sym, ap, ◌∙◌, subst, arith}
use Rattle.rm_evicting.proofs.Keys.{exact_key}
use Rattle.rm_layers.specs.Event.{is_ip_on}
use Rattle.rm_layers.specs.Upper.{AreTuned}
use Rattle.rm_upper.specs.Shown.{protocols, Agrees, blank_row, gained_value}
use Rattle.rm_upper.specs.Standing.{StandsFor}
use Rattle.rm_upper.specs.LayerTable.{LayerTable}
use Rattle.rm_upper.proofs.BeforeLemmas.{before-referred, still_before, stands-unnamed}
use Rattle.rm_upper.proofs.layer_table.LayerTable.name.Goals as goal
use Rattle.rm_upper.proofs.layer_table.LayerTable.name.Goals.{then-self, else-self}

pub invariant_of-self : goal.invariant_of-self
invariant_of-self g c =
    let whole : LayerTable g.row.K.Denot g.row.N.Denot g.row.N-Application.Denot = record { layered = c.self.inside.rows; on = c.self.inside.on; next = c.self.inside.next; latest = c.self.inside.latest } in
    let seen : whole ≡ c.args.self.now = c.self.view_is in
    let above : c.self.inside.next ≤ c.args.stamp = subst (λ (s : LayerTable g.row.K.Denot g.row.N.Denot g.row.N-Application.Denot). s.next ≤ c.args.stamp) (sym seen) c.requires.next in
    let after : c.self.inside.latest ≤ c.args.tick = subst (λ (s : LayerTable g.row.K.Denot g.row.N.Denot g.row.N-Application.Denot). s.latest ≤ c.args.tick) (sym seen) c.requires.latest in
    let network : c.self.inside.rows.network_inserts ≤ c.self.inside.next = c.self.invariant.network in
    let applications : c.self.inside.rows.application_inserts ≤ 32 * c.self.inside.next = c.self.invariant.applications in
    elim c.if-self.branch [
      | then-self w ↦
          let entered : w.refer-touch.new.self.network_inserts ≤ c.self.inside.rows.network_inserts + 1 = w.refer-touch.ensures.entered in
          let made : w.refer-touch.new.self.application_inserts ≤ c.self.inside.rows.application_inserts + 32 = w.refer-touch.ensures.made in
          rw w.self-inside-is (record {
            before = rw w.refer-touch.ensures.kept (before-referred g.K.PartialEq.eq (blank_row g.N.Counts.tally.blank) (gained_value g.N.Counts.tally c.self.inside.rows.slots c.args.path.now c.args.stamp c.args.tick) c.self.inside.next c.self.inside.latest c.args.stamp c.args.tick above after c.self.inside.rows.table.capacity c.args.key c.args.gain.now c.self.inside.rows.table.rows c.self.invariant.before);
            network = omega arith;
            applications = omega arith;
          })
      | else-self w ↦ rw w.self-inside-is (record {
        before = still_before c.self.inside.next c.self.inside.latest c.args.stamp c.args.tick above after c.self.inside.rows.table.rows c.self.invariant.before;
        network = omega arith;
        applications = omega arith;
      })
    ]

pub returns-clause-stands : goal.returns-clause-stands
returns-clause-stands g c = λ r part same_stamp same_tick same_gain agrees is_on tuned rises stands.
    let whole : LayerTable g.row.K.Denot g.row.N.Denot g.row.N-Application.Denot = record { layered = c.self.inside.rows; on = c.self.inside.on; next = c.self.inside.next; latest = c.self.inside.latest } in
    let seen : whole ≡ c.args.self.now = c.self.view_is in
    let agree : Agrees c.self.inside.rows.slots c.args.path.now part = subst (λ (s : LayerTable g.row.K.Denot g.row.N.Denot g.row.N-Application.Denot). Agrees s.layered.slots c.args.path.now part) (sym seen) agrees in
    let tuned_here : AreTuned (protocols c.self.inside.rows.slots) r = subst (λ (s : LayerTable g.row.K.Denot g.row.N.Denot g.row.N-Application.Denot). AreTuned (protocols s.layered.slots) r) (sym seen) tuned in
    let here : StandsFor g.N.Counts.tally g.K.PartialEq.eq r c.self.inside.rows = subst (λ (s : LayerTable g.row.K.Denot g.row.N.Denot g.row.N-Application.Denot). StandsFor g.N.Counts.tally g.K.PartialEq.eq r s.layered) (sym seen) stands in
    let on : is_ip_on r ≡ c.self.inside.on = is_on ∙ ap (λ (s : LayerTable g.row.K.Denot g.row.N.Denot g.row.N-Application.Denot). s.on) (sym seen) in
    elim c.if-self.branch [
      | then-self w ↦ rw w.self-inside-is (w.refer-touch.ensures.stands r part same_stamp same_tick same_gain agree (on ∙ w.if-self.true) tuned_here rises here)
      | else-self w ↦ rw w.self-inside-is (stands-unnamed g.N.Counts.tally g.K.PartialEq.eq (exact_key g.K.PartialEq.eq g.K.Ord.cmp g.met.K.Eq.laws g.met.K.Ord.matches_eq g.met.K.Key.exact) r c.self.inside.rows c.args.key part (on ∙ w.if-self.false) here)
    ]
