use Rattle.std.proofs.Common.{◌≡◌, length, sym, ◌∙◌, subst}
use Rattle.rm_evicting.proofs.Keys.{exact_key}
use Rattle.rm_layers.specs.Applications.{AreApart}
use Rattle.rm_layers.specs.Upper.{AreTuned}
use Rattle.rm_layers.specs.Turning.{IsChange}
use Rattle.rm_upper.specs.Shown.{protocols}
use Rattle.rm_upper.specs.Standing.{Layered, StandsFor}
use Rattle.rm_upper.proofs.StandingLemmas.{protocols-after, stands-retuned}
use Rattle.rm_upper.proofs.network_rows.NetworkRows.retune.Goals as goal

pub invariant_of-self : goal.invariant_of-self
invariant_of-self g c =
    let long : length c.self.inside.slots ≡ 32 = c.self.ranges.1.0.1.0.1 in
    let slots : protocols c.retune_all.new.slots ≡ c.args.now.now = rw c.retune_all.ensures (protocols-after c.args.stamp c.self.inside.slots c.args.now.now (long ∙ sym c.told-now)) in
    (c.self.invariant.0, c.self.invariant.1, subst AreApart (sym slots) c.requires.apart)

pub returns-clause-stands : goal.returns-clause-stands
returns-clause-stands g c = λ ts r up before after change stands.
    let exact = exact_key g.K.PartialEq.eq g.K.Ord.cmp g.met.K.Eq.laws g.met.K.Ord.matches_eq g.met.K.Key.exact in
    let layered : Layered g.row.K.Denot g.row.N.Denot g.row.N-Application.Denot = record { table = c.self.inside.rows; slots = c.self.inside.slots; network_inserts = c.self.inside.network_inserts; application_inserts = c.self.inside.application_inserts } in
    let seen : layered ≡ c.args.self.now = c.self.view_is in
    let long : length c.self.inside.slots ≡ 32 = c.self.ranges.1.0.1.0.1 in
    let many : length c.args.now.now ≡ 32 = c.told-now in
    rw c.retune_all.ensures (stands-retuned g.N.Counts.tally g.K.PartialEq.eq exact c.args.stamp ts r layered c.args.now.now (long ∙ sym many) up
    (subst (λ (x : Layered g.row.K.Denot g.row.N.Denot g.row.N-Application.Denot). AreTuned (protocols x.slots) r) (sym seen) before) after
    (subst (λ (x : Layered g.row.K.Denot g.row.N.Denot g.row.N-Application.Denot). IsChange c.args.stamp ts r (protocols x.slots) c.args.now.now) (sym seen) change)
    (subst (StandsFor g.N.Counts.tally g.K.PartialEq.eq r) (sym seen) stands))

pub returns-clause-slots : goal.returns-clause-slots
returns-clause-slots g c =
    let long : length c.self.inside.slots ≡ 32 = c.self.ranges.1.0.1.0.1 in
    let many : length c.args.now.now ≡ 32 = c.told-now in
    rw c.retune_all.ensures (protocols-after c.args.stamp c.self.inside.slots c.args.now.now (long ∙ sym many))
