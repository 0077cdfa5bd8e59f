use Rattle.std.proofs.Common.{rules, ◌≡◌, ◌<◌, replicate, None, sym, subst}
use Rattle.rm_evicting.proofs.Keys.{exact_key}
use Rattle.rm_layers.specs.Applications.{AreApart}
use Rattle.rm_upper.specs.Shown.{protocols}
use Rattle.rm_upper.specs.Sound.{AreSound}
use Rattle.rm_upper.proofs.StandingLemmas.{protocols-after, stands-first}
use Rattle.rm_upper.proofs.network_rows.NetworkRows.begin.Goals as goal

pub invariant_of-self : goal.invariant_of-self
invariant_of-self g c =
    let kept : (0 < c.reset.new.self.capacity) × AreSound g.K.PartialEq.eq c.reset.new.self.rows = search rules in
    let slots : protocols c.retune_all.new.slots ≡ c.args.now.now = rw c.retune_all.ensures (protocols-after 0 (replicate 32 None) c.args.now.now (sym c.told-now)) in
    (kept.0, kept.1, subst AreApart (sym slots) c.requires.apart)

pub returns-clause-slots : goal.returns-clause-slots
returns-clause-slots g c = rw c.retune_all.ensures (protocols-after 0 (replicate 32 None) c.args.now.now (sym c.told-now))

pub returns-clause-stands : goal.returns-clause-stands
returns-clause-stands g c = λ r.
    let exact = exact_key g.K.PartialEq.eq g.K.Ord.cmp g.met.K.Eq.laws g.met.K.Ord.matches_eq g.met.K.Key.exact in
    rw (c.reset.ensures, c.retune_all.ensures) (stands-first g.N.Counts.tally g.K.PartialEq.eq exact c.self.inside.rows.room c.args.capacity r c.args.now.now)
