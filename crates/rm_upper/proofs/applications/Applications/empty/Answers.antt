use Rattle.std.proofs.Common.{◌≡◌, length, ap, sym, arith}
use Rattle.rm_upper.specs.Filled.{filled_in}
use Rattle.rm_upper.proofs.FilledLemmas.{filled_within, emptied_all}
use Rattle.rm_upper.proofs.applications.Applications.empty.Goals as goal

pub empty_before-requires : goal.empty_before-requires
empty_before-requires g c =
    let filled : c.self.inside.filled ≡ filled_in c.self.inside.slots = c.self.invariant in
    let within = filled_within c.self.inside.slots in
    omega (arith, filled, within)

pub returns : goal.returns
returns g c =
    let long : length c.self.inside.slots ≡ 32 = c.self.ranges.0.1.0.1 in
    emptied_all c.self.inside.slots c.empty_before.new.slots c.self.inside.filled c.self.invariant long c.empty_before.ensures

pub invariant_of-self : goal.invariant_of-self
invariant_of-self g c =
    let long : length c.self.inside.slots ≡ 32 = c.self.ranges.0.1.0.1 in
    sym (ap filled_in (emptied_all c.self.inside.slots c.empty_before.new.slots c.self.inside.filled c.self.invariant long c.empty_before.ensures))
