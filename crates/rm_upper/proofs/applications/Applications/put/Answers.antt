use Rattle.std.proofs.Common.{◌≡◌, ◌<◌, ◌+◌, length, max, ap, sym, ◌∙◌, arith}
use Rattle.rm_upper.proofs.FilledLemmas.{filled_set}
use Rattle.rm_upper.proofs.applications.Applications.put.Goals as goal

pub invariant_of-self : goal.invariant_of-self
invariant_of-self g c =
    let slots = c.self.inside.slots in
    let place = c.args.place in
    let long : length slots ≡ 32 = c.self.ranges.0.1.0.1 in
    let within : place < length slots = omega (arith, long, c.requires) in
    c.max-self-inside.ensures ∙ ap (λ n. max n (place + 1)) c.self.invariant ∙ sym (filled_set slots place c.args.kept within)
