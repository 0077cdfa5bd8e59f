use Rattle.std.proofs.Common.{◌∙◌, ap, drop, take, length, ◌-◌}
use Rattle.rm_evicting.specs.Octets.{with_octets}
use Rattle.rm_evicting.proofs.OctetLemmas.{four_first}
use Rattle.rm_evicting.proofs.octets.number_of.Goals as goal

pub returns-else-octets-lt4-clause-value : goal.returns-else-octets-lt4-clause-value
returns-else-octets-lt4-clause-value c =
    let xs = c.args.octets.now in
    c.with_octets-else-octets-lt4.ensures ∙ ap (λ n. with_octets n (take (length xs - 4) (drop 4 xs))) c.read_u32.ensures ∙ four_first xs c.if-octets-lt4.false
