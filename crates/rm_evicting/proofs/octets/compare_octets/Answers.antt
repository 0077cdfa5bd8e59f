use Rattle.std.proofs.Common.{sym, ap, ◌∙◌}
use Rattle.std.specs.Ordering.{nat_cmp}
use Rattle.rm_evicting.specs.Octets.{number_of}
use Rattle.rm_evicting.proofs.OctetLemmas.{in_order}
use Rattle.rm_evicting.proofs.octets.compare_octets.Goals as goal

pub returns-then-octets-le8 : goal.returns-then-octets-le8
returns-then-octets-le8 c =
    let one = c.number_of.ensures in let other = c.number_of-then-octets-le8.ensures in
    c.cmp.ensures ∙ ap (λ n. nat_cmp n c.number_of-then-octets-le8.result) one.value ∙ ap (nat_cmp (number_of c.args.octets.now)) other.value
    ∙ sym (in_order c.args.octets.now c.args.others.now c.requires one.octets other.octets)
