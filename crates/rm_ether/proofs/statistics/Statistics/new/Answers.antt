use Rattle.std.proofs.Common.{◌≤◌, ◌*◌, subst, sym, refl, arith}
use Rattle.rm_group.specs.declared.bounds.TheConstants.{MOST_OCTETS}
use Rattle.rm_ether.proofs.Steps.{no_sum}
use Rattle.rm_ether.proofs.statistics.Statistics.new.Goals as goal

pub returns-clause-counters : goal.returns-clause-counters
returns-clause-counters c = no_sum

pub returns-clause-bounded : goal.returns-clause-bounded
returns-clause-bounded c each = subst (λ n. n ≤ MOST_OCTETS * 0) (sym (no_sum each)) (subst (λ n. 0 ≤ n) refl (omega arith))
