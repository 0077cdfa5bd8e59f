use Rattle.std.proofs.Common.{◌-◌, ◌^◌}
use Rattle.rm_filter.proofs.FindLemmas.{NoneUpTo}
use Rattle.rm_filter.proofs.accepting.finds_match.Given as goal

-- none so far matches
abbrev pub invariant-loop-index : goal.invariant-loop-index
invariant-loop-index l = NoneUpTo l.filters l.channel l.facts.status l.octets l.last

abbrev pub decreases-loop-index : goal.decreases-loop-index
decreases-loop-index l = 2 ^ 32 - l.last
