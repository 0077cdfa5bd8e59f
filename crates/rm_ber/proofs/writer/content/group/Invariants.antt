use Rattle.rm_ber.proofs.CanonicalGroups.{HasDigits}
use Rattle.rm_ber.proofs.writer.content.group.Given as goal

-- the digits so far, and those that are left
abbrev pub invariant-loop-weight : goal.invariant-loop-weight
invariant-loop-weight l = HasDigits l.weight-items l.weight-index l.number l.octets.items
