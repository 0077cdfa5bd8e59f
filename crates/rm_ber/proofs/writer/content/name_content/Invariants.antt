use Rattle.rm_ber.proofs.CanonicalGroups.{HasGroups}
use Rattle.rm_ber.proofs.writer.content.name_content.Given as goal

-- the groups of the numbers so far
abbrev pub invariant-loop-place : goal.invariant-loop-place
invariant-loop-place l = HasGroups l.name l.place l.content.items
