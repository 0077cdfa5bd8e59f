use Rattle.std.proofs.Common.{length}
use Rattle.rm_ber.specs.Reading.{groups_within, extended}
use Rattle.rm_ber.proofs.GrammarNames.{GroupsLeft}
use Rattle.rm_ber.proofs.reader.content.put_groups.Given as goal

abbrev pub invariant-loop-rest : goal.invariant-loop-rest
invariant-loop-rest l = GroupsLeft l.name l.rest (extended l.fn.name (groups_within (length l.groups) l.groups))

abbrev pub decreases-loop-rest : goal.decreases-loop-rest
decreases-loop-rest l = length l.rest
