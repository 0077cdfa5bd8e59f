use Rattle.std.proofs.Common.{◌≡◌, ◌+◌, ◌≤◌, ◌++◌, length, drop}
use Rattle.rm_group.proofs.instance.append_from.Given as goal

abbrev pub invariant-loop-place : goal.invariant-loop-place
invariant-loop-place l =
    (l.from ≤ l.place) × (l.place ≤ length l.other)
    × (length l.name + length l.other ≤ 128 + l.place)
    × (l.name ++ drop l.place l.other ≡ l.initial.name ++ drop l.from l.other)
