use Rattle.std.proofs.Common.{◌≡◌, ◌++◌, ◌≤◌, length, drop, flat_map}
use Rattle.rm_decode.specs.Text.{dot_and}
use Rattle.rm_decode.proofs.line.push_dotted.Given as goal

abbrev pub invariant-loop-place : goal.invariant-loop-place
invariant-loop-place l =
    (1 ≤ l.place) × (l.place ≤ length l.numbers)
    × (l.text.items ++ flat_map dot_and (drop l.place l.numbers) ≡ l.initial.text.items ++ flat_map dot_and (drop 1 l.numbers))
