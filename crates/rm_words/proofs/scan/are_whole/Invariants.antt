use Rattle.std.proofs.Common.{◌≡◌, drop}
use Rattle.rm_words.specs.Parts.{are_whole}
use Rattle.rm_words.specs.declared.parts.Expected.TheVariants.{Any}
use Rattle.rm_words.proofs.scan.are_whole.Given as goal

abbrev pub invariant-loop-place : goal.invariant-loop-place
invariant-loop-place l = are_whole l.command l.expected (drop l.place l.words) ≡ are_whole l.command Any (drop 1 l.words)
