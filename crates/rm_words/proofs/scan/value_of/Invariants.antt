use Rattle.std.proofs.Common.{◌≡◌, ◌++◌, drop}
use Rattle.rm_words.specs.Grammar.{values_of}
use Rattle.rm_words.specs.Parts.{pieces_from}
use Rattle.rm_words.specs.Scan.{so_far}
use Rattle.rm_words.specs.declared.parts.Expected.TheVariants.{Any}
use Rattle.rm_words.proofs.scan.value_of.Given as goal

abbrev pub invariant-loop-place : goal.invariant-loop-place
invariant-loop-place l = so_far l.given ++ values_of l.option (pieces_from l.expected (drop l.place l.words)) ≡ values_of l.option (pieces_from Any (drop 1 l.words))
