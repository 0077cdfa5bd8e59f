use Rattle.std.proofs.Common.{◌≡◌, drop}
use Rattle.std.specs.Prelude.{slice_get}
use Rattle.rm_words.specs.Grammar.{operands}
use Rattle.rm_words.specs.Parts.{pieces_from}
use Rattle.rm_words.specs.declared.parts.Expected.TheVariants.{Any}
use Rattle.rm_words.proofs.scan.operand.Given as goal

abbrev pub invariant-loop-place : goal.invariant-loop-place
invariant-loop-place l = slice_get (operands (pieces_from l.expected (drop l.place l.words))) l.left ≡ slice_get (operands (pieces_from Any (drop 1 l.words))) l.number
