use Rattle.std.proofs.Common.{◌≡◌, [], ◌∷◌, drop}
use Rattle.rm_words.specs.Grammar.{values_of}
use Rattle.rm_words.specs.Parts.{pieces_from}
use Rattle.rm_words.specs.declared.parts.Expected.TheVariants.{Any}
use Rattle.rm_words.proofs.scan.community_of.Goals as goal

pub returns-in-Once-clause-set : goal.returns-in-Once-clause-set
returns-in-Once-clause-set c =
    let given : values_of c.args.option (pieces_from Any (drop 1 c.args.words.now)) ≡ c.in-Once.value.now ∷ [] = c.in-Once.ensures in
    rw given (rw c.as_bytes.ensures.value at c.community.ensures.is)
