-- The words that are pieces.
use Rattle.std.proofs.Common.{◌≡◌, ℕ, ◌+◌, length, List, [], ◌∷◌, ◌++◌, map, drop, Bool, true, false, refl, sym, ap, subst, ◌∙◌}
use Rattle.std.specs.Prelude.{◌&&◌, ◌==◌, not, if◌then◌else◌}
use Rattle.rm_words.specs.Names.{takes, name_of, follows}
use Rattle.rm_words.specs.Grammar.{Piece, operand, gives, dashes, is_plain, Spells, none, end, plain, flag, separate, joined}
use Rattle.rm_words.specs.Parts.{part_of, value_part, next_of, may_stand, are_whole, pieces_in, pieces_from, plain_part, dashed_part}
use Rattle.rm_words.specs.declared.names.CommandName.{CommandName}
use Rattle.rm_words.specs.declared.names.OptionName.{OptionName}
use Rattle.rm_words.specs.declared.parts.Expected.{Expected}
use Rattle.rm_words.specs.declared.parts.Expected.TheVariants as expected
use Rattle.rm_words.specs.declared.parts.Part.{Part}
use Rattle.rm_words.specs.declared.parts.Part.TheVariants.{Operand, End, Flag, Name, Joined, Value, Unknown}
use Rattle.rm_words.proofs.PartLemmas.{Tells, plain_tells, alone, with_value, value_stands}

-- the words are whole, and these are their pieces
pub record AreRead (command : CommandName) (before : Expected) (words : List (List ℕ)) (pieces : List Piece) : Type 0 where
  pub whole : are_whole command before words ≡ true
  pub pieces_are : pieces_from before words ≡ pieces

-- one word more in front, by what it is
abbrev AreReadBy : CommandName → Part → Expected → List ℕ → List (List ℕ) → List Piece → Type 0
AreReadBy command part before word words pieces = (may_stand command part && are_whole command (next_of before part) words ≡ true) × (pieces_in part word ++ pieces_from (next_of before part) words ≡ pieces)

read_by : (command : CommandName) (part : Part) (before : Expected) (word : List ℕ) (words : List (List ℕ)) (pieces : List Piece) → part_of before word ≡ part
    → AreReadBy command part before word words pieces → AreRead command before (word ∷ words) pieces
read_by command part before word words pieces is more =
    let back : AreReadBy command (part_of before word) before word words pieces = subst (λ (p : Part). AreReadBy command p before word words pieces) (sym is) more in
    record { whole = back.0; pieces_are = back.1 }

-- behind the two dashes
operands_read : (command : CommandName) (words : List (List ℕ)) → AreRead command expected.Operand words (map operand words)
operands_read command [] = record { whole = refl; pieces_are = refl }
operands_read command (word ∷ words) =
    let rest = operands_read command words in record { whole = rest.whole; pieces_are = ap (λ (ps : List Piece). operand word ∷ ps) rest.pieces_are }

plain_is : (word : List ℕ) → is_plain word ≡ true → plain_part word ≡ Operand
unfolding plain_part
plain_is [] is = refl
plain_is (c ∷ []) is = refl
plain_is (c ∷ d ∷ cs) is = by_dash (c == 45) is
  where
    by_dash : (dash : Bool) → not dash ≡ true → (if dash then dashed_part d cs else Operand) ≡ Operand
    by_dash true e = absurd cc
    by_dash false e = refl

end_is : plain_part dashes ≡ End
unfolding plain_part
end_is = refl

stand_before : (a b : Bool) → a ≡ true → b ≡ true → (a && b) ≡ true
stand_before a b one other = cc

both_true : (a b : Bool) → (a && b) ≡ true → (a ≡ true) × (b ≡ true)
both_true true b is = (refl, is)
both_true false b is = absurd cc

no_end : (a : Bool) → (a && false) ≡ true → ⊥
no_end true is = cc
no_end false is = cc

-- the value of an option
value_read : (command : CommandName) (option : OptionName) (value : List ℕ) (words : List (List ℕ)) (pieces : List Piece) → follows option value ≡ true
    → AreRead command expected.Any words pieces → AreRead command (expected.Value option) (value ∷ words) (gives option value ∷ pieces)
value_read command option value words pieces fits rest =
    read_by command (Value option) (expected.Value option) value words (gives option value ∷ pieces) (ap (value_part option) fits)
    (rest.whole, ap (λ (ps : List Piece). gives option value ∷ ps) rest.pieces_are)

-- pieces are read
pub spelled_read : (command : CommandName) (words : List (List ℕ)) (pieces : List Piece) → Spells command words pieces → AreRead command expected.Any words pieces
spelled_read command words pieces none = record { whole = refl; pieces_are = refl }
spelled_read command all pieces (end word words is) =
    let rest = operands_read command words in read_by command End expected.Any word words pieces (ap plain_part is ∙ end_is) (rest.whole, rest.pieces_are)
spelled_read command all all_pieces (plain word words pieces is more) =
    let rest = spelled_read command words pieces more in
    read_by command Operand expected.Any word words all_pieces (plain_is word is) (rest.whole, ap (λ (ps : List Piece). operand word ∷ ps) rest.pieces_are)
spelled_read command all all_pieces (flag option word words pieces taken valued is more) =
    let rest = spelled_read command words pieces more in
    let part : plain_part word ≡ Flag option = ap plain_part is ∙ alone option ∙ ap (λ (b : Bool). if b then Name option else Flag option) valued in
    read_by command (Flag option) expected.Any word words all_pieces part (stand_before _ _ taken rest.whole, ap (λ (ps : List Piece). gives option [] ∷ ps) rest.pieces_are)
spelled_read command all all_pieces (separate option word value words pieces taken valued fits is more) =
    let rest = value_read command option value words pieces fits (spelled_read command words pieces more) in
    let part : plain_part word ≡ Name option = ap plain_part is ∙ alone option ∙ ap (λ (b : Bool). if b then Name option else Flag option) valued in
    read_by command (Name option) expected.Any word (value ∷ words) all_pieces part (stand_before _ _ taken rest.whole, rest.pieces_are)
spelled_read command all all_pieces (joined option word value words pieces taken valued is more) =
    let rest = spelled_read command words pieces more in
    let from = length (name_of option) + 3 in
    let part : plain_part word ≡ Joined option from = ap plain_part is ∙ with_value option value ∙ ap (λ (b : Bool). if b then Joined option from else Unknown) valued in
    let stands : drop from word ≡ value = ap (drop from) is ∙ value_stands (name_of option) value in
    read_by command (Joined option from) expected.Any word words all_pieces part
    (stand_before _ _ taken rest.whole, ap (λ (ps : List Piece). gives option (drop from word) ∷ ps) rest.pieces_are ∙ ap (λ (v : List ℕ). gives option v ∷ pieces) stands)

-- words that are whole spell their pieces; and so do those behind the first
abbrev AreSpelled : CommandName → List (List ℕ) → Type 0
AreSpelled command words = are_whole command expected.Any words ≡ true → Spells command words (pieces_from expected.Any words)

abbrev AreSpelledBehind : CommandName → List (List ℕ) → Type 0
AreSpelledBehind command [] = Unit {0}
AreSpelledBehind command (word ∷ words) = AreSpelled command words

-- words behind an option that has a value, by whether the first of them may be it
by_fit : (command : CommandName) (option : OptionName) (word value : List ℕ) (words : List (List ℕ)) (fits : Bool) → follows option value ≡ fits → Tells (Name option) word → takes command option ≡ true
    → (may_stand command (value_part option fits) && are_whole command (next_of (expected.Value option) (value_part option fits)) words) ≡ true → AreSpelled command words
    → Spells command (word ∷ value ∷ words) (pieces_in (value_part option fits) value ++ pieces_from (next_of (expected.Value option) (value_part option fits)) words)
by_fit command option word value words true fits tells taken whole behind = separate option word value words (pieces_from expected.Any words) taken tells.0 fits tells.1 (behind whole)
by_fit command option word value words false fits tells taken whole behind = absurd cc

by_part : (command : CommandName) (word : List ℕ) (words : List (List ℕ)) (part : Part) → Tells part word → (may_stand command part && are_whole command (next_of expected.Any part) words) ≡ true
    → AreSpelled command words → AreSpelledBehind command words → Spells command (word ∷ words) (pieces_in part word ++ pieces_from (next_of expected.Any part) words)
by_part command word words Operand tells whole here behind = plain word words (pieces_from expected.Any words) tells (here whole)
by_part command word words End tells whole here behind =
    subst (λ (ps : List Piece). Spells command (word ∷ words) ps) (sym (operands_read command words).pieces_are) (end word words tells)
by_part command word words (Flag option) tells whole here behind =
    let (taken, rest) = both_true _ _ whole in flag option word words (pieces_from expected.Any words) taken tells.0 tells.1 (here rest)
by_part command word [] (Name option) tells whole here behind = absurd (no_end _ whole)
by_part command word (value ∷ words) (Name option) tells whole here behind =
    let (taken, rest) = both_true _ _ whole in by_fit command option word value words (follows option value) refl tells taken rest behind
by_part command word words (Joined option from) tells whole here behind =
    let (taken, rest) = both_true _ _ whole in joined option word (drop from word) words (pieces_from expected.Any words) taken tells.0 tells.1 (here rest)
by_part command word words (Value option) tells whole here behind = absurd tells
by_part command word words Unknown tells whole here behind = absurd cc

spelled_both : (command : CommandName) (words : List (List ℕ)) → AreSpelled command words × AreSpelledBehind command words
spelled_both command [] = (λ whole. none, tt)
spelled_both command (word ∷ words) =
    let rest = spelled_both command words in (λ whole. by_part command word words (plain_part word) (plain_tells word) whole rest.0 rest.1, rest.0)

pub whole_spelled : (command : CommandName) (words : List (List ℕ)) → are_whole command expected.Any words ≡ true → Spells command words (pieces_from expected.Any words)
whole_spelled command words = (spelled_both command words).0
