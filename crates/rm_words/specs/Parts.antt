-- The words one by one, as they are read.
use Rattle.std.specs.Prelude.{◌≡◌, ℕ, ◌+◌, List, [], ◌∷◌, ◌++◌, ◌&&◌, ◌==◌, Bool, true, false, if◌then◌else◌, Option, Some, None, position, take, drop}
use Rattle.std.specs.Str.{bytes_eq, IsCharBoundary}
use Rattle.rm_words.specs.Grammar.{Piece, operand, gives}
use Rattle.rm_words.specs.Names.{takes, name_of, takes_value, option_named, follows}
use Rattle.rm_words.specs.declared.names.CommandName.{CommandName}
use Rattle.rm_words.specs.declared.names.OptionName.{OptionName}
use Rattle.rm_words.specs.declared.parts.Expected.{Expected}
use Rattle.rm_words.specs.declared.parts.Expected.TheVariants as expected
use Rattle.rm_words.specs.declared.parts.Part.{Part}
use Rattle.rm_words.specs.declared.parts.Part.TheVariants.{Operand, End, Flag, Name, Joined, Value, Unknown}

abbrev pub is_equals : ℕ → Bool
is_equals c = c == 61

-- what an option is whose name stands alone
abbrev pub alone_part : Option OptionName → Part
alone_part None = Unknown
alone_part (Some option) = if takes_value option then Name option else Flag option

-- what an option is whose name is followed by `=` and a value, which begins at that octet
abbrev pub joined_part : ℕ → Option OptionName → Part
joined_part from None = Unknown
joined_part from (Some option) = if takes_value option then Joined option from else Unknown

abbrev pub cut_part : Option ℕ → List ℕ → Part
cut_part None text = alone_part (option_named text)
cut_part (Some at) text = joined_part (at + 3) (option_named (take at text))

-- what stands behind two dashes
unfoldable pub named_part : List ℕ → Part
named_part text = cut_part (position is_equals text) text

abbrev pub dashed_part : ℕ → List ℕ → Part
dashed_part d [] = if d == 45 then End else Unknown
dashed_part d (c ∷ cs) = if d == 45 then named_part (c ∷ cs) else Unknown

-- what a word is that may be an operand or an option
unfoldable pub plain_part : List ℕ → Part
plain_part [] = Operand
plain_part (c ∷ []) = Operand
plain_part (c ∷ d ∷ cs) = if c == 45 then dashed_part d cs else Operand

-- what a word is behind an option that has a value
abbrev pub value_part : OptionName → Bool → Part
value_part option fits = if fits then Value option else Unknown

-- what a word is
abbrev pub part_of : Expected → List ℕ → Part
part_of expected.Any word = plain_part word
part_of (expected.Value option) word = value_part option (follows option word)
part_of expected.Operand word = Operand

-- what stands next behind a part
abbrev pub next_of : Expected → Part → Expected
next_of before End = expected.Operand
next_of before (Name option) = expected.Value option
next_of before Operand = before
next_of before (Flag option) = expected.Any
next_of before (Joined option from) = expected.Any
next_of before (Value option) = expected.Any
next_of before Unknown = expected.Any

abbrev pub is_operand : Part → Bool
is_operand Operand = true
is_operand End = false
is_operand (Flag option) = false
is_operand (Name option) = false
is_operand (Joined option from) = false
is_operand (Value option) = false
is_operand Unknown = false

-- whether a command may have a part
abbrev pub may_stand : CommandName → Part → Bool
may_stand command (Flag option) = takes command option
may_stand command (Name option) = takes command option
may_stand command (Joined option from) = takes command option
may_stand command Operand = true
may_stand command End = true
may_stand command (Value option) = true
may_stand command Unknown = false

abbrev pub value_if : Bool → List ℕ → List (List ℕ)
value_if given value = if given then value ∷ [] else []

-- the value that a part gives an option, if it gives it one
abbrev pub values_in : OptionName → Part → List ℕ → List (List ℕ)
values_in option (Flag given) word = value_if (bytes_eq (name_of given) (name_of option)) []
values_in option (Joined given from) word = value_if (bytes_eq (name_of given) (name_of option)) (drop from word)
values_in option (Value given) word = value_if (bytes_eq (name_of given) (name_of option)) word
values_in option Operand word = []
values_in option End word = []
values_in option (Name given) word = []
values_in option Unknown word = []

-- where a part says that a value begins in a word, a character begins
abbrev pub IsCut : Part → List ℕ → Type 0
IsCut part word = (option : OptionName) (from : ℕ) → part ≡ Joined option from → IsCharBoundary word from

-- the piece that a part makes up, if it makes one up
abbrev pub pieces_in : Part → List ℕ → List Piece
pieces_in Operand word = operand word ∷ []
pieces_in (Flag option) word = gives option [] ∷ []
pieces_in (Joined option from) word = gives option (drop from word) ∷ []
pieces_in (Value option) word = gives option word ∷ []
pieces_in End word = []
pieces_in (Name option) word = []
pieces_in Unknown word = []

-- the pieces of words, read one by one
abbrev pub pieces_from : Expected → List (List ℕ) → List Piece
pieces_from before [] = []
pieces_from before (word ∷ words) = pieces_in (part_of before word) word ++ pieces_from (next_of before (part_of before word)) words

-- the words may end
abbrev pub may_end : Expected → Bool
may_end expected.Any = true
may_end (expected.Value option) = false
may_end expected.Operand = true

-- whether a command may have all words
abbrev pub are_whole : CommandName → Expected → List (List ℕ) → Bool
are_whole command before [] = may_end before
are_whole command before (word ∷ words) = may_stand command (part_of before word) && are_whole command (next_of before (part_of before word)) words
