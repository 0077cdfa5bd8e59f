-- Words that are read one by one.
use Rattle.std.proofs.Common.{◌≡◌, ℕ, suc, ◌+◌, ◌≤◌, List, [], ◌∷◌, ◌++◌, drop, length, Option, Some, None, Bool, true, false, refl, sym, ap, ◌∙◌, append_assoc, arith}
use Rattle.std.specs.Borrow.{Bor}
use Rattle.std.specs.Option.{is_some}
use Rattle.rm_words.specs.Scan.{so_far}
use Rattle.std.specs.Prelude.{slice_get, ◌&&◌, if◌then◌else◌}
use Rattle.std.specs.Str.{bytes_eq}
use Rattle.std.proofs.lemmas.Grind.{common_steps}
use Rattle.std.proofs.lemmas.List.{drop_more}
use Rattle.std.proofs.lemmas.Option.{get_or_from_slice_get, slice_get_within}
use Rattle.rm_words.specs.Names.{name_of}
use Rattle.rm_words.specs.Grammar.{Piece, gives, operands, values_of}
use Rattle.rm_words.specs.Parts.{part_of, next_of, is_operand, may_stand, are_whole, pieces_in, pieces_from, values_in, value_if}
use Rattle.rm_words.specs.declared.names.CommandName.{CommandName}
use Rattle.rm_words.specs.declared.names.OptionName.{OptionName}
use Rattle.rm_words.specs.declared.parts.Expected.{Expected}
use Rattle.rm_words.specs.declared.parts.Part.{Part}
use Rattle.rm_words.specs.declared.parts.Part.TheVariants.{Operand, End, Flag, Name, Joined, Value, Unknown}

-- the word at a place is the first of those that are left
pub left_at : (words : List (List ℕ)) (place : ℕ) (word : List ℕ) → slice_get words place ≡ Some word → drop place words ≡ word ∷ drop (place + 1) words
left_at words place word at =
    drop_more words place word (slice_get_within words place word at) ∙ ap (λ (w : List ℕ). w ∷ drop (place + 1) words) (get_or_from_slice_get words place word word at)

-- a word at a place, and the part that it is
pub record IsRead (words : List (List ℕ)) (place : ℕ) (before : Expected) (word : List ℕ) (part : Part) (next : Expected) : Type 0 where
  pub word_at : slice_get words place ≡ Some word
  pub part_is : part ≡ part_of before word
  pub next_is : next ≡ next_of before part

-- the words are whole where the part may stand and the others are whole
pub whole_more : (command : CommandName) (words : List (List ℕ)) (place : ℕ) (before next : Expected) (word : List ℕ) (part : Part) → IsRead words place before word part next
    → are_whole command before (drop place words) ≡ (may_stand command part && are_whole command next (drop (place + 1) words))
whole_more command words place before next word part is =
    ap (are_whole command before) (left_at words place word is.word_at)
    ∙ ap (λ (p : Part). may_stand command p && are_whole command (next_of before p) (drop (place + 1) words)) (sym is.part_is)
    ∙ ap (λ (n : Expected). may_stand command part && are_whole command n (drop (place + 1) words)) (sym is.next_is)

-- the pieces are that of the part and those of the others
pub pieces_more : (words : List (List ℕ)) (place : ℕ) (before next : Expected) (word : List ℕ) (part : Part) → IsRead words place before word part next
    → pieces_from before (drop place words) ≡ pieces_in part word ++ pieces_from next (drop (place + 1) words)
pieces_more words place before next word part is =
    ap (pieces_from before) (left_at words place word is.word_at)
    ∙ ap (λ (p : Part). pieces_in p word ++ pieces_from (next_of before p) (drop (place + 1) words)) (sym is.part_is)
    ∙ ap (λ (n : Expected). pieces_in part word ++ pieces_from n (drop (place + 1) words)) (sym is.next_is)

-- the operands of a part's piece stand in front
pub operands_in_front : (part : Part) (word : List ℕ) (more : List Piece) → operands (pieces_in part word ++ more) ≡ (if is_operand part then word ∷ operands more else operands more)
operands_in_front Operand word more = refl
operands_in_front End word more = refl
operands_in_front (Name given) word more = refl
operands_in_front Unknown word more = refl
operands_in_front (Flag given) word more = refl
operands_in_front (Joined given from) word more = refl
operands_in_front (Value given) word more = refl

pub operands_more : (words : List (List ℕ)) (place : ℕ) (before next : Expected) (word : List ℕ) (part : Part) → IsRead words place before word part next
    → operands (pieces_from before (drop place words)) ≡ (if is_operand part then word ∷ operands (pieces_from next (drop (place + 1) words)) else operands (pieces_from next (drop (place + 1) words)))
operands_more words place before next word part is =
    ap operands (pieces_more words place before next word part is) ∙ operands_in_front part word (pieces_from next (drop (place + 1) words))

-- so do its values
gives_in_front : (option given : OptionName) (value : List ℕ) (more : List Piece) → values_of option (gives given value ∷ more) ≡ value_if (bytes_eq (name_of given) (name_of option)) value ++ values_of option more
gives_in_front option given value more = by_same (bytes_eq (name_of given) (name_of option))
  where
    by_same : (same : Bool) → (if same then value ∷ values_of option more else values_of option more) ≡ value_if same value ++ values_of option more
    by_same true = refl
    by_same false = refl

pub values_in_front : (option : OptionName) (part : Part) (word : List ℕ) (more : List Piece) → values_of option (pieces_in part word ++ more) ≡ values_in option part word ++ values_of option more
values_in_front option Operand word more = refl
values_in_front option End word more = refl
values_in_front option (Name given) word more = refl
values_in_front option Unknown word more = refl
values_in_front option (Flag given) word more = gives_in_front option given [] more
values_in_front option (Joined given from) word more = gives_in_front option given (drop from word) more
values_in_front option (Value given) word more = gives_in_front option given word more

pub values_more : (option : OptionName) (words : List (List ℕ)) (place : ℕ) (before next : Expected) (word : List ℕ) (part : Part) → IsRead words place before word part next
    → values_of option (pieces_from before (drop place words)) ≡ values_in option part word ++ values_of option (pieces_from next (drop (place + 1) words))
values_more option words place before next word part is =
    ap (values_of option) (pieces_more words place before next word part is) ∙ values_in_front option part word (pieces_from next (drop (place + 1) words))

-- which operand it is
pub operand_here : (words : List (List ℕ)) (place : ℕ) (before next : Expected) (word : List ℕ) (part : Part) (left : ℕ) → IsRead words place before word part next
    → is_operand part ≡ true → left ≡ 0 → slice_get (operands (pieces_from before (drop place words))) left ≡ Some word
operand_here words place before next word part left is one none =
    ap (λ (n : ℕ). slice_get (operands (pieces_from before (drop place words))) n) none
    ∙ ap (λ (texts : List (List ℕ)). slice_get texts 0) (rw one at (operands_more words place before next word part is))

pub operand_behind : (words : List (List ℕ)) (place : ℕ) (before next : Expected) (word : List ℕ) (part : Part) (left less : ℕ) → IsRead words place before word part next
    → is_operand part ≡ true → left ≡ suc less → slice_get (operands (pieces_from next (drop (place + 1) words))) less ≡ slice_get (operands (pieces_from before (drop place words))) left
operand_behind words place before next word part left less is one more =
    sym (ap (λ (n : ℕ). slice_get (operands (pieces_from before (drop place words))) n) more
    ∙ ap (λ (texts : List (List ℕ)). slice_get texts (suc less)) (rw one at (operands_more words place before next word part is)))

pub no_operand : (words : List (List ℕ)) (place : ℕ) (before next : Expected) (word : List ℕ) (part : Part) (left same : ℕ) → IsRead words place before word part next
    → is_operand part ≡ false → same ≡ left → slice_get (operands (pieces_from next (drop (place + 1) words))) same ≡ slice_get (operands (pieces_from before (drop place words))) left
no_operand words place before next word part left same is other e =
    ap (slice_get (operands (pieces_from next (drop (place + 1) words)))) e
    ∙ ap (λ (texts : List (List ℕ)). slice_get texts left) (sym (rw other at (operands_more words place before next word part is)))

-- an option is given a second value
pub given_again : (given value rest values : List (List ℕ)) → 1 ≤ length given → 1 ≤ length value → given ++ (value ++ rest) ≡ values → 2 ≤ length values
given_again given value rest values some more is = grind (arith, common_steps)

pub some_given : (given : Option (Bor (List ℕ))) → is_some given ≡ true → 1 ≤ length (so_far given)
some_given (Some value) some = omega arith
some_given None some = absurd cc

pub none_given : (given : Option (Bor (List ℕ))) → is_some given ≡ false → so_far given ≡ []
none_given (Some value) none = absurd cc
none_given None none = refl

pub one_value : {values : List (List ℕ)} (value : List ℕ) → values ≡ value ∷ [] → 1 ≤ length values
one_value value is = rw is (omega arith)

-- the values so far, and those that are left
pub goes_on : (front here rest all front' behind : List (List ℕ)) → front ++ behind ≡ all → behind ≡ here ++ rest → front ++ here ≡ front' → front' ++ rest ≡ all
goes_on front here rest all front' behind is more next =
    ap (λ (xs : List (List ℕ)). xs ++ rest) (sym next) ∙ append_assoc front here rest ∙ ap (λ (xs : List (List ℕ)). front ++ xs) (sym more) ∙ is

pub stays : (front here : List (List ℕ)) → here ≡ [] → front ++ here ≡ front
stays front here none = grind (arith, common_steps)
