-- What a word is, by its octets.
use Rattle.std.proofs.Common.{◌≡◌, ℕ, suc, ◌+◌, ◌<◌, List, [], ◌∷◌, ◌++◌, length, take, drop, Option, Some, None, Bool, true, false, refl, sym, ap, subst, ◌∙◌, arith, position, get_or, length-append, append_assoc, IsUtf8, IsCharBoundary}
use Rattle.std.specs.Prelude.{◌==◌, find, if◌then◌else◌, codes, not}
use Rattle.std.specs.List.{position_or_len}
use Rattle.std.specs.Str.{bytes_eq}
use Rattle.std.proofs.Math.Seq.{drop-append-add, take-append_seam}
use Rattle.std.proofs.lemmas.Bool.{lt-ltb, eqb-true}
use Rattle.std.proofs.lemmas.List.{take-append-drop, drop_more, get_or-append-add}
use Rattle.std.proofs.lemmas.List.Quantifiers.{position-Some}
use Rattle.std.proofs.lemmas.Slice.Eq.{bytes_eq-Decides}
use Rattle.std.proofs.lemmas.Str.{IsCharBoundary-after_ascii}
use Rattle.rm_words.specs.Names.{name_of, takes_value, options, option_named, follows}
use Rattle.rm_words.specs.Grammar.{dashes, is_plain}
use Rattle.rm_words.specs.Parts.{is_equals, alone_part, joined_part, cut_part, named_part, dashed_part, plain_part, value_part, part_of, IsCut}
use Rattle.rm_words.specs.declared.names.OptionName.{OptionName}
use Rattle.rm_words.specs.declared.names.OptionName.TheVariants.{Hosts, Pairs, Upper, Lead, KeepShort, Read, Write, TrapPort, If2, If3, If4}
use Rattle.rm_words.specs.declared.parts.Expected.{Expected}
use Rattle.rm_words.specs.declared.parts.Expected.TheVariants as expected
use Rattle.rm_words.specs.declared.parts.Part.{Part}
use Rattle.rm_words.specs.declared.parts.Part.TheVariants.{Operand, End, Flag, Name, Joined, Value, Unknown}

-- an option is found by its name
pub named : (option : OptionName) → option_named (name_of option) ≡ Some option
unfolding option_named
named Hosts = refl
named Pairs = refl
named Upper = refl
named Lead = refl
named KeepShort = refl
named Read = refl
named Write = refl
named TrapPort = refl
named If2 = refl
named If3 = refl
named If4 = refl

-- what is found by a text has that text
pub found : {X : Type 0} (of : X → List ℕ) (text : List ℕ) (some : List X) (one : X) → find (λ x. bytes_eq (of x) text) some ≡ Some one → text ≡ of one
found of text [] one is = absurd cc
found {X} of text (x ∷ more) one is = by_same (bytes_eq (of x) text) refl (found of text more one) is
  where
    by_same : (same : Bool) → bytes_eq (of x) text ≡ same → (find (λ x. bytes_eq (of x) text) more ≡ Some one → text ≡ of one)
        → (if same then Some x else find (λ x. bytes_eq (of x) text) more) ≡ Some one → text ≡ of one
    by_same true e later is = let here : x ≡ one = cc in sym ((bytes_eq-Decides (of x) text).0 e) ∙ ap of here
    by_same false e later is = later is

pub name_is : (name : List ℕ) (option : OptionName) → option_named name ≡ Some option → name ≡ name_of option
unfolding option_named
name_is name option is = found name_of name options option is

-- no name has a mark
no_mark : (option : OptionName) → position_or_len is_equals (name_of option) ≡ length (name_of option)
no_mark Hosts = refl
no_mark Pairs = refl
no_mark Upper = refl
no_mark Lead = refl
no_mark KeepShort = refl
no_mark Read = refl
no_mark Write = refl
no_mark TrapPort = refl
no_mark If2 = refl
no_mark If3 = refl
no_mark If4 = refl

-- a name alone
pub alone : (option : OptionName) → plain_part (dashes ++ name_of option) ≡ alone_part (Some option)
unfolding plain_part named_part option_named
alone Hosts = refl
alone Pairs = refl
alone Upper = refl
alone Lead = refl
alone KeepShort = refl
alone Read = refl
alone Write = refl
alone TrapPort = refl
alone If2 = refl
alone If3 = refl
alone If4 = refl

-- a name with a value
joins : (name value : List ℕ) → 45 ∷ 45 ∷ (name ++ 61 ∷ value) ≡ dashes ++ name ++ codes "=" ++ value
joins name value = ap (λ (t : List ℕ). 45 ∷ 45 ∷ t) (sym (append_assoc name (codes "=") value))

behind_dashes : (name value : List ℕ) → plain_part (45 ∷ 45 ∷ (name ++ 61 ∷ value)) ≡ named_part (name ++ 61 ∷ value)
unfolding plain_part
behind_dashes [] value = refl
behind_dashes (c ∷ cs) value = refl

marked : (name value : List ℕ) → position_or_len is_equals name ≡ length name → position_or_len is_equals (name ++ 61 ∷ value) ≡ length name
marked [] value none = refl
marked (c ∷ cs) value none = by_mark (is_equals c) none (marked cs value)
  where
    by_mark : (mark : Bool) → (if not mark then 1 + position_or_len is_equals cs else 0) ≡ suc (length cs)
        → (position_or_len is_equals cs ≡ length cs → position_or_len is_equals (cs ++ 61 ∷ value) ≡ length cs) → (if not mark then 1 + position_or_len is_equals (cs ++ 61 ∷ value) else 0) ≡ suc (length cs)
    by_mark true none later = absurd (omega (arith, none))
    by_mark false none later = let behind = later (omega (arith, none)) in omega (arith, behind)

cut : (option : OptionName) (value : List ℕ) → named_part (name_of option ++ 61 ∷ value) ≡ joined_part (length (name_of option) + 3) (Some option)
unfolding named_part
cut option value =
    let at = marked (name_of option) value (no_mark option) in
    let fits : length (name_of option) < length (name_of option ++ 61 ∷ value) = omega (arith, length-append (name_of option) (61 ∷ value)) in
    let is : position is_equals (name_of option ++ 61 ∷ value) ≡ Some (length (name_of option)) = rw (at, lt-ltb (length (name_of option)) (length (name_of option ++ 61 ∷ value)) fits) refl in
    ap (λ (p : Option ℕ). cut_part p (name_of option ++ 61 ∷ value)) is
    ∙ ap (λ (name : List ℕ). joined_part (length (name_of option) + 3) (option_named name)) (take-append_seam (name_of option) (61 ∷ value))
    ∙ ap (joined_part (length (name_of option) + 3)) (named option)

pub with_value : (option : OptionName) (value : List ℕ) → plain_part (dashes ++ name_of option ++ codes "=" ++ value) ≡ joined_part (length (name_of option) + 3) (Some option)
with_value option value = ap plain_part (sym (joins (name_of option) value)) ∙ behind_dashes (name_of option) value ∙ cut option value

pub value_stands : (name value : List ℕ) → drop (length name + 3) (dashes ++ name ++ codes "=" ++ value) ≡ value
value_stands name value =
    let same : length name + 3 ≡ suc (suc (length name + 1)) = omega arith in
    ap (drop (length name + 3)) (sym (joins name value)) ∙ ap (λ (n : ℕ). drop n (45 ∷ 45 ∷ (name ++ 61 ∷ value))) same ∙ drop-append-add name (61 ∷ value) 1

-- what a part tells of the word
abbrev pub Tells : Part → List ℕ → Type 0
Tells Operand word = is_plain word ≡ true
Tells End word = word ≡ dashes
Tells (Flag option) word = (takes_value option ≡ false) × (word ≡ dashes ++ name_of option)
Tells (Name option) word = (takes_value option ≡ true) × (word ≡ dashes ++ name_of option)
Tells (Joined option from) word = (takes_value option ≡ true) × (word ≡ dashes ++ name_of option ++ codes "=" ++ drop from word)
Tells (Value option) word = ⊥
Tells Unknown word = Unit {0}

alone_tells : (text : List ℕ) → Tells (alone_part (option_named text)) (45 ∷ 45 ∷ text)
alone_tells text = by_option (option_named text) refl
  where
    by_value : (option : OptionName) (valued : Bool) → takes_value option ≡ valued → text ≡ name_of option → Tells (if valued then Name option else Flag option) (45 ∷ 45 ∷ text)
    by_value option true e is = (e, ap (λ (t : List ℕ). 45 ∷ 45 ∷ t) is)
    by_value option false e is = (e, ap (λ (t : List ℕ). 45 ∷ 45 ∷ t) is)

    by_option : (o : Option OptionName) → option_named text ≡ o → Tells (alone_part o) (45 ∷ 45 ∷ text)
    by_option None is = tt
    by_option (Some option) is = by_value option (takes_value option) refl (name_is text option is)

joined_tells : (text : List ℕ) (at : ℕ) → position is_equals text ≡ Some at → Tells (joined_part (at + 3) (option_named (take at text))) (45 ∷ 45 ∷ text)
joined_tells text at stands = by_option (option_named (take at text)) refl
  where
    whole : (option : OptionName) → take at text ≡ name_of option → 45 ∷ 45 ∷ text ≡ dashes ++ name_of option ++ codes "=" ++ drop (at + 3) (45 ∷ 45 ∷ text)
    whole option is =
        let found = position-Some is_equals text at 0 stands in
        let mark : get_or text at 0 ≡ 61 = eqb-true _ _ found.1 in
        let behind : drop at text ≡ 61 ∷ drop (at + 1) text = drop_more text at 0 found.0 ∙ ap (λ (c : ℕ). c ∷ drop (at + 1) text) mark in
        let same : at + 3 ≡ suc (suc (at + 1)) = omega arith in
        let value : drop (at + 1) text ≡ drop (at + 3) (45 ∷ 45 ∷ text) = ap (λ (n : ℕ). drop n (45 ∷ 45 ∷ text)) (sym same) in
        let text_is : text ≡ name_of option ++ (61 ∷ drop (at + 3) (45 ∷ 45 ∷ text)) =
        sym (take-append-drop at text) ∙ ap (λ (front : List ℕ). front ++ drop at text) is ∙ ap (λ (rest : List ℕ). name_of option ++ rest) (behind ∙ ap (λ (v : List ℕ). 61 ∷ v) value) in
        ap (λ (t : List ℕ). 45 ∷ 45 ∷ t) text_is ∙ joins (name_of option) (drop (at + 3) (45 ∷ 45 ∷ text))

    by_value : (option : OptionName) (valued : Bool) → takes_value option ≡ valued → take at text ≡ name_of option → Tells (if valued then Joined option (at + 3) else Unknown) (45 ∷ 45 ∷ text)
    by_value option true e is = (e, whole option is)
    by_value option false e is = tt

    by_option : (o : Option OptionName) → option_named (take at text) ≡ o → Tells (joined_part (at + 3) o) (45 ∷ 45 ∷ text)
    by_option None is = tt
    by_option (Some option) is = by_value option (takes_value option) refl (name_is (take at text) option is)

named_tells : (text : List ℕ) → Tells (named_part text) (45 ∷ 45 ∷ text)
unfolding named_part
named_tells text = by_mark (position is_equals text) refl
  where
    by_mark : (mark : Option ℕ) → position is_equals text ≡ mark → Tells (cut_part mark text) (45 ∷ 45 ∷ text)
    by_mark None is = alone_tells text
    by_mark (Some at) is = joined_tells text at is

pub plain_tells : (word : List ℕ) → Tells (plain_part word) word
unfolding plain_part
plain_tells [] = refl
plain_tells (c ∷ []) = refl
plain_tells (c ∷ d ∷ cs) = by_dash (c == 45) refl
  where
    dashed : (cs : List ℕ) (second : Bool) → (d == 45) ≡ second → c ≡ 45 → Tells (dashed_part d cs) (c ∷ d ∷ cs)
    dashed [] true e is = let d_is : d ≡ 45 = eqb-true _ _ e in rw (e, is, d_is) refl
    dashed [] false e is = rw e tt
    dashed (x ∷ xs) true e is = let d_is : d ≡ 45 = eqb-true _ _ e in rw (e, is, d_is) (named_tells (x ∷ xs))
    dashed (x ∷ xs) false e is = rw e tt

    by_dash : (dash : Bool) → (c == 45) ≡ dash → Tells (if dash then dashed_part d cs else Operand) (c ∷ d ∷ cs)
    by_dash true e = dashed cs (d == 45) refl (eqb-true _ _ e)
    by_dash false e = rw e refl

-- behind a mark a character begins
behind_mark : (front value word : List ℕ) → IsUtf8 word → word ≡ front ++ 61 ∷ value → IsCharBoundary word (length front + 1)
behind_mark front value word text is =
    let same : length front ≡ length front + 0 = omega arith in
    let at : get_or word (length front) 0 ≡ 61 =
    ap (λ (w : List ℕ). get_or w (length front) 0) is ∙ ap (λ (n : ℕ). get_or (front ++ 61 ∷ value) n 0) same ∙ get_or-append-add front (61 ∷ value) 0 0 in
    let long : length word ≡ length (front ++ 61 ∷ value) = ap (λ (w : List ℕ). length w) is in
    let within : length front < length word = omega (arith, long, length-append front (61 ∷ value)) in
    let ascii : get_or word (length front) 0 < 128 = omega (arith, at) in
    IsCharBoundary-after_ascii word (length front) text within ascii

-- so the value of an option begins there
joined_cut : (before : Expected) (word : List ℕ) (option : OptionName) (from : ℕ) → IsUtf8 word → part_of before word ≡ Joined option from → IsCharBoundary word from
joined_cut expected.Any word option from text is =
    let tells : Tells (Joined option from) word = subst (λ (part : Part). Tells part word) is (plain_tells word) in
    let value = drop from word in
    let same : Joined option from ≡ Joined option (length (name_of option) + 3) =
    sym is ∙ ap plain_part tells.1 ∙ with_value option value ∙ ap (λ (b : Bool). if b then Joined option (length (name_of option) + 3) else Unknown) tells.0 in
    let from_is : from ≡ length (name_of option) + 3 = cc in
    let front = dashes ++ name_of option in
    let stands : length front + 1 ≡ from = omega (arith, from_is, length-append dashes (name_of option)) in
    subst (λ (n : ℕ). IsCharBoundary word n) stands (behind_mark front value word text (tells.1 ∙ append_assoc front (codes "=") value))
joined_cut (expected.Value given) word option from text is = by_fit (follows given word) is
  where
    by_fit : (fits : Bool) → value_part given fits ≡ Joined option from → IsCharBoundary word from
    by_fit true e = absurd cc
    by_fit false e = absurd cc
joined_cut expected.Operand word option from text is = absurd cc

pub is_cut : (before : Expected) (word : List ℕ) (part : Part) → IsUtf8 word → part ≡ part_of before word → IsCut part word
is_cut before word part text is = λ option from joined. joined_cut before word option from text (sym is ∙ joined)
