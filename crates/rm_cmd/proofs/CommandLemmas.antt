-- Facts of the command that words stand for, and of its operands.
use Rattle.std.proofs.Common.{◌≡◌, ◌≤◌, ◌⊎◌, inl, inr, ℕ, ◌-◌, ◌%◌, List, [], ◌∷◌, ◌++◌, length, Bool, true, false, Result, Ok, Err, Option, Some, None, refl, ap, subst, ◌∙◌, eqb-true, leb-true, arith}
use Rattle.std.specs.Prelude.{◌&&◌, ◌||◌, ◌==◌, nat_le, if◌then◌else◌, is_some}
use Rattle.std.specs.Borrow.{Bor}
use Rattle.std.specs.List.{list_all}
use Rattle.std.specs.Char.{is_ascii_hexdigit}
use Rattle.std.specs.Str.{all_ascii_digits}
use Rattle.std.specs.Str.Parse.{digits_value}
use Rattle.std.proofs.lemmas.List.Sums.{AllPass-from_list_all}
use Rattle.hex.specs.Hex.{decode_of, is_hex_digit}
use Rattle.hex.proofs.HexLemmas.{decode_of-digits}
use Rattle.rm_words.specs.Grammar.{Command, Options, replay, serve, decode, load, StandFor, for_replay, for_serve, for_decode, for_load, is_hex, number_within}
use Rattle.rm_words.specs.Scan.{so_far}
use Rattle.rm_words.specs.Told.{captures_of, options_of}
use Rattle.rm_words.specs.declared.captures.Captures.{Captures}
use Rattle.rm_words.specs.declared.options.RunOptions.{RunOptions}
use Rattle.rm_edge.specs.Outside.{Rose}
use Rattle.rm_edge.specs.Uses.{SinkUse, HasPutFault}
use Rattle.rm_probe.specs.Capture.{given, names_of}
use Rattle.rm_probe.specs.declared.status.Status.{Status}
use Rattle.rm_probe.specs.declared.status.Status.TheVariants.{Done, Usage, BadCapture, BadRequests, ReadFault, WriteFault, NoMemory, LinkFault, TooLong}
use Rattle.rm_load.specs.Ends.{Ends as LoadEnds}
use Rattle.rm_load.specs.declared.entry.LoadFault.{LoadFault}
use Rattle.rm_load.specs.declared.entry.LoadFault.TheVariants as load_fault
use Rattle.rm_cmd.specs.Commands.{AreSet, Decodes, LoadsWith, status_of_load}

-- what holds of one command that the words stand for holds of each
pub of_each : ((words : List (List ℕ)) (one other : Command) → StandFor words one → StandFor words other → one ≡ other)
    → (words : List (List ℕ)) (known : Command) (P : Command → Type 0) → StandFor words known → P known → (command : Command) → StandFor words command → P command
of_each one words known P stands here command is = subst P (one words known command stands is) here

-- a probe is set to its options
pub are_set : (options : RunOptions) → AreSet options.settings (options_of options)
are_set options = record { hosts = refl; pairs = refl; upper = refl; keep_short = refl; interfaces = refl; read = refl; write = refl }

-- the captures of a run are those of its words
given_is : (name : Option (Bor (List ℕ))) → given name ≡ so_far name
given_is None = refl
given_is (Some name) = refl

pub names_are : (captures : Captures) → names_of captures.capture.now captures.if2 captures.if3 captures.if4 ≡ captures_of captures
names_are captures =
    ap (λ (names : List (List ℕ)). captures.capture.now ∷ names ++ given captures.if3 ++ given captures.if4) (given_is captures.if2)
    ∙ ap (λ (names : List (List ℕ)). captures.capture.now ∷ so_far captures.if2 ++ names ++ given captures.if4) (given_is captures.if3)
    ∙ ap (λ (names : List (List ℕ)). captures.capture.now ∷ so_far captures.if2 ++ so_far captures.if3 ++ names) (given_is captures.if4)

pub by_names : (captures : Captures) (P : List (List ℕ) → Type 0) → P (names_of captures.capture.now captures.if2 captures.if3 captures.if4) → P (captures_of captures)
by_names captures P here = subst P (names_are captures) here

-- as many interfaces as captures
pub many_replayed : (words captures : List (List ℕ)) (requests : List ℕ) (options : Options) → StandFor words (replay captures requests options) → options.interfaces ≡ length captures
many_replayed words captures requests options (for_replay word others pieces names asked chosen is spells are) = are.interfaces_are

pub many_served : (words captures : List (List ℕ)) (port count trap_port : ℕ) (options : Options) → StandFor words (serve captures port count trap_port options) → options.interfaces ≡ length captures
many_served words captures port count trap_port options (for_serve word others pieces names from many to chosen is spells are) = are.interfaces_are

-- `decode` without a failed put is done, or found no memory
pub done_or_none : (octets : List ℕ) (writes writes' : ℕ) (old new : Option (List ℕ)) (result : Status) → Decodes octets writes writes' old new result
    → (Rose writes writes' → ⊥) → (result ≡ Done) ⊎ (result ≡ NoMemory)
done_or_none octets writes writes' old new Done is none = inl refl
done_or_none octets writes writes' old new NoMemory is none = inr refl
done_or_none octets writes writes' old new WriteFault is none = absurd (none is.0)
done_or_none octets writes writes' old new Usage is none = absurd is
done_or_none octets writes writes' old new (BadCapture interface at) is none = absurd is
done_or_none octets writes writes' old new (BadRequests line) is none = absurd is
done_or_none octets writes writes' old new ReadFault is none = absurd is
done_or_none octets writes writes' old new LinkFault is none = absurd is
done_or_none octets writes writes' old new TooLong is none = absurd is

-- `load` without a failed put is done, or found no memory
pub loaded_or_none : (options : Options) (start count : ℕ) (out : SinkUse) (result : Status) → LoadsWith options start count out result
    → (HasPutFault out → ⊥) → (result ≡ Done) ⊎ (result ≡ NoMemory)
loaded_or_none options start count out result is none = by_answer is.answer is.result_is is.ends
  where
    by_answer : (answer : Result (Unit {0}) LoadFault) → result ≡ status_of_load answer → LoadEnds is.settings start count out answer → (result ≡ Done) ⊎ (result ≡ NoMemory)
    by_answer (Ok done) same ends = inl same
    by_answer (Err load_fault.NoMemory) same ends = inr same
    by_answer (Err load_fault.Put) same ends = absurd (none ends.0)

-- the operand of `decode` is octets in hexadecimal digits
pub digits_of : (words : List (List ℕ)) (hex : List ℕ) → StandFor words (decode hex) → is_hex hex ≡ true
digits_of words hex (for_decode word others pieces same is spells are) = are.hex_is

both_true : (a b : Bool) → (a && b) ≡ true → (a ≡ true) × (b ≡ true)
both_true true true e = (refl, refl)
both_true true false e = absurd cc
both_true false b e = absurd cc

-- a number that is read within bounds is at most the upper one
read_within : (test : Bool) (value n : ℕ) → (if test then Some value else None) ≡ Some n → (test ≡ true) × (value ≡ n)
read_within true value n is = (refl, cc)
read_within false value n is = absurd cc

number_bounded : (low high : ℕ) (text : List ℕ) (n : ℕ) → number_within low high text ≡ Some n → n ≤ high
unfolding number_within
number_bounded low high text n is =
    let value = digits_value 10 text in
    let lower = all_ascii_digits text && nat_le 1 (length text) && nat_le (length text) 10 && nat_le low value in
    let (tests, same) = read_within (lower && nat_le value high) value n is in
    let within = leb-true value high (both_true lower (nat_le value high) tests).1 in
    omega (arith, within, same)

pub few_frames : (words : List (List ℕ)) (start count : ℕ) (options : Options) → StandFor words (load start count options) → count ≤ 10000000
few_frames words start count options (for_load word others pieces begins many chosen is spells are) = number_bounded 1 10000000 are.count_text many are.count_is

same_digit : (capital small figure : Bool) (x y z : ℕ) → (figure || capital || small) ≡ true
    → is_some (if capital then Some x else if small then Some y else if figure then Some z else None) ≡ true
same_digit true small figure x y z e = refl
same_digit false true figure x y z e = refl
same_digit false false true x y z e = refl
same_digit false false false x y z e = absurd cc

all_digits : (text : List ℕ) → list_all is_ascii_hexdigit text ≡ true → list_all is_hex_digit text ≡ true
all_digits [] e = refl
all_digits (c ∷ more) e =
    let both = both_true (is_ascii_hexdigit c) (list_all is_ascii_hexdigit more) e in
    both_are (is_hex_digit c) (list_all is_hex_digit more)
    (same_digit (nat_le 65 c && nat_le c 70) (nat_le 97 c && nat_le c 102) (nat_le 48 c && nat_le c 57) (c - 55) (c - 87) (c - 48) both.0)
    (all_digits more both.1)
  where
    both_are : (a b : Bool) → a ≡ true → b ≡ true → (a && b) ≡ true
    both_are a b e f = cc

-- such digits are octets
pub octets_of : (text : List ℕ) → is_hex text ≡ true → (octets : List ℕ) × (decode_of text ≡ Ok octets)
unfolding is_hex
octets_of text e =
    let all = both_true _ (list_all is_ascii_hexdigit text) e in
    let even = both_true _ (length text % 2 == 0) all.0 in
    decode_of-digits text (eqb-true (length text % 2) 0 even.1) (AllPass-from_list_all is_hex_digit text (all_digits text all.1))
