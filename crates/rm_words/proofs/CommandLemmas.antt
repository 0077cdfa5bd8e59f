-- The command that words stand for.
use Rattle.std.proofs.Common.{◌≡◌, ℕ, List, [], ◌∷◌, length, drop, Option, Some, None, Bool, true, false, MatchOption, refl, sym, ap, subst, ◌∙◌}
use Rattle.std.specs.Prelude.{slice_get}
use Rattle.std.specs.Option.{is_some}
use Rattle.rm_words.specs.Names.{commands, word_of, command_named}
use Rattle.rm_words.specs.Grammar.{Piece, Spells, Options, AreOptions, AreOfReplay, AreOfServe, AreOfSummary, AreOfLoad, Command, replay, serve, summary, decode, load, StandFor, for_replay, for_serve, for_summary, for_decode, for_load, number_within, port_of}
use Rattle.rm_words.specs.Parts.{are_whole, pieces_from}
use Rattle.rm_words.specs.Told.{AreOf, IsRead, command_of}
use Rattle.rm_words.specs.declared.names.CommandName.{CommandName}
use Rattle.rm_words.specs.declared.names.CommandName.TheVariants.{Replay, Serve, Summary, Decode, Load}
use Rattle.rm_words.specs.declared.command.Command as code
use Rattle.rm_words.specs.declared.parts.Expected.TheVariants.{Any}
use Rattle.rm_words.proofs.CaptureLemmas.{in_some, same_setting, same_captures}
use Rattle.rm_words.proofs.PartLemmas.{found}
use Rattle.rm_words.proofs.SpellLemmas.{spelled_read, whole_spelled}
use Rattle.rm_words.proofs.WordLemmas.{left_at}

-- three operands, of which there are two
pub two_operands : (texts : List (List ℕ)) (first second : List ℕ) → slice_get texts 0 ≡ Some first → slice_get texts 1 ≡ Some second → slice_get texts 2 ≡ None → texts ≡ first ∷ second ∷ []
two_operands [] first second a b c = absurd cc
two_operands (x ∷ []) first second a b c = absurd cc
two_operands (x ∷ y ∷ []) first second a b c = cc
two_operands (x ∷ y ∷ z ∷ more) first second a b c = absurd cc

-- four operands, of which there are three
pub three_operands : (texts : List (List ℕ)) (first second third : List ℕ) → slice_get texts 0 ≡ Some first → slice_get texts 1 ≡ Some second → slice_get texts 2 ≡ Some third → slice_get texts 3 ≡ None
    → texts ≡ first ∷ second ∷ third ∷ []
three_operands [] first second third a b c d = absurd cc
three_operands (x ∷ []) first second third a b c d = absurd cc
three_operands (x ∷ y ∷ []) first second third a b c d = absurd cc
three_operands (x ∷ y ∷ z ∷ []) first second third a b c d = cc
three_operands (x ∷ y ∷ z ∷ w ∷ more) first second third a b c d = absurd cc

-- one operand of two
pub one_operand : (texts : List (List ℕ)) (first : List ℕ) → slice_get texts 0 ≡ Some first → slice_get texts 1 ≡ None → texts ≡ first ∷ []
one_operand [] first a b = absurd cc
one_operand (x ∷ []) first a b = cc
one_operand (x ∷ y ∷ more) first a b = absurd cc

-- what stands behind words that stand for a command
record IsOf (all : List (List ℕ)) (command : Command) : Type 0 where
  pub name : CommandName
  pub word : List ℕ
  pub words : List (List ℕ)
  pub pieces : List Piece
  pub all_are : all ≡ word ∷ words
  pub word_is : word ≡ word_of name
  pub spells : Spells name words pieces
  pub are : AreOf name pieces command

-- by the word of the command
with_word : (name : CommandName) (word : List ℕ) (words : List (List ℕ)) (pieces : List Piece) (command : Command) → word ≡ word_of name → Spells name words pieces → AreOf name pieces command
    → IsOf (word ∷ words) command
with_word name word words pieces command is spells are = record {
  name = name;
  word = word;
  words = words;
  pieces = pieces;
  all_are = refl;
  word_is = is;
  spells = spells;
  are = are;
}

is_of : (all : List (List ℕ)) (command : Command) → StandFor all command → IsOf all command
is_of all command (for_replay word words pieces captures requests options is spells are) = with_word Replay word words pieces command is spells are
is_of all command (for_serve word words pieces captures port count trap_port options is spells are) = with_word Serve word words pieces command is spells are
is_of all command (for_summary word words pieces capture lead keep_short is spells are) = with_word Summary word words pieces command is spells are
is_of all command (for_decode word words pieces hex is spells are) = with_word Decode word words pieces command is spells are
is_of all command (for_load word words pieces start count options is spells are) = with_word Load word words pieces command is spells are

-- words that stand for what stands behind the word of a command
stand : (name : CommandName) (word : List ℕ) (words : List (List ℕ)) (pieces : List Piece) (command : Command) → word ≡ word_of name → Spells name words pieces → AreOf name pieces command
    → StandFor (word ∷ words) command
stand Replay word words pieces (replay captures requests options) is spells are = for_replay word words pieces captures requests options is spells are
stand Serve word words pieces (serve captures port count trap_port options) is spells are = for_serve word words pieces captures port count trap_port options is spells are
stand Summary word words pieces (summary capture lead keep_short) is spells are = for_summary word words pieces capture lead keep_short is spells are
stand Decode word words pieces (decode hex) is spells are = for_decode word words pieces hex is spells are
stand Load word words pieces (load start count options) is spells are = for_load word words pieces start count options is spells are
stand name word words pieces other is spells are = absurd are

behind : (all : List (List ℕ)) (word : List ℕ) (words : List (List ℕ)) → all ≡ word ∷ words → words ≡ drop 1 all
behind all word words is = sym (ap (drop 1) is)

in_front : (all : List (List ℕ)) (word first : List ℕ) (words : List (List ℕ)) → all ≡ word ∷ words → slice_get all 0 ≡ Some first → first ≡ word
in_front all word first words is at =
    let front : slice_get all 0 ≡ Some word = ap (λ (ws : List (List ℕ)). slice_get ws 0) is in cc

-- the word of a command is found
word_found : (name : CommandName) → command_named (word_of name) ≡ Some name
unfolding command_named
word_found Replay = refl
word_found Serve = refl
word_found Summary = refl
word_found Decode = refl
word_found Load = refl

-- no command has that word
pub no_name : (all : List (List ℕ)) (first : List ℕ) → slice_get all 0 ≡ Some first → command_named first ≡ None → (command : Command) → StandFor all command → ⊥
no_name all first at none command stands =
    let of = is_of all command stands in
    let found : command_named first ≡ Some of.name = ap command_named (in_front all of.word first of.words of.all_are at ∙ of.word_is) ∙ word_found of.name in
    cc

-- the command of words, by the first of them
one_name : (all : List (List ℕ)) (first : List ℕ) (name : CommandName) (command : Command) (of : IsOf all command) → slice_get all 0 ≡ Some first → command_named first ≡ Some name → of.name ≡ name
one_name all first name command of at named =
    let found : command_named first ≡ Some of.name = ap command_named (in_front all of.word first of.words of.all_are at ∙ of.word_is) ∙ word_found of.name in
    in_some of.name name (sym found ∙ named)

-- the word of a command that was found
pub name_found : (first : List ℕ) (name : CommandName) → command_named first ≡ Some name → first ≡ word_of name
unfolding command_named
name_found first name is = found word_of first commands name is

-- words that aren't whole
pub not_whole : (name : CommandName) (all : List (List ℕ)) (first : List ℕ) → slice_get all 0 ≡ Some first → command_named first ≡ Some name
    → are_whole name Any (drop 1 all) ≡ false → (command : Command) → StandFor all command → ⊥
not_whole name all first at named other command stands =
    let of = is_of all command stands in
    let whole : are_whole of.name Any of.words ≡ true = (spelled_read of.name of.words of.pieces of.spells).whole in
    let same : are_whole of.name Any of.words ≡ are_whole name Any (drop 1 all) =
    ap (are_whole of.name Any) (behind all of.word of.words of.all_are) ∙ ap (λ (n : CommandName). are_whole n Any (drop 1 all)) (one_name all first name command of at named) in
    cc

-- the pieces are those that were read
pieces_read : (all : List (List ℕ)) (command : Command) (of : IsOf all command) → of.pieces ≡ pieces_from Any (drop 1 all)
pieces_read all command of =
    sym (spelled_read of.name of.words of.pieces of.spells).pieces_are ∙ ap (pieces_from Any) (behind all of.word of.words of.all_are)

-- what stands behind the words, by the first of them
are_read : (all : List (List ℕ)) (first : List ℕ) (name : CommandName) (command : Command) → slice_get all 0 ≡ Some first → command_named first ≡ Some name → StandFor all command
    → AreOf name (pieces_from Any (drop 1 all)) command
are_read all first name command at named stands =
    let of = is_of all command stands in
    let here : AreOf name of.pieces command = subst (λ (n : CommandName). AreOf n of.pieces command) (one_name all first name command of at named) of.are in
    subst (λ (ps : List Piece). AreOf name ps command) (pieces_read all command of) here

-- what was read is what the words stand for
abbrev pub IsCommand : List (List ℕ) → Option code.Command → Type 0
IsCommand all result = MatchOption result ((command : Command) → StandFor all command → ⊥) (λ found. StandFor all (command_of found))

pub read_is : (name : CommandName) (all : List (List ℕ)) (first : List ℕ) (result : Option code.Command) → slice_get all 0 ≡ Some first → command_named first ≡ Some name
    → are_whole name Any (drop 1 all) ≡ true → IsRead name (pieces_from Any (drop 1 all)) result → IsCommand all result
read_is name all first None at named whole read = λ command stands. read command (are_read all first name command at named stands)
read_is name all first (Some found) at named whole read =
    let stands = stand name first (drop 1 all) (pieces_from Any (drop 1 all)) (command_of found) (name_found first name named) (whole_spelled name (drop 1 all) whole) read in
    subst (λ (ws : List (List ℕ)). StandFor ws (command_of found)) (sym (left_at all 0 first at)) stands

-- words stand for one command at most
same_options : (pieces : List Piece) (one other : Options) → AreOptions pieces one → AreOptions pieces other → one.interfaces ≡ other.interfaces → one ≡ other
same_options pieces one other a b interfaces =
    let hosts : one.hosts ≡ other.hosts = same_setting _ _ _ a.hosts b.hosts in
    let pairs : one.pairs ≡ other.pairs = same_setting _ _ _ a.pairs b.pairs in
    let upper : one.upper ≡ other.upper = same_setting _ _ _ a.upper b.upper in
    let lead : one.lead ≡ other.lead = same_setting _ _ _ a.lead b.lead in
    let keep_short : one.keep_short ≡ other.keep_short = same_setting _ _ _ a.keep_short b.keep_short in
    let read : one.read ≡ other.read = same_setting _ _ _ a.read b.read in
    let write : one.write ≡ other.write = same_setting _ _ _ a.write b.write in
    ap (λ (h : ℕ). record one { hosts = h }) hosts
    ∙ ap (λ (p : ℕ). record one { hosts = other.hosts; pairs = p }) pairs
    ∙ ap (λ (u : ℕ). record one { hosts = other.hosts; pairs = other.pairs; upper = u }) upper
    ∙ ap (λ (l : ℕ). record other { lead = l; keep_short = one.keep_short; interfaces = one.interfaces; read = one.read; write = one.write }) lead
    ∙ ap (λ (k : Bool). record other { keep_short = k; interfaces = one.interfaces; read = one.read; write = one.write }) keep_short
    ∙ ap (λ (i : ℕ). record other { interfaces = i; read = one.read; write = one.write }) interfaces
    ∙ ap (λ (r : List ℕ). record other { read = r; write = one.write }) read
    ∙ ap (λ (w : List ℕ). record other { write = w }) write

same_replay : (pieces : List Piece) (captures captures' : List (List ℕ)) (requests requests' : List ℕ) (options options' : Options) → AreOfReplay pieces captures requests options
    → AreOfReplay pieces captures' requests' options' → replay captures requests options ≡ replay captures' requests' options'
same_replay pieces captures captures' requests requests' options options' a b =
    let texts : ◌≡◌ {A = List (List ℕ)} (a.capture ∷ requests ∷ []) (b.capture ∷ requests' ∷ []) = sym a.operands_are ∙ b.operands_are in
    let first : a.capture ≡ b.capture = cc in
    let second : requests ≡ requests' = cc in
    let all : captures ≡ captures' = same_captures pieces a.capture b.capture captures captures' first a.captures_are b.captures_are in
    let many : options.interfaces ≡ options'.interfaces = a.interfaces_are ∙ ap (λ (names : List (List ℕ)). length names) all ∙ sym b.interfaces_are in
    let same : options ≡ options' = same_options pieces options options' a.options_are b.options_are many in
    ap (λ (names : List (List ℕ)). replay names requests options) all ∙ ap (λ (name : List ℕ). replay captures' name options) second ∙ ap (λ (o : Options). replay captures' requests' o) same

same_serve : (pieces : List Piece) (captures captures' : List (List ℕ)) (port count trap_port port' count' trap_port' : ℕ) (options options' : Options) → AreOfServe pieces captures port count trap_port options
    → AreOfServe pieces captures' port' count' trap_port' options' → serve captures port count trap_port options ≡ serve captures' port' count' trap_port' options'
same_serve pieces captures captures' port count trap_port port' count' trap_port' options options' a b =
    let texts : ◌≡◌ {A = List (List ℕ)} (a.capture ∷ a.port_text ∷ a.count_text ∷ []) (b.capture ∷ b.port_text ∷ b.count_text ∷ []) = sym a.operands_are ∙ b.operands_are in
    let first : a.capture ≡ b.capture = cc in
    let second : a.port_text ≡ b.port_text = cc in
    let third : a.count_text ≡ b.count_text = cc in
    let ports : port ≡ port' = same_setting _ _ _ a.port_is (ap port_of second ∙ b.port_is) in
    let counts : count ≡ count' = same_setting _ _ _ a.count_is (ap (number_within 1 1000000) third ∙ b.count_is) in
    let trap_ports : trap_port ≡ trap_port' = same_setting _ _ _ a.trap_port_is b.trap_port_is in
    let all : captures ≡ captures' = same_captures pieces a.capture b.capture captures captures' first a.captures_are b.captures_are in
    let many : options.interfaces ≡ options'.interfaces = a.interfaces_are ∙ ap (λ (names : List (List ℕ)). length names) all ∙ sym b.interfaces_are in
    let same : options ≡ options' = same_options pieces options options' a.options_are b.options_are many in
    cc

same_operand : (text text' : List ℕ) → ◌≡◌ {A = List (List ℕ)} (text ∷ []) (text' ∷ []) → text ≡ text'
same_operand text text' same = cc

same_summary : (pieces : List Piece) (capture capture' : List ℕ) (lead lead' : ℕ) (keep_short keep_short' : Bool) → AreOfSummary pieces capture lead keep_short → AreOfSummary pieces capture' lead' keep_short'
    → summary capture lead keep_short ≡ summary capture' lead' keep_short'
same_summary pieces capture capture' lead lead' keep_short keep_short' a b =
    ap (λ (c : List ℕ). summary c lead keep_short) (same_operand capture capture' (sym a.operand_is ∙ b.operand_is))
    ∙ ap (λ (l : ℕ). summary capture' l keep_short) (same_setting _ _ _ a.lead_is b.lead_is)
    ∙ ap (λ (k : Bool). summary capture' lead' k) (same_setting _ _ _ a.keep_short_is b.keep_short_is)

same_load : (pieces : List Piece) (start count start' count' : ℕ) (options options' : Options) → AreOfLoad pieces start count options → AreOfLoad pieces start' count' options'
    → load start count options ≡ load start' count' options'
same_load pieces start count start' count' options options' a b =
    let texts : ◌≡◌ {A = List (List ℕ)} (a.start_text ∷ a.count_text ∷ []) (b.start_text ∷ b.count_text ∷ []) = sym a.operands_are ∙ b.operands_are in
    let first : a.start_text ≡ b.start_text = cc in
    let second : a.count_text ≡ b.count_text = cc in
    let starts : start ≡ start' = same_setting _ _ _ a.start_is (ap (number_within 0 2147483647) first ∙ b.start_is) in
    let counts : count ≡ count' = same_setting _ _ _ a.count_is (ap (number_within 1 10000000) second ∙ b.count_is) in
    let same = same_options pieces options options' a.options_are b.options_are (a.interfaces_are ∙ sym b.interfaces_are) in
    cc

same_are : (name : CommandName) (pieces : List Piece) (one other : Command) → AreOf name pieces one → AreOf name pieces other → one ≡ other
same_are Replay pieces (replay captures requests options) (replay captures' requests' options') a b = same_replay pieces captures captures' requests requests' options options' a b
same_are Serve pieces (serve captures port count trap_port options) (serve captures' port' count' trap_port' options') a b = same_serve pieces captures captures' port count trap_port port' count' trap_port' options options' a b
same_are Summary pieces (summary capture lead keep_short) (summary capture' lead' keep_short') a b = same_summary pieces capture capture' lead lead' keep_short keep_short' a b
same_are Decode pieces (decode hex) (decode hex') a b = ap decode (same_operand hex hex' (sym a.operand_is ∙ b.operand_is))
same_are Load pieces (load start count options) (load start' count' options') a b = same_load pieces start count start' count' options options' a b
same_are Replay pieces (replay captures requests options) other a b = absurd b
same_are Serve pieces (serve captures port count trap_port options) other a b = absurd b
same_are Summary pieces (summary capture lead keep_short) other a b = absurd b
same_are Decode pieces (decode hex) other a b = absurd b
same_are Load pieces (load start count options) other a b = absurd b
same_are name pieces one other a b = absurd a

pub one_stands : (all : List (List ℕ)) (one other : Command) → StandFor all one → StandFor all other → one ≡ other
one_stands all one other a b =
    let of = is_of all one a in
    let at : slice_get all 0 ≡ Some of.word = ap (λ (ws : List (List ℕ)). slice_get ws 0) of.all_are in
    let named : command_named of.word ≡ Some of.name = ap command_named of.word_is ∙ word_found of.name in
    same_are of.name (pieces_from Any (drop 1 all)) one other (are_read all of.word of.name one at named a) (are_read all of.word of.name other at named b)

-- what holds where there is none
pub where_none : {X : Type 0} (r : Option X) (P : Type 0) (Q : X → Type 0) → is_some r ≡ false → MatchOption r P Q → P
where_none None P Q none is = is
where_none (Some x) P Q none is = absurd cc
