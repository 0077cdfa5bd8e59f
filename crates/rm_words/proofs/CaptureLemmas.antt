-- The captures of a command.
use Rattle.std.proofs.Common.{◌≡◌, ◌≢◌, ℕ, List, [], ◌∷◌, ◌++◌, Option, Some, None, is_some, IsSome, false, refl, sym, ap, subst, ◌∙◌}
use Rattle.std.specs.Borrow.{Bor}
use Rattle.rm_words.specs.Grammar.{Piece, Options, AreOptions, AreCaptures, AreOfReplay, AreOfServe, Command, replay, serve, summary, decode, load, operands, setting, named, values_of}
use Rattle.rm_settings.specs.Interfaces.{IsLadder}
use Rattle.rm_words.specs.Scan.{so_far}
use Rattle.rm_words.specs.Told.{AreOf}
use Rattle.rm_words.specs.declared.names.CommandName.TheVariants.{Replay, Serve}
use Rattle.rm_words.specs.declared.names.OptionName.TheVariants.{If2, If3, If4}
use Rattle.rm_words.proofs.WordLemmas.{none_given}

pub in_some : {A : Type 0} (x y : A) → ◌≡◌ {A = Option A} (Some x) (Some y) → x ≡ y
in_some x y e = cc

pub same_setting : {A : Type 0} (o : Option A) (x y : A) → o ≡ Some x → o ≡ Some y → x ≡ y
same_setting o x y a b = in_some x y (sym a ∙ b)

-- a name that was given, as a list of one
some_given : (name : Option (Bor (List ℕ))) → so_far name ≢ [] → IsSome name
some_given None other = absurd (other refl)
some_given (Some name) other = refl

not_nothing : (name : Option (Bor (List ℕ))) → IsSome name → so_far name ≢ []
not_nothing None some = absurd cc
not_nothing (Some name) some = λ e. cc

above_is : (below name : Option (Bor (List ℕ))) → (IsSome name → IsSome below) → so_far name ≢ [] → so_far below ≢ []
above_is below name up other = not_nothing below (up (some_given name other))

-- what options name, where no interface has a capture whose interface below has none
pub captures_read : (pieces : List Piece) (capture : List ℕ) (if2 if3 if4 : Option (Bor (List ℕ))) → setting [] named (values_of If2 pieces) ≡ Some (so_far if2)
    → setting [] named (values_of If3 pieces) ≡ Some (so_far if3) → setting [] named (values_of If4 pieces) ≡ Some (so_far if4) → IsLadder if2 if3 if4
    → AreCaptures pieces capture (capture ∷ so_far if2 ++ so_far if3 ++ so_far if4)
captures_read pieces capture if2 if3 if4 second third fourth ladder = record {
  second = so_far if2;
  third = so_far if3;
  fourth = so_far if4;
  second_is = second;
  third_is = third;
  fourth_is = fourth;
  ladder = (above_is if2 if3 ladder.0, above_is if3 if4 ladder.1);
  all = refl;
}

-- where an option names none, or a wrong one
pub no_second : (pieces : List Piece) (capture : List ℕ) → setting [] named (values_of If2 pieces) ≡ None → (captures : List (List ℕ)) → AreCaptures pieces capture captures → ⊥
no_second pieces capture none captures are = let both : ◌≡◌ {A = Option (List (List ℕ))} None (Some are.second) = sym none ∙ are.second_is in cc

pub no_third : (pieces : List Piece) (capture : List ℕ) (if2 : Option (Bor (List ℕ))) → setting [] named (values_of If2 pieces) ≡ Some (so_far if2)
    → ((found : List (List ℕ)) → setting [] named (values_of If3 pieces) ≡ Some found → (found ≢ [] → so_far if2 ≢ []) → ⊥)
    → (captures : List (List ℕ)) → AreCaptures pieces capture captures → ⊥
no_third pieces capture if2 second none captures are =
    let same : are.second ≡ so_far if2 = same_setting _ _ _ are.second_is second in
    none are.third are.third_is (λ other empty. are.ladder.0 other (same ∙ empty))

pub no_fourth : (pieces : List Piece) (capture : List ℕ) (if3 : Option (Bor (List ℕ))) → setting [] named (values_of If3 pieces) ≡ Some (so_far if3)
    → ((found : List (List ℕ)) → setting [] named (values_of If4 pieces) ≡ Some found → (found ≢ [] → so_far if3 ≢ []) → ⊥)
    → (captures : List (List ℕ)) → AreCaptures pieces capture captures → ⊥
no_fourth pieces capture if3 third none captures are =
    let same : are.third ≡ so_far if3 = same_setting _ _ _ are.third_is third in
    none are.fourth are.fourth_is (λ other empty. are.ladder.1 other (same ∙ empty))

-- a name whose interface below has none
pub no_name_above : (set : Option (List (List ℕ))) (below name : Option (Bor (List ℕ))) (value : Bor (List ℕ)) → is_some below ≡ false → name ≡ Some value → set ≡ Some (so_far name)
    → (found : List (List ℕ)) → set ≡ Some found → (found ≢ [] → so_far below ≢ []) → ⊥
no_name_above set below name value none is set_is found found_is ladder =
    let same : found ≡ value.now ∷ [] = same_setting _ _ _ found_is (set_is ∙ ap (λ (n : Option (Bor (List ℕ))). Some (so_far n)) is) in
    ladder (λ empty. let no : ◌≡◌ {A = List (List ℕ)} (value.now ∷ []) [] = sym same ∙ empty in cc) (none_given below none)

-- the captures are the same
pub same_captures : (pieces : List Piece) (capture capture' : List ℕ) (captures captures' : List (List ℕ)) → capture ≡ capture' → AreCaptures pieces capture captures → AreCaptures pieces capture' captures'
    → captures ≡ captures'
same_captures pieces capture capture' captures captures' first a b =
    let second : a.second ≡ b.second = same_setting _ _ _ a.second_is b.second_is in
    let third : a.third ≡ b.third = same_setting _ _ _ a.third_is b.third_is in
    let fourth : a.fourth ≡ b.fourth = same_setting _ _ _ a.fourth_is b.fourth_is in
    a.all
    ∙ ap (λ (name : List ℕ). name ∷ a.second ++ a.third ++ a.fourth) first
    ∙ ap (λ (names : List (List ℕ)). capture' ∷ names ++ a.third ++ a.fourth) second
    ∙ ap (λ (names : List (List ℕ)). capture' ∷ b.second ++ names ++ a.fourth) third
    ∙ ap (λ (names : List (List ℕ)). capture' ∷ b.second ++ b.third ++ names) fourth
    ∙ sym b.all

-- what isn't the operands and options of `replay` or of `serve`
no_replay : (pieces : List Piece) → ((captures : List (List ℕ)) (requests : List ℕ) (options : Options) → AreOfReplay pieces captures requests options → ⊥)
    → (command : Command) → AreOf Replay pieces command → ⊥
no_replay pieces none (replay captures requests options) are = none captures requests options are
no_replay pieces none (serve captures port count trap_port options) are = absurd are
no_replay pieces none (summary capture lead keep_short) are = absurd are
no_replay pieces none (decode hex) are = absurd are
no_replay pieces none (load start count options) are = absurd are

no_serve : (pieces : List Piece) → ((captures : List (List ℕ)) (port count trap_port : ℕ) (options : Options) → AreOfServe pieces captures port count trap_port options → ⊥)
    → (command : Command) → AreOf Serve pieces command → ⊥
no_serve pieces none (serve captures port count trap_port options) are = none captures port count trap_port options are
no_serve pieces none (replay captures requests options) are = absurd are
no_serve pieces none (summary capture lead keep_short) are = absurd are
no_serve pieces none (decode hex) are = absurd are
no_serve pieces none (load start count options) are = absurd are

-- the captures of another operand, which is the same
captures_of_same : (pieces : List Piece) (capture capture' : List ℕ) (captures : List (List ℕ)) → capture ≡ capture' → AreCaptures pieces capture captures → AreCaptures pieces capture' captures
captures_of_same pieces capture capture' captures same are = subst (λ (name : List ℕ). AreCaptures pieces name captures) same are

-- no captures, of two operands and of three
pub replay_without_captures : (pieces : List Piece) (capture requests : List ℕ) → operands pieces ≡ capture ∷ requests ∷ []
    → ((captures : List (List ℕ)) → AreCaptures pieces capture captures → ⊥) → (command : Command) → AreOf Replay pieces command → ⊥
replay_without_captures pieces capture requests texts none = no_replay pieces by_captures
  where
    by_captures : (captures : List (List ℕ)) (requests' : List ℕ) (options : Options) → AreOfReplay pieces captures requests' options → ⊥
    by_captures captures requests' options are =
        let same : ◌≡◌ {A = List (List ℕ)} (are.capture ∷ requests' ∷ []) (capture ∷ requests ∷ []) = sym are.operands_are ∙ texts in
        let first : are.capture ≡ capture = cc in
        none captures (captures_of_same pieces are.capture capture captures first are.captures_are)

pub serve_without_captures : (pieces : List Piece) (capture port_text count_text : List ℕ) → operands pieces ≡ capture ∷ port_text ∷ count_text ∷ []
    → ((captures : List (List ℕ)) → AreCaptures pieces capture captures → ⊥) → (command : Command) → AreOf Serve pieces command → ⊥
serve_without_captures pieces capture port_text count_text texts none = no_serve pieces by_captures
  where
    by_captures : (captures : List (List ℕ)) (port count trap_port : ℕ) (options : Options) → AreOfServe pieces captures port count trap_port options → ⊥
    by_captures captures port count trap_port options are =
        let same : ◌≡◌ {A = List (List ℕ)} (are.capture ∷ are.port_text ∷ are.count_text ∷ []) (capture ∷ port_text ∷ count_text ∷ []) = sym are.operands_are ∙ texts in
        let first : are.capture ≡ capture = cc in
        none captures (captures_of_same pieces are.capture capture captures first are.captures_are)

-- no options
pub replay_without_options : (pieces : List Piece) → ((options : Options) → AreOptions pieces options → ⊥) → (command : Command) → AreOf Replay pieces command → ⊥
replay_without_options pieces none = no_replay pieces (λ captures requests options are. none options are.options_are)

pub serve_without_options : (pieces : List Piece) → ((options : Options) → AreOptions pieces options → ⊥) → (command : Command) → AreOf Serve pieces command → ⊥
serve_without_options pieces none = no_serve pieces (λ captures port count trap_port options are. none options are.options_are)
