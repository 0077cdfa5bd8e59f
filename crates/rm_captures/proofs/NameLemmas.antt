-- Files by their names.
use Rattle.std.proofs.Common.{◌≡◌, ℕ, ◌<◌, zero, suc, List, [], ◌∷◌, length, get_or, inl, inr, refl, sym, subst, arith}
use Rattle.std.proofs.lemmas.Bool.Decides.{nat_tests}
use Rattle.std.specs.Borrow.{Bor}
use Rattle.std.specs.Prelude.{◌==◌, true, Result, Ok, Err, IfErr}
use Rattle.rm_edge.specs.Outside.{Held, Rose}
use Rattle.rm_captures.specs.Reading.{texts, AreHeld, IsOneOf, OneRose}

pub no_texts : (names : List (Bor (List ℕ))) → length names ≡ 0 → texts names ≡ []
no_texts [] none = refl
no_texts (name ∷ names) none = absurd (omega (arith, none))

-- none is left behind the last one
pub last_name : (names : List (Bor (List ℕ))) → (length names == 0) ≡ true → texts names ≡ []
last_name [] none = refl
last_name (name ∷ names) none = absurd (grind (arith, nat_tests, none))

pub one_of_first : (all : List (List ℕ)) (name : List ℕ) (names : List (List ℕ)) (each : List ℕ) → all ≡ name ∷ names → each ≡ name → IsOneOf all each
unfolding IsOneOf
one_of_first all name names each are is = subst (λ (t : List (List ℕ)). IsOneOf t each) (sym are) (inl is)

pub one_of_rest : (all : List (List ℕ)) (name : List ℕ) (names : List (List ℕ)) (each : List ℕ) → all ≡ name ∷ names → IsOneOf names each → IsOneOf all each
unfolding IsOneOf
one_of_rest all name names each are is = subst (λ (t : List (List ℕ)). IsOneOf t each) (sym are) (inr is)

pub rose_first : (before now : List ℕ → ℕ) (all : List (List ℕ)) (name : List ℕ) (names : List (List ℕ)) → all ≡ name ∷ names → Rose (before name) (now name) → OneRose before now all
unfolding OneRose
rose_first before now all name names are rose = subst (λ (t : List (List ℕ)). OneRose before now t) (sym are) (inl rose)

pub rose_still : (before mid now : List ℕ → ℕ) (names : List (List ℕ)) → ((each : List ℕ) → mid each ≡ before each) → OneRose mid now names → OneRose before now names
unfolding OneRose
rose_still before mid now [] quiet rose = absurd rose
rose_still before mid now (name ∷ names) quiet (inl rose) = inl (subst (λ (n : ℕ). Rose n (now name)) (quiet name) rose)
rose_still before mid now (name ∷ names) quiet (inr rose) = inr (rose_still before mid now names quiet rose)

pub rose_rest : (before mid now : List ℕ → ℕ) (all : List (List ℕ)) (name : List ℕ) (names : List (List ℕ)) → all ≡ name ∷ names → ((each : List ℕ) → mid each ≡ before each) → OneRose mid now names → OneRose before now all
unfolding OneRose
rose_rest before mid now all name names are quiet rose = subst (λ (t : List (List ℕ)). OneRose before now t) (sym are) (inr (rose_still before mid now names quiet rose))

-- what an error says, and more of it
pub err_more : {T E : Type 0} → (result : Result T E) (P Q : E → Type 0) → ((e : E) → P e → Q e) → IfErr result P → IfErr result Q
err_more (Ok done) P Q more is = is
err_more (Err e) P Q more is = more e is

-- files that are held under all names, by the first name and the others
pub held_split : (held : List ℕ → Held) (all files : List (List ℕ)) (name : List ℕ) (names : List (List ℕ)) → all ≡ name ∷ names → AreHeld held all files → AreHeld held (name ∷ names) files
held_split held all files name names are holds = subst (λ (t : List (List ℕ)). AreHeld held t files) are holds

-- the text of a name at a place
pub text_at : (names : List (Bor (List ℕ))) (place : ℕ) (any : Bor (List ℕ)) → (get_or names place any).now ≡ get_or (texts names) place any.now
text_at [] place any = refl
text_at (name ∷ names) zero any = refl
text_at (name ∷ names) (suc place) any = text_at names place any

pub as_many_texts : (names : List (Bor (List ℕ))) → length (texts names) ≡ length names
as_many_texts [] = refl
as_many_texts (name ∷ names) = omega (arith, as_many_texts names)

pub one_of_at : (names : List (Bor (List ℕ))) (place : ℕ) (any : Bor (List ℕ)) (each : List ℕ) → place < length names → each ≡ (get_or names place any).now → IsOneOf (texts names) each
unfolding IsOneOf
one_of_at [] place any each within is = absurd (omega (arith, within))
one_of_at (name ∷ names) zero any each within is = inl is
one_of_at (name ∷ names) (suc place) any each within is = inr (one_of_at names place any each (omega (arith, within)) is)

pub rose_at : (before now : List ℕ → ℕ) (names : List (Bor (List ℕ))) (place : ℕ) (any : Bor (List ℕ)) → place < length names → Rose (before (get_or names place any).now) (now (get_or names place any).now) → OneRose before now (texts names)
unfolding OneRose
rose_at before now [] place any within rose = absurd (omega (arith, within))
rose_at before now (name ∷ names) zero any within rose = inl rose
rose_at before now (name ∷ names) (suc place) any within rose = inr (rose_at before now names place any (omega (arith, within)) rose)
