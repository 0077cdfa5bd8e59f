-- The test of octets, one after the other.
use Rattle.std.proofs.Common.{◌≡◌, ℕ, zero, suc, ◌+◌, ◌<◌, List, [], ◌∷◌, length, drop, get_or, Bool, true, false, ◌&&◌, ◌||◌, not, ◌==◌, refl, sym, ap, ◌∙◌, ◌≤◌, arith, add-one, drop-cons}
use Rattle.std.specs.List.{list_any}
use Rattle.std.proofs.lemmas.List.{drop_all}
use Rattle.std.proofs.lemmas.Bool.Decides.{nat_tests}
use Rattle.rm_acts.specs.Bits.{Bits, equals, differs, asks_difference, all_equal, any_differs, pass, test_of, behind_first}
use Rattle.rm_match.specs.Tests.{bits_at}

-- whether octets pass, where it is known of those before them whether one had to differ, and whether one did
abbrev pub passes_on : (asked differed : Bool) → List Bits → List ℕ → Bool
passes_on asked differed test octets = all_equal test octets && (not (asked || list_any asks_difference test) || (differed || any_differs test octets))

-- fewer octets than are wanted don't pass
pub too_few : (wanted mask not_mask octets : List ℕ) → length octets < length wanted → pass (test_of wanted mask not_mask) octets ≡ false
too_few wanted mask not_mask octets few = ap (λ all. all && (not (list_any asks_difference (test_of wanted mask not_mask)) || any_differs (test_of wanted mask not_mask) octets)) (unequal wanted mask not_mask octets few)
  where
    and_false : (b : Bool) → (b && false) ≡ false
    and_false true = refl
    and_false false = refl

    unequal : (wanted mask not_mask octets : List ℕ) → length octets < length wanted → all_equal (test_of wanted mask not_mask) octets ≡ false
    unequal [] mask not_mask octets few = absurd (omega arith)
    unequal (x ∷ wanted) mask not_mask [] few = refl
    unequal (x ∷ wanted) mask not_mask (octet ∷ octets) few =
        let rest : all_equal (test_of wanted (behind_first mask) (behind_first not_mask)) octets ≡ false = unequal wanted (behind_first mask) (behind_first not_mask) octets (omega (arith, few)) in
        ap (λ b. equals (bits_at x mask not_mask) octet && b) rest ∙ and_false (equals (bits_at x mask not_mask) octet)

behind_drop : (at : ℕ) (xs : List ℕ) → behind_first (drop at xs) ≡ drop (suc at) xs
behind_drop zero [] = refl
behind_drop zero (x ∷ xs) = refl
behind_drop (suc at) [] = refl
behind_drop (suc at) (x ∷ xs) = behind_drop at xs

-- the test from a place on begins with that of the octet there
pub test_from : (wanted mask not_mask : List ℕ) (at : ℕ) → at < length wanted
    → test_of (drop at wanted) (drop at mask) (drop at not_mask)
    ≡ bits_at (get_or wanted at 0) (drop at mask) (drop at not_mask) ∷ test_of (drop (at + 1) wanted) (drop (at + 1) mask) (drop (at + 1) not_mask)
test_from wanted mask not_mask at within =
    rw (add-one, drop-cons wanted at 0, behind_drop at mask, behind_drop at not_mask) refl

-- an octet that equals what is wanted goes on
pub goes_on : (asked differed : Bool) (bits : Bits) (test : List Bits) (octet : ℕ) (octets : List ℕ) → equals bits octet ≡ true
    → passes_on asked differed (bits ∷ test) (octet ∷ octets) ≡ passes_on (asked || asks_difference bits) (differed || differs bits octet) test octets
goes_on asked differed bits test octet octets same =
    rw same (ap (λ rest. all_equal test octets && rest) (joined asked differed (asks_difference bits) (differs bits octet)))
  where
    joined : (a d x y : Bool) → (not (a || (x || list_any asks_difference test)) || (d || (y || any_differs test octets))) ≡ (not ((a || x) || list_any asks_difference test) || ((d || y) || any_differs test octets))
    joined true true x y = refl
    joined true false x y = refl
    joined false true x y = refl
    joined false false x y = refl

-- one that doesn't ends it
pub ends : (asked differed : Bool) (bits : Bits) (test : List Bits) (octet : ℕ) (octets : List ℕ) → equals bits octet ≡ false
    → passes_on asked differed (bits ∷ test) (octet ∷ octets) ≡ false
ends asked differed bits test octet octets other = rw other refl

-- the test from a place on, and the octets from there
abbrev pub from_place : (wanted mask not_mask octets : List ℕ) → (at : ℕ) → (asked differed : Bool) → Bool
from_place wanted mask not_mask octets at asked differed = passes_on asked differed (test_of (drop at wanted) (drop at mask) (drop at not_mask)) (drop at octets)

-- where nothing is left, what is known decides
pub at_end : (wanted mask not_mask octets : List ℕ) (at : ℕ) (asked differed : Bool) → length wanted ≤ at → from_place wanted mask not_mask octets at asked differed ≡ (not asked || differed)
at_end wanted mask not_mask octets at asked differed all = rw (drop_all at wanted all) (decided asked differed)
  where
    decided : (a d : Bool) → (not (a || false) || (d || false)) ≡ (not a || d)
    decided true true = refl
    decided true false = refl
    decided false d = refl

pub begins : (wanted mask not_mask octets : List ℕ) (at : ℕ) (asked differed : Bool) (bits : Bits) (octet : ℕ) → at < length wanted → at < length octets
    → bits ≡ bits_at (get_or wanted at 0) (drop at mask) (drop at not_mask) → octet ≡ get_or octets at 0
    → from_place wanted mask not_mask octets at asked differed ≡ passes_on asked differed (bits ∷ test_of (drop (at + 1) wanted) (drop (at + 1) mask) (drop (at + 1) not_mask)) (octet ∷ drop (at + 1) octets)
begins wanted mask not_mask octets at asked differed bits octet within there is same =
    ap (λ test. passes_on asked differed test (drop at octets)) (test_from wanted mask not_mask at within)
    ∙ ap (passes_on asked differed (bits_at (get_or wanted at 0) (drop at mask) (drop at not_mask) ∷ test_of (drop (at + 1) wanted) (drop (at + 1) mask) (drop (at + 1) not_mask))) split
    ∙ ap (λ b. passes_on asked differed (b ∷ test_of (drop (at + 1) wanted) (drop (at + 1) mask) (drop (at + 1) not_mask)) (octet ∷ drop (at + 1) octets)) (sym is)
  where
    split : drop at octets ≡ octet ∷ drop (at + 1) octets
    split = rw (same, add-one, drop-cons octets at 0) refl

-- an octet that equals what is wanted goes on, and one that doesn't ends it
pub next_place : (wanted mask not_mask octets : List ℕ) (at : ℕ) (asked differed : Bool) (bits : Bits) (octet : ℕ) → at < length wanted → at < length octets
    → bits ≡ bits_at (get_or wanted at 0) (drop at mask) (drop at not_mask) → octet ≡ get_or octets at 0 → equals bits octet ≡ true
    → from_place wanted mask not_mask octets (at + 1) (asked || asks_difference bits) (differed || differs bits octet) ≡ from_place wanted mask not_mask octets at asked differed
next_place wanted mask not_mask octets at asked differed bits octet within there is same equal =
    sym (begins wanted mask not_mask octets at asked differed bits octet within there is same ∙ goes_on asked differed bits (test_of (drop (at + 1) wanted) (drop (at + 1) mask) (drop (at + 1) not_mask)) octet (drop (at + 1) octets) equal)

pub last_place : (wanted mask not_mask octets : List ℕ) (at : ℕ) (asked differed : Bool) (bits : Bits) (octet : ℕ) → at < length wanted → at < length octets
    → bits ≡ bits_at (get_or wanted at 0) (drop at mask) (drop at not_mask) → octet ≡ get_or octets at 0 → equals bits octet ≡ false
    → false ≡ from_place wanted mask not_mask octets at asked differed
last_place wanted mask not_mask octets at asked differed bits octet within there is same other =
    sym (begins wanted mask not_mask octets at asked differed bits octet within there is same ∙ ends asked differed bits (test_of (drop (at + 1) wanted) (drop (at + 1) mask) (drop (at + 1) not_mask)) octet (drop (at + 1) octets) other)

pub none_asked : (asked differed : Bool) → asked ≡ false → not asked ≡ (not asked || differed)
none_asked asked differed none = rw none refl

pub some_asked : (asked differed : Bool) → asked ≡ true → differed ≡ (not asked || differed)
some_asked asked differed some = rw some refl

-- where no octets are left, only a test of none passes
pub nothing_left : (wanted mask not_mask octets : List ℕ) (offset : ℕ) → length octets ≤ offset → (length wanted == 0) ≡ pass (test_of wanted mask not_mask) (drop offset octets)
nothing_left wanted mask not_mask octets offset all = by_wanted wanted ∙ ap (pass (test_of wanted mask not_mask)) (sym (drop_all offset octets all))
  where
    by_wanted : (wanted : List ℕ) → (length wanted == 0) ≡ pass (test_of wanted mask not_mask) []
    by_wanted [] = refl
    by_wanted (x ∷ wanted) = grind (arith, nat_tests)
