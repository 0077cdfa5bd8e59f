-- The bit test of a filter, worked out by hand.
use Rattle.std.proofs.Common.{◌≡◌, List, [], ◌∷◌, true, false, refl}
use Rattle.rm_acts.specs.Bits.{Bits, test_of, pass}

-- PktData 0102, an empty mask, not-mask 00ff
abbrev test : List Bits
test = test_of (1 ∷ 2 ∷ []) [] (0 ∷ 255 ∷ [])

second_differs : pass test (1 ∷ 3 ∷ 77 ∷ []) ≡ true
second_differs = refl

second_equals : pass test (1 ∷ 2 ∷ []) ≡ false
second_equals = refl

first_differs : pass test (2 ∷ 3 ∷ []) ≡ false
first_differs = refl

too_few : pass test (1 ∷ []) ≡ false
too_few = refl

-- one bit of those that may differ is enough: 0f and 0e differ in one
one_is_enough : pass (test_of (15 ∷ []) [] (255 ∷ [])) (14 ∷ []) ≡ true
one_is_enough = refl

-- a bit outside the mask isn't relevant
outside : pass (test_of (1 ∷ []) (254 ∷ []) (1 ∷ [])) (0 ∷ []) ≡ true
outside = refl

-- masks that are longer are cut: the second octet isn't looked at
cut : pass (test_of (1 ∷ []) (255 ∷ 255 ∷ []) (0 ∷ 255 ∷ [])) (1 ∷ []) ≡ true
cut = refl

-- nothing is tested: every frame passes, also one that is shorter than the offset
nothing : pass (test_of [] (255 ∷ []) (255 ∷ [])) [] ≡ true
nothing = refl
