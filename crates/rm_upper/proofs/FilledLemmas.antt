-- How many slots there are up to the last that is filled, as one is filled and as all are emptied.
use Rattle.std.proofs.Common.{◌≡◌, ℕ, ◌+◌, ◌<◌, ◌≤◌, zero, suc, max, List, [], ◌∷◌, ◌++◌, drop, length, replicate, slice_set, Option, Some, None, refl, ap, ◌∙◌, arith}
use Rattle.rm_upper.specs.Filled.{behind_empty, filled_in}

behind_some : (n : ℕ) → 0 < n → behind_empty n ≡ suc n
behind_some zero h = absurd (omega (arith, h))
behind_some (suc n) h = refl

module _ {X : Type 0} where
  -- so many slots are there
  pub filled_within : (slots : List (Option X)) → filled_in slots ≤ length slots
  filled_within [] = omega arith
  filled_within (None ∷ slots) = within (filled_in slots) (filled_within slots)
    where
      within : (n : ℕ) → n ≤ length slots → behind_empty n ≤ suc (length slots)
      within zero h = omega arith
      within (suc n) h = omega (arith, h)
  filled_within (Some x ∷ slots) = let h = filled_within slots in omega (arith, h)

  -- one more is filled
  pub filled_set : (slots : List (Option X)) (place : ℕ) (x : X) → place < length slots → filled_in (slice_set slots place (Some x)) ≡ max (filled_in slots) (place + 1)
  filled_set [] place x lt = absurd (omega (arith, lt))
  filled_set (None ∷ slots) zero x lt = first (filled_in slots)
    where
      first : (n : ℕ) → suc n ≡ max (behind_empty n) 1
      first zero = refl
      first (suc n) = omega arith
  filled_set (Some y ∷ slots) zero x lt = omega arith
  filled_set (None ∷ slots) (suc place) x lt =
      ap behind_empty (filled_set slots place x (omega (arith, lt))) ∙ later (filled_in slots)
    where
      later : (n : ℕ) → behind_empty (max n (place + 1)) ≡ max (behind_empty n) (suc place + 1)
      later zero = behind_some (max 0 (place + 1)) (omega arith) ∙ omega arith
      later (suc n) = behind_some (max (suc n) (place + 1)) (omega arith) ∙ omega arith
  filled_set (Some y ∷ slots) (suc place) x lt = let h = filled_set slots place x (omega (arith, lt)) in omega (arith, h)

  -- as many emptied, all are empty
  emptied : (slots : List (Option X)) → replicate (filled_in slots) None ++ drop (filled_in slots) slots ≡ replicate (length slots) None
  emptied [] = refl
  emptied (None ∷ slots) = none (filled_in slots) (emptied slots)
    where
      none : (n : ℕ) → replicate n None ++ drop n slots ≡ replicate (length slots) None
          → replicate (behind_empty n) None ++ drop (behind_empty n) (None ∷ slots) ≡ replicate (suc (length slots)) None
      none zero h = ap (λ l. None ∷ l) h
      none (suc n) h = ap (λ l. None ∷ l) h
  emptied (Some x ∷ slots) = ap (λ l. None ∷ l) (emptied slots)

  pub emptied_all : (slots now : List (Option X)) (filled : ℕ) → filled ≡ filled_in slots → length slots ≡ 32 → now ≡ replicate filled None ++ drop filled slots → now ≡ replicate 32 None
  emptied_all slots now filled is long rest = rest ∙ ap (λ n. replicate n None ++ drop n slots) is ∙ emptied slots ∙ ap (λ n. replicate n None) long

  -- the next of them is emptied
  next_empty : (place : ℕ) (slots : List (Option X)) → place < length slots → slice_set (replicate place None ++ drop place slots) place None ≡ replicate (suc place) None ++ drop (suc place) slots
  next_empty place [] lt = absurd (omega (arith, lt))
  next_empty zero (slot ∷ slots) lt = refl
  next_empty (suc place) (slot ∷ slots) lt = ap (λ l. None ∷ l) (next_empty place slots (omega (arith, lt)))

  pub next_emptied : (place : ℕ) (slots now : List (Option X)) → place < length slots → now ≡ replicate place None ++ drop place slots → slice_set now place None ≡ replicate (place + 1) None ++ drop (place + 1) slots
  next_emptied place slots now lt is = rw is (next_empty place slots lt ∙ ap (λ n. replicate n None ++ drop n slots) (let e : suc place ≡ place + 1 = omega arith in e))
