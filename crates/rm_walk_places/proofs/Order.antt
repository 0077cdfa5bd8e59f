-- The order of lists of numbers.
use Rattle.std.proofs.Common.{◌≡◌, ℕ, ◌<◌, ◌⊎◌, List, [], ◌∷◌, ◌++◌, length, sym, ap, ◌∙◌, arith, refl, inl, inr}
use Rattle.std.specs.Ordering.{ordering_then, nat_cmp}
use Rattle.std.specs.declared.cmp.Ordering.{Ordering}
use Rattle.std.specs.declared.cmp.Ordering.TheVariants.{Less, Equal, Greater}
use Rattle.std.specs.Cmp.{ranked, nat_cmp_is}
use Rattle.std.specs.Cmp.Lexicographic.{slice_cmp}

abbrev pub cmp : List ℕ → List ℕ → Ordering
cmp = slice_cmp nat_cmp

-- lists of one length decide before what stands behind them
pub joined : (xs ys us vs : List ℕ) → length xs ≡ length ys → cmp (xs ++ us) (ys ++ vs) ≡ ordering_then (cmp xs ys) (cmp us vs)
joined [] [] us vs e = refl
joined [] (y ∷ ys) us vs e = absurd (omega (arith, e))
joined (x ∷ xs) [] us vs e = absurd (omega (arith, e))
joined (x ∷ xs) (y ∷ ys) us vs e = ap (ordering_then (nat_cmp x y)) (joined xs ys us vs (omega (arith, e))) ∙ by_first (nat_cmp x y)
  where
    by_first : (o : Ordering) → ordering_then o (ordering_then (cmp xs ys) (cmp us vs)) ≡ ordering_then (ordering_then o (cmp xs ys)) (cmp us vs)
    by_first Less = refl
    by_first Equal = refl
    by_first Greater = refl

-- a number alone is ordered as itself
pub alone : (m n : ℕ) → cmp (m ∷ []) (n ∷ []) ≡ nat_cmp m n
alone m n = by_order (nat_cmp m n)
  where
    by_order : (o : Ordering) → ordering_then o Equal ≡ o
    by_order Less = refl
    by_order Equal = refl
    by_order Greater = refl

-- nothing is below none
pub no_less : (xs : List ℕ) → cmp xs [] ≡ Less → ⊥
no_less [] e = absurd (cc)
no_less (x ∷ xs) e = absurd (cc)

less_is : (m n : ℕ) → m < n → nat_cmp m n ≡ Less
less_is m n lt = sym (nat_cmp_is m n Less lt)

greater_is : (m n : ℕ) → n < m → nat_cmp m n ≡ Greater
greater_is m n lt = sym (nat_cmp_is m n Greater lt)

equal_is : (n : ℕ) → nat_cmp n n ≡ Equal
equal_is n = sym (nat_cmp_is n n Equal refl)

-- how two numbers stand to each other
pub three : (m n : ℕ) → (m < n) ⊎ ((m ≡ n) ⊎ (n < m))
three m n = by_order (nat_cmp m n) refl
  where
    by_order : (o : Ordering) → nat_cmp m n ≡ o → (m < n) ⊎ ((m ≡ n) ⊎ (n < m))
    by_order Less is = inl (ranked m n Less (sym is))
    by_order Equal is = inr (inl (ranked m n Equal (sym is)))
    by_order Greater is = inr (inr (ranked m n Greater (sym is)))

module _ (number : ℕ) (rest : List ℕ) where
  -- a lesser number is below, a greater one above, and where it is the same what stands behind decides
  pub first_less : (other : ℕ) (xs : List ℕ) → number < other → cmp (number ∷ rest) (other ∷ xs) ≡ Less
  first_less other xs lt = rw (less_is number other lt) refl

  pub first_same : (other : ℕ) (xs : List ℕ) → number ≡ other → cmp (number ∷ rest) (other ∷ xs) ≡ cmp rest xs
  first_same other xs same = ap (λ o. ordering_then o (cmp rest xs)) (ap (nat_cmp number) (sym same) ∙ equal_is number)

  pub first_greater : (other : ℕ) (xs : List ℕ) → other < number → cmp (number ∷ rest) (other ∷ xs) ≡ Less → ⊥
  first_greater other xs lt e = absurd (let opposite : Greater ≡ Less = rw (greater_is number other lt) at e in cc)
