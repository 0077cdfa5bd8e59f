-- How many numbers below another pass a test.
use Rattle.std.proofs.Common.{◌≡◌, ℕ, zero, suc, ◌+◌, ◌-◌, ◌<◌, ◌≤◌, Bool, true, false, cond, not, ◌&&◌, ◌||◌, nat_eq, nat_lt, refl, sym, ap, ◌∙◌, subst, arith, add-one}
use Rattle.std.proofs.lemmas.Bool.Decides.{nat_tests}
use Rattle.rm_model.specs.Judgement.{count_below}

-- one number more
pub count_next : (f : ℕ → Bool) (n : ℕ) → count_below f (n + 1) ≡ count_below f n + cond (f n) 1 0
unfolding count_below
count_next f n = ap (count_below f) (add-one n) ∙ turned (cond (f n) 1 0) (count_below f n)
  where
    turned : (a b : ℕ) → a + b ≡ b + a
    turned a b = omega arith

-- more numbers of which none passes
pub count_gap : (f : ℕ → Bool) (low high : ℕ) → low ≤ high → ((i : ℕ) → low ≤ i → i < high → f i ≡ false) → count_below f high ≡ count_below f low
unfolding count_below
count_gap f low zero under none = ap (count_below f) (is_zero low under)
  where
    is_zero : (n : ℕ) → n ≤ 0 → 0 ≡ n
    is_zero n few = omega arith
count_gap f low (suc high) under none =
    elim (nat_eq low (suc high)) as (λ t. nat_eq low (suc high) ≡ t → cond (f high) 1 0 + count_below f high ≡ count_below f low) [
      | true ↦ λ e. let same : suc high ≡ low = grind (arith, nat_tests) in ap (count_below f) same
      | false ↦ λ e.
          let less : low ≤ high = grind (arith, nat_tests) in
          let rest = count_gap f low high less (λ i above below. none i above (omega (arith, below))) in
          let here : ◌≡◌ {A = ℕ} (cond (f high) 1 0) 0 = ap (λ b. cond b 1 0) (none high less (omega arith)) in
          omega (arith, rest, here)
    ] refl

-- the next number that can pass
pub count_step : (f : ℕ → Bool) (at number : ℕ) → at < number → ((i : ℕ) → at < i → i < number → f i ≡ false) → count_below f (number + 1) ≡ count_below f (at + 1) + cond (f number) 1 0
count_step f at number above none =
    let gap = count_gap f (at + 1) number (omega (arith, above)) (λ i low high. none i (omega (arith, low)) high) in
    let next = count_next f number in
    omega (arith, gap, next)

-- none above passes
pub count_end : (f : ℕ → Bool) (at end : ℕ) → at + 1 ≤ end → ((i : ℕ) → at < i → f i ≡ false) → count_below f end ≡ count_below f (at + 1)
count_end f at end under none = count_gap f (at + 1) end under (λ i low high. none i (omega (arith, low)))

-- more numbers, no fewer that pass
pub count_more : (f : ℕ → Bool) (low more : ℕ) → count_below f low ≤ count_below f (low + more)
count_more f low zero = let same = ap (count_below f) (plus_none low) in omega (arith, same)
  where
    plus_none : (n : ℕ) → n + 0 ≡ n
    plus_none n = omega arith
count_more f low (suc more) =
    let rest = count_more f low more in
    let next = count_next f (low + more) in
    let same = ap (count_below f) (plus_one low more) in
    omega (arith, rest, next, same)
  where
    plus_one : (n k : ℕ) → n + suc k ≡ (n + k) + 1
    plus_one n k = omega arith

pub count_within : (f : ℕ → Bool) (low high : ℕ) → low ≤ high → count_below f low ≤ count_below f high
count_within f low high under = subst (λ n. count_below f low ≤ count_below f n) (rest low high under) (count_more f low (high - low))
  where
    rest : (a b : ℕ) → a ≤ b → a + (b - a) ≡ b
    rest a b h = omega (arith, h)

-- no more numbers pass a test than pass one that all of them pass
pub count_under : (f g : ℕ → Bool) (n : ℕ) → ((i : ℕ) → f i ≡ true → g i ≡ true) → count_below f n ≤ count_below g n
unfolding count_below
count_under f g zero under = omega arith
count_under f g (suc n) under = let rest = count_under f g n under in let here = one (f n) (g n) (under n) in omega (arith, rest, here)
  where
    one : (a b : Bool) → (a ≡ true → b ≡ true) → cond a 1 0 ≤ cond b 1 0
    one true b so = let is = so refl in rw is (omega arith)
    one false b so = omega arith

-- whether some pass, with one more
pub some_more : (n : ℕ) (t : Bool) → nat_lt 0 (n + cond t 1 0) ≡ (nat_lt 0 n || t)
some_more n true = more (nat_lt 0 n) refl
  where
    more : (b : Bool) → nat_lt 0 n ≡ b → nat_lt 0 (n + 1) ≡ (b || true)
    more true e = grind (arith, nat_tests)
    more false e = grind (arith, nat_tests)
some_more n false = same (nat_lt 0 n) refl
  where
    same : (b : Bool) → nat_lt 0 n ≡ b → nat_lt 0 (n + 0) ≡ (b || false)
    same true e = grind (arith, nat_tests)
    same false e = grind (arith, nat_tests)

-- Numbers that pass one test before and another after: those before and those that came are those after and those that went.
pub count_moved : (gone absent : ℕ → Bool) (n : ℕ)
    → count_below (λ i. not (gone i)) n + count_below (λ i. gone i && not (absent i)) n ≡ count_below (λ i. not (absent i)) n + count_below (λ i. not (gone i) && absent i) n
unfolding count_below
count_moved gone absent zero = refl
count_moved gone absent (suc n) = let rest = count_moved gone absent n in let here = one (gone n) (absent n) in omega (arith, rest, here)
  where
    one : (a b : Bool) → cond (not a) 1 0 + cond (a && not b) 1 0 ≡ cond (not b) 1 0 + cond (not a && b) 1 0
    one true true = refl
    one true false = refl
    one false true = refl
    one false false = refl

-- whether some number passes one of two tests
pub some_either : (p q : ℕ → Bool) (n : ℕ) → nat_lt 0 (count_below (λ i. p i || q i) n) ≡ (nat_lt 0 (count_below p n) || nat_lt 0 (count_below q n))
unfolding count_below
some_either p q zero = refl
some_either p q (suc n) =
    first (p n || q n) (count_below (λ i. p i || q i) n) ∙ ap (λ b. (p n || q n) || b) (some_either p q n)
    ∙ shuffled (p n) (q n) (nat_lt 0 (count_below p n)) (nat_lt 0 (count_below q n))
    ∙ ap (λ b. b || (q n || nat_lt 0 (count_below q n))) (sym (first (p n) (count_below p n))) ∙ ap (λ b. nat_lt 0 (cond (p n) 1 0 + count_below p n) || b) (sym (first (q n) (count_below q n)))
  where
    first : (t : Bool) (k : ℕ) → nat_lt 0 (cond t 1 0 + k) ≡ (t || nat_lt 0 k)
    first true k = grind (arith, nat_tests)
    first false k = ap (nat_lt 0) (none k)
      where
        none : (m : ℕ) → 0 + m ≡ m
        none m = omega arith

    shuffled : (a b c d : Bool) → ((a || b) || (c || d)) ≡ ((a || c) || (b || d))
    shuffled true b c d = refl
    shuffled false true true d = refl
    shuffled false true false d = refl
    shuffled false false c d = refl
