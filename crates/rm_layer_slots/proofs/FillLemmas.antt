-- Slot by slot.
use Rattle.std.proofs.Common.{◌≡◌, ℕ, ◌+◌, ◌<◌, zero, suc, List, [], ◌∷◌, ◌++◌, map, take, drop, length, replicate, slice_set, Option, None, refl, ap, ◌∙◌, arith}
use Rattle.std.specs.Prelude.{slice_index_or}
use Rattle.std.proofs.lemmas.List.{take_all}

-- what becomes of the first of some, before blank slots
abbrev pub so_far : {X : Type 0} → (X → Option ℕ) → ℕ → List X → List (Option ℕ) → List (Option ℕ)
so_far f i xs blank = map f (take i xs) ++ drop i blank

module _ {X : Type 0} (f : X → Option ℕ) (default : X) where
  set_next : (i : ℕ) (xs : List X) (blank : List (Option ℕ)) → i < length xs → length xs ≡ length blank → slice_set (so_far f i xs blank) i (f (slice_index_or xs i default)) ≡ so_far f (suc i) xs blank
  set_next i [] blank lt same = absurd (omega arith)
  set_next i (x ∷ xs) [] lt same = absurd (omega (arith, same))
  set_next zero (x ∷ xs) (b ∷ blank) lt same = refl
  set_next (suc i) (x ∷ xs) (b ∷ blank) lt same = ap (λ l. f x ∷ l) (set_next i xs blank (omega arith) (omega (arith, same)))

  pub next_slot : (i : ℕ) (xs : List X) (slots : List (Option ℕ)) → i < 32 → length xs ≡ 32 → slots ≡ so_far f i xs (replicate 32 None) → slice_set slots i (f (slice_index_or xs i default)) ≡ so_far f (i + 1) xs (replicate 32 None)
  next_slot i xs slots lt long is = rw is (set_next i xs (replicate 32 None) (omega (arith, long)) long ∙ ap (λ n. so_far f n xs (replicate 32 None)) (let one : suc i ≡ i + 1 = omega arith in one))

module _ {X : Type 0} (f : X → Option ℕ) where
  nil_right : {Y : Type 0} (ys : List Y) → ys ++ [] ≡ ys
  nil_right [] = refl
  nil_right (y ∷ ys) = ap (λ l. y ∷ l) (nil_right ys)

  pub all_slots : (i : ℕ) (xs : List X) → i ≡ 32 → length xs ≡ 32 → so_far f i xs (replicate 32 None) ≡ map f xs
  all_slots i xs end long = ap (λ n. so_far f n xs (replicate 32 None)) end ∙ nil_right (map f (take 32 xs)) ∙ ap (map f) (take_all 32 xs (omega (arith, long)))
