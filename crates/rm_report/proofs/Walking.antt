-- Hosts of a table that are gone through in the order of their ranks.
use Rattle.std.proofs.Common.{◌≡◌, ℕ, ◌+◌, ◌<◌, ◌≤◌, zero, suc, Bool, List, [], ◌∷◌, ◌++◌, length, filter, map, take, sym, ap, ◌∙◌, arith, Some, None}
use Rattle.std.specs.Option.{option_map}
use Rattle.std.proofs.lemmas.List.{length-map, take_all}
use Rattle.std.proofs.lemmas.List.Elements.{filter-append}
use Rattle.rm_evicting.specs.declared.Row.{Row}
use Rattle.rm_rows.specs.Table.{key_at, keys_of}

next : (place : ℕ) → place + 1 ≡ suc place
next place = omega arith

module _ {K V X : Type 0} (f : K → X) where
  step : (rows : List (Row K V)) (place : ℕ) (x : X) → option_map f (key_at (suc place) rows) ≡ Some x → map f (take (suc place) (keys_of rows)) ≡ map f (take place (keys_of rows)) ++ x ∷ []
  step [] place x here = cc
  step (row ∷ rows) zero x here = let same : f row.key ≡ x = cc in ap (λ y. y ∷ []) same
  step (row ∷ rows) (suc place) x here = ap (λ xs. f row.key ∷ xs) (step rows place x here)

  stop : (rows : List (Row K V)) (place : ℕ) → place < length rows → option_map f (key_at (suc place) rows) ≡ None → ⊥
  stop [] place lt none = omega arith
  stop (row ∷ rows) zero lt none = cc
  stop (row ∷ rows) (suc place) lt none = stop rows place (omega arith) none

  -- one more was gone through
  pub one_more : (rows : List (Row K V)) (place : ℕ) (x : X) → Some x ≡ option_map f (key_at (place + 1) rows) → map f (take (place + 1) (keys_of rows)) ≡ map f (take place (keys_of rows)) ++ x ∷ []
  one_more rows place x here =
      ap (λ n. map f (take n (keys_of rows))) (next place) ∙ step rows place x (sym (here ∙ ap (λ n. option_map f (key_at n rows)) (next place)))

  -- of those with a test
  pub one_more_passes : (p : X → Bool) (rows : List (Row K V)) (place : ℕ) (x : X) → Some x ≡ option_map f (key_at (place + 1) rows)
      → filter p (map f (take (place + 1) (keys_of rows))) ≡ filter p (map f (take place (keys_of rows))) ++ filter p (x ∷ [])
  one_more_passes p rows place x here = ap (filter p) (one_more rows place x here) ∙ filter-append p (map f (take place (keys_of rows))) (x ∷ [])

  -- there is one as long as not all were
  pub not_all : (rows : List (Row K V)) (place : ℕ) → place < length rows → None ≡ option_map f (key_at (place + 1) rows) → ⊥
  not_all rows place lt none = stop rows place lt (sym (none ∙ ap (λ n. option_map f (key_at n rows)) (next place)))

  -- and then these are all
  pub all_through : (rows : List (Row K V)) (place : ℕ) → length rows ≤ place → map f (take place (keys_of rows)) ≡ map f (keys_of rows)
  all_through rows place le =
      let all : length (keys_of rows) ≤ place = omega (arith, length-map rows (λ (row : Row K V). row.key)) in
      ap (map f) (take_all place (keys_of rows) all)
