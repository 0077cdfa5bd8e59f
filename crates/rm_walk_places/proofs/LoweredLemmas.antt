-- The numbers that are kept, and the one that is lowered, by place.
use Rattle.std.proofs.Common.{◌≡◌, ℕ, zero, suc, ◌+◌, ◌-◌, ◌<◌, ◌≤◌, ◌⊎◌, min, nat_lt, nat_le, List, [], ◌∷◌, ◌++◌, length, take, drop, get_or, Option, Some, None, IfSome, refl, sym, ap, ◌∙◌, arith, inl, inr, length-drop, subst}
use Rattle.std.specs.Prelude.{slice_get}
use Rattle.std.proofs.Math.Seq.{drop-nil, take-suc}
use Rattle.std.proofs.lemmas.Bool.{cases_Bool}
use Rattle.std.proofs.lemmas.Bool.Decides.{nat_tests}
use Rattle.rm_walk_places.specs.declared.places.Bounds.{Bounds}
use Rattle.rm_walk_places.specs.Lowered.{kept_none, kept_behind, kept_here, kept, greatest, lowered}

-- numbers behind a mark
pub behind_mark : (numbers : List ℕ) (place : ℕ) → slice_get (drop 1 numbers) place ≡ slice_get numbers (suc place)
behind_mark [] place = refl
behind_mark (number ∷ numbers) place = refl

pub number_behind : (numbers : List ℕ) (place : ℕ) → get_or (drop 1 numbers) place 0 ≡ get_or numbers (suc place) 0
number_behind [] place = refl
number_behind (number ∷ numbers) place = refl

pub some_behind : (numbers : List ℕ) (place : ℕ) → place < length (drop 1 numbers) → suc place < length numbers
some_behind [] place lt = absurd (omega (arith, lt))
some_behind (number ∷ numbers) place lt = omega (arith, lt)

-- what is kept from a place on, by what is from the next place on
pub kept_step : (place : ℕ) (bounds : List Bounds) (numbers : List ℕ) (none : Bounds) → place < length bounds
    → kept (drop place bounds) (drop place numbers) ≡ kept_here (get_or bounds place none) (slice_get numbers place) (kept (drop (suc place) bounds) (drop (suc place) numbers))
kept_step place [] numbers none lt = absurd (omega (arith, lt))
kept_step zero (bound ∷ bounds) [] none lt = refl
kept_step zero (bound ∷ bounds) (number ∷ numbers) none lt = refl
kept_step (suc place) (bound ∷ bounds) [] none lt = ap (kept (drop place bounds)) (sym (drop-nil place)) ∙ kept_step place bounds [] none (omega (arith, lt))
kept_step (suc place) (bound ∷ bounds) (number ∷ numbers) none lt = kept_step place bounds numbers none (omega (arith, lt))

-- no more numbers are kept than there are bounds
pub kept_most : (bounds : List Bounds) (numbers : List ℕ) → IfSome (kept bounds numbers) (λ count. count ≤ length bounds)
kept_most [] numbers = omega arith
kept_most (bound ∷ bounds) [] = tt
kept_most (bound ∷ bounds) (number ∷ numbers) = elim (cases_Bool (nat_lt number bound.least)) [
  | inl below ↦ rw below tt
  | inr isnt ↦ rw isnt (behind (kept bounds numbers) (kept_most bounds numbers))
]
  where
    none : IfSome (kept_none bound number) (λ count. count ≤ suc (length bounds))
    none = elim (cases_Bool (nat_lt bound.least number)) [ inl above ↦ rw above (omega arith) | inr least ↦ rw least tt ]

    behind : (o : Option ℕ) → IfSome o (λ count. count ≤ length bounds) → IfSome (kept_behind bound number o) (λ count. count ≤ suc (length bounds))
    behind None most = none
    behind (Some count) most = elim (cases_Bool (nat_le number bound.greatest)) [ inl within ↦ rw within (omega (arith, most)) | inr beyond ↦ rw beyond none ]

pub fewer_kept : (place : ℕ) (bounds : List Bounds) (numbers : List ℕ) → length bounds ≤ 127 → IfSome (kept (drop place bounds) (drop place numbers)) (λ count. count ≤ 127)
fewer_kept place bounds numbers few = by_some (kept (drop place bounds) (drop place numbers)) (kept_most (drop place bounds) (drop place numbers))
  where
    by_some : (o : Option ℕ) → IfSome o (λ count. count ≤ length (drop place bounds)) → IfSome o (λ count. count ≤ 127)
    by_some None most = tt
    by_some (Some count) most = let long : length (drop place bounds) ≡ length bounds - place = length-drop place bounds in omega (arith, most, long, few)

-- the same behind a mark, counted down
pub kept_next : (place : ℕ) (bounds : List Bounds) (numbers : List ℕ) (none : Bounds) → 0 < place → place ≤ length bounds
    → kept_here (get_or bounds (place - 1) none) (slice_get numbers ((place - 1) + 1)) (kept (drop place bounds) (drop place (drop 1 numbers))) ≡ kept (drop (place - 1) bounds) (drop (place - 1) (drop 1 numbers))
kept_next zero bounds numbers none some le = absurd (omega (arith, some))
kept_next (suc place) bounds numbers none some le =
    let before : suc place - 1 ≡ place = omega arith in
    let next : place + 1 ≡ suc place = omega arith in
    rw (before, next, sym (behind_mark numbers place)) (sym (kept_step place bounds (drop 1 numbers) none (omega (arith, le))))

-- either the number here is lowered, or it is kept
record IsLoweredHere (bound : Bounds) (number : ℕ) (count : ℕ) : Type 0 where
  here : count ≡ 0
  above : bound.least < number

record IsKeptHere (behind : Option ℕ) (count : ℕ) : Type 0 where
  others : ℕ
  there : behind ≡ Some others
  one_more : count ≡ suc others

lowered_or_kept : (bound : Bounds) (number : ℕ) (behind : Option ℕ) (count : ℕ) → kept_here bound (Some number) behind ≡ Some count
    → IsLoweredHere bound number count ⊎ IsKeptHere behind count
lowered_or_kept bound number behind count e = elim (cases_Bool (nat_lt number bound.least)) [
  | inl below ↦ absurd (let off : None ≡ Some count = rw below at e in cc)
  | inr isnt ↦ by_behind behind (rw isnt at e)
]
  where
    none : kept_none bound number ≡ Some count → IsLoweredHere bound number count
    none f = elim (cases_Bool (nat_lt bound.least number)) [
      | inl above ↦ let first : Some 0 ≡ Some count = rw above at f in record { here = cc; above = grind (arith, nat_tests, above) }
      | inr least ↦ absurd (let off : None ≡ Some count = rw least at f in cc)
    ]

    by_behind : (o : Option ℕ) → kept_behind bound number o ≡ Some count → IsLoweredHere bound number count ⊎ IsKeptHere o count
    by_behind None f = inl (none f)
    by_behind (Some others) f = elim (cases_Bool (nat_le number bound.greatest)) [
      | inl within ↦ let next : Some (suc others) ≡ Some count = rw within at f in inr (record { others = others; there = refl; one_more = cc })
      | inr beyond ↦ inl (none (rw beyond at f))
    ]

-- so there are as many numbers as are kept, and one that is lowered
pub stands : (bounds : List Bounds) (numbers : List ℕ) (count place : ℕ) → kept bounds numbers ≡ Some count → place < length bounds → place ≤ count → place < length numbers
stands [] numbers count place e lt le = absurd (omega (arith, lt))
stands (bound ∷ bounds) [] count place e lt le = absurd (cc)
stands (bound ∷ bounds) (number ∷ numbers) count zero e lt le = omega arith
stands (bound ∷ bounds) (number ∷ numbers) count (suc place) e lt le = elim (lowered_or_kept bound number (kept bounds numbers) count e) [
  | inl is ↦ let none : count ≡ 0 = is.here in absurd (omega (arith, none, le))
  | inr is ↦
      let more : count ≡ suc is.others = is.one_more in
      let next : place < length numbers = stands bounds numbers is.others place is.there (omega (arith, lt)) (omega (arith, le, more)) in
      omega (arith, next)
]

pub some_less : (bounds : List Bounds) (numbers : List ℕ) (count : ℕ) → kept bounds numbers ≡ Some count → count < length bounds → 0 < get_or numbers count 0
some_less [] numbers count e lt = absurd (omega (arith, lt))
some_less (bound ∷ bounds) [] count e lt = absurd (cc)
some_less (bound ∷ bounds) (number ∷ numbers) count e lt = elim (lowered_or_kept bound number (kept bounds numbers) count e) [
  | inl is ↦ let above : bound.least < number = is.above in rw (is.here) (omega (arith, above))
  | inr is ↦ let more : count ≡ suc is.others = is.one_more in rw more (some_less bounds numbers is.others is.there (omega (arith, lt, more)))
]

-- how many numbers there are with one lowered, and which
as_many : (bounds : List Bounds) → length (greatest bounds) ≡ length bounds
as_many [] = refl
as_many (bound ∷ bounds) = ap suc (as_many bounds)

pub as_long : (count : ℕ) (bounds : List Bounds) (numbers : List ℕ) → length (lowered count bounds numbers) ≡ length bounds
as_long count [] numbers = refl
as_long count (bound ∷ bounds) [] = ap suc (as_many bounds)
as_long zero (bound ∷ bounds) (number ∷ numbers) = ap suc (as_many bounds)
as_long (suc count) (bound ∷ bounds) (number ∷ numbers) = ap suc (as_long count bounds numbers)

greatest_at : (bounds : List Bounds) (place : ℕ) (none : Bounds) → place < length bounds → get_or (greatest bounds) place 0 ≡ (get_or bounds place none).greatest
greatest_at [] place none lt = absurd (omega (arith, lt))
greatest_at (bound ∷ bounds) zero none lt = refl
greatest_at (bound ∷ bounds) (suc place) none lt = greatest_at bounds place none (omega (arith, lt))

kept_at : (count : ℕ) (bounds : List Bounds) (numbers : List ℕ) (place : ℕ) → place < length bounds → place < length numbers → place < count
    → get_or (lowered count bounds numbers) place 0 ≡ get_or numbers place 0
kept_at count [] numbers place lt there before = absurd (omega (arith, lt))
kept_at count (bound ∷ bounds) [] place lt there before = absurd (omega (arith, there))
kept_at zero (bound ∷ bounds) (number ∷ numbers) place lt there before = absurd (omega (arith, before))
kept_at (suc count) (bound ∷ bounds) (number ∷ numbers) zero lt there before = refl
kept_at (suc count) (bound ∷ bounds) (number ∷ numbers) (suc place) lt there before =
    kept_at count bounds numbers place (omega (arith, lt)) (omega (arith, there)) (omega (arith, before))

lowered_at : (none : Bounds) (count : ℕ) (bounds : List Bounds) (numbers : List ℕ) (place : ℕ) → place ≡ count → place < length bounds → place < length numbers
    → get_or (lowered count bounds numbers) place 0 ≡ min (get_or bounds place none).greatest (get_or numbers place 0 - 1)
lowered_at none count [] numbers place same lt there = absurd (omega (arith, lt))
lowered_at none count (bound ∷ bounds) [] place same lt there = absurd (omega (arith, there))
lowered_at none zero (bound ∷ bounds) (number ∷ numbers) zero same lt there = refl
lowered_at none zero (bound ∷ bounds) (number ∷ numbers) (suc place) same lt there = absurd (omega (arith, same))
lowered_at none (suc count) (bound ∷ bounds) (number ∷ numbers) zero same lt there = absurd (omega (arith, same))
lowered_at none (suc count) (bound ∷ bounds) (number ∷ numbers) (suc place) same lt there =
    lowered_at none count bounds numbers place (omega (arith, same)) (omega (arith, lt)) (omega (arith, there))

pub greatest_behind : (none : Bounds) (count : ℕ) (bounds : List Bounds) (numbers : List ℕ) (place : ℕ) → place < length bounds → count < place
    → get_or (lowered count bounds numbers) place 0 ≡ (get_or bounds place none).greatest
greatest_behind none count [] numbers place lt behind = absurd (omega (arith, lt))
greatest_behind none count (bound ∷ bounds) numbers zero lt behind = absurd (omega (arith, behind))
greatest_behind none count (bound ∷ bounds) [] (suc place) lt behind = greatest_at bounds place none (omega (arith, lt))
greatest_behind none zero (bound ∷ bounds) (number ∷ numbers) (suc place) lt behind = greatest_at bounds place none (omega (arith, lt))
greatest_behind none (suc count) (bound ∷ bounds) (number ∷ numbers) (suc place) lt behind = greatest_behind none count bounds numbers place (omega (arith, lt)) (omega (arith, behind))

-- what a list with one number lowered has at a place, of numbers behind a mark
module _ (bounds : List Bounds) (numbers : List ℕ) (count place : ℕ) (e : kept bounds (drop 1 numbers) ≡ Some count) (lt : place < length bounds) where
  pub there : place ≤ count → place + 1 < length numbers
  there le = let next : suc place < length numbers = some_behind numbers place (stands bounds (drop 1 numbers) count place e lt le) in omega (arith, next)

  number_there : get_or (drop 1 numbers) place 0 ≡ get_or numbers (place + 1) 0
  number_there = let next : suc place ≡ place + 1 = omega arith in number_behind numbers place ∙ ap (λ i. get_or numbers i 0) next

  pub some_there : place ≡ count → 0 < get_or numbers (place + 1) 0
  some_there same = subst (λ n. 0 < n) number_there (rw same (some_less bounds (drop 1 numbers) count e (omega (arith, lt, same))))

  pub number_kept : place < count → get_or (lowered count bounds (drop 1 numbers)) place 0 ≡ get_or numbers (place + 1) 0
  number_kept before = kept_at count bounds (drop 1 numbers) place lt (stands bounds (drop 1 numbers) count place e lt (omega (arith, before))) before ∙ number_there

  pub number_lowered : (none : Bounds) → place ≡ count → get_or (lowered count bounds (drop 1 numbers)) place 0 ≡ min (get_or bounds place none).greatest (get_or numbers (place + 1) 0 - 1)
  number_lowered none same =
      lowered_at none count bounds (drop 1 numbers) place same lt (stands bounds (drop 1 numbers) count place e lt (omega (arith, same)))
      ∙ ap (λ n. min (get_or bounds place none).greatest (n - 1)) number_there

  -- the numbers up to a place, and the one there
  pub next_one : (number : ℕ) (before after : List ℕ) → before ≡ take place (lowered count bounds (drop 1 numbers)) → after ≡ before ++ number ∷ []
      → get_or (lowered count bounds (drop 1 numbers)) place 0 ≡ number → after ≡ take (place + 1) (lowered count bounds (drop 1 numbers))
  next_one number before after was now is =
      let next : suc place ≡ place + 1 = omega arith in
      let long : length (lowered count bounds (drop 1 numbers)) ≡ length bounds = as_long count bounds (drop 1 numbers) in
      now ∙ ap (λ xs. xs ++ number ∷ []) was ∙ ap (λ n. take place (lowered count bounds (drop 1 numbers)) ++ n ∷ []) (sym is)
      ∙ sym (take-suc (lowered count bounds (drop 1 numbers)) place 0 (omega (arith, lt, long))) ∙ ap (λ i. take i (lowered count bounds (drop 1 numbers))) next
