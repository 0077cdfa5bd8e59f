-- Where keys that rise begin to pass a test.
use Rattle.std.proofs.Common.{◌≡◌, ℕ, zero, suc, ◌+◌, ◌-◌, ◌/◌, ◌<◌, ◌≤◌, Bool, true, false, List, [], ◌∷◌, length, slice_get, get_or, Option, Some, None, Contains, refl, sym, ap, ◌∙◌, subst, arith, true≢false, inl, inr}
use Rattle.std.specs.Borrow.{Bor}
use Rattle.std.specs.Option.{option_copied}
use Rattle.std.specs.Slice.{IsItemAt}
use Rattle.std.specs.declared.cmp.Ordering.{Ordering}
use Rattle.std.specs.declared.cmp.Ordering.TheVariants.{Less}
use Rattle.std.specs.Cmp.{IsTotalOrder}
use Rattle.std.proofs.lemmas.Bool.{cases_Bool}
use Rattle.std.proofs.lemmas.Option.{slice_get_read, slice_get_within, slice_get_past}
use Rattle.std.proofs.lemmas.List.Elements.{All-from_recursion}
use Rattle.rm_rows.specs.Stored.{In}
use Rattle.rm_rows.specs.Table.{PassesUpward, IsFirstPassing}
use Rattle.rm_rows.proofs.Members.{of_some, compared, half, in_at, at_in, all_in, pair_at}
use Rattle.rm_rows.proofs.Steps.{irreflexive}
use Rattle.rm_order.specs.Order.{AreRising, IsParted, IsCut}

abbrev pub middle : ℕ → ℕ → ℕ
middle low high = low + (high - low) / 2

module _ {K : Type 0} (cmp : K → K → Ordering) (test : K → Bool) (upward : PassesUpward cmp test) (keys : List K) (rising : AreRising cmp keys) (low high : ℕ) (lt : low < high)
    (key : K) (at : key ≡ get_or keys (low + (high - low) / 2) key) (parted : IsParted test keys low high) where
  got : slice_get keys (middle low high) ≡ Some key
  got = let w = parted.within in let k = (half low high lt).1 in slice_get_read keys (length keys) (middle low high) key refl (omega arith) at

  -- the key in the middle doesn't pass, nor do those before it
  pub raised : test key ≡ false → IsParted test keys (middle low high + 1) high
  raised off = let a = (half low high lt).1 in record {
    order = omega arith;
    within = parted.within;
    below = λ k q l g. elim (compared k (middle low high)) [
      | inl b ↦ elim (cases_Bool (test q)) [ inl t ↦ absurd (true≢false (sym (upward q key t (pair_at (λ one other. cmp one other ≡ Less) keys k (middle low high) q key rising b g got)) ∙ off)) | inr f ↦ f ]
      | inr b ↦ elim b [ inl c ↦ subst (λ x. test x ≡ false) (of_some (sym got ∙ ap (slice_get keys) (sym c) ∙ g)) off | inr c ↦ absurd (omega arith) ]
    ];
    above = parted.above;
  }

  -- it passes, and so do those behind it
  pub lowered : test key ≡ true → IsParted test keys low (middle low high)
  lowered on = let a = (half low high lt).0 in let b = (half low high lt).1 in let w = parted.within in record {
    order = omega arith;
    within = omega arith;
    below = parted.below;
    above = λ k q l g. elim (compared k (middle low high)) [
      | inl b ↦ absurd (omega arith)
      | inr b ↦ elim b [
        | inl c ↦ subst (λ x. test x ≡ true) (of_some (sym got ∙ ap (slice_get keys) (sym c) ∙ g)) on
        | inr c ↦ upward key q on (pair_at (λ one other. cmp one other ≡ Less) keys (middle low high) k key q rising c got g)
      ]
    ];
  }

module _ {K : Type 0} where
  -- a member is among the items, and the other way round
  pub contains_in : (keys : List K) (key : K) → In key keys → Contains keys key
  contains_in [] key h = absurd h
  contains_in (x ∷ keys) key h = elim h [
    | inl e ↦ (0, omega arith, sym e)
    | inr k ↦ let on = contains_in keys key k in let lt = on.1 in (suc on.0, omega arith, on.2)
  ]

  pub in_contains : (keys : List K) (key : K) → Contains keys key → In key keys
  in_contains [] key (k, lt, e) = absurd (omega arith)
  in_contains (x ∷ keys) key (zero, lt, e) = inl (sym e)
  in_contains (x ∷ keys) key (suc k, lt, e) = inr (in_contains keys key (k, omega arith, e))

-- what is lent of a place is the item there
pub lent_item : {X : Type 0} (xs : List X) (place : ℕ) (lent : Option (Bor X)) → IsItemAt xs place lent → option_copied lent ≡ slice_get xs place
lent_item xs place None item = sym (slice_get_past xs place item.3)
lent_item xs place (Some x) item = sym (slice_get_read xs (length xs) place x.now refl item.3.0 item.1)

-- where no item stands at a place, the list ends before it
ended : {X : Type 0} (xs : List X) (place : ℕ) → slice_get xs place ≡ None → length xs ≤ place
ended [] place e = omega arith
ended (x ∷ xs) zero e = absurd (some_none e)
  where
    some_none : {X : Type 0} {x : X} → Some x ≡ None → ⊥
    some_none e = cc
ended (x ∷ xs) (suc place) e = let le = ended xs place e in omega arith

module _ {K : Type 0} (cmp : K → K → Ordering) (order : IsTotalOrder cmp) (test : K → Bool) (keys : List K) (rising : AreRising cmp keys) (place : ℕ) (cut : IsCut test keys place) where
  -- the key at the cut is the least that passes
  pub first_passing : (found : Option K) → found ≡ slice_get keys place → IsFirstPassing cmp test keys found
  first_passing None e = All-from_recursion (λ k. ¬ (test k ≡ true)) keys (all_in (λ k. ¬ (test k ≡ true)) keys (λ q h t.
      let on = in_at q keys h in true≢false (sym t ∙ cut.below on.0 q (elim (compared on.0 place) [ inl lt ↦ lt | inr m ↦ absurd (past on.0 q (elim m [ inl s ↦ omega (arith, s) | inr lt ↦ omega arith ]) on.2) ]) on.2)))
    where
      past : (k : ℕ) (q : K) → place ≤ k → slice_get keys k ≡ Some q → ⊥
      past k q le g = let within = slice_get_within keys k q g in let here = ended keys place (sym e) in omega arith
  first_passing (Some key) e = (
    contains_in keys key (at_in key keys place (sym e)),
    cut.above place key (omega arith) (sym e),
    All-from_recursion (λ j. test j ≡ true → ¬ (cmp j key ≡ Less)) keys (all_in (λ j. test j ≡ true → ¬ (cmp j key ≡ Less)) keys (λ q h t less.
        let on = in_at q keys h in elim (compared on.0 place) [
          | inl lt ↦ true≢false (sym t ∙ cut.below on.0 q lt on.2)
          | inr m ↦ elim m [
            | inl s ↦ irreflexive cmp order key (subst (λ x. cmp x key ≡ Less) (of_some (sym on.2 ∙ ap (slice_get keys) s ∙ sym e)) less)
            | inr lt ↦ irreflexive cmp order key (order.trans key q key (pair_at (λ one other. cmp one other ≡ Less) keys place on.0 key q rising lt (sym e) on.2) less)
          ]
        ])),
  )
