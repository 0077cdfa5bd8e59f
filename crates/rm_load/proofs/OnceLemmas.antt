-- What row 1 alone passes is counted once, by which a Set that makes that row has room and reserves no storage.
use Rattle.std.proofs.Common.{◌≡◌, ℕ, zero, suc, ◌+◌, ◌<◌, ◌≤◌, ◌^◌, Bool, true, false, length, refl, sym, ap, subst, ◌∙◌, nat_eq, eqb-true, le-ltb, arith}
use Rattle.std.specs.Prelude.{if◌then◌else◌}
use Rattle.rm_model.specs.ControlRows.{Beginning, is_valid}
use Rattle.rm_model.specs.ControlTable.{ControlTable, row_index}
use Rattle.rm_model.specs.Judgement.{Bindings, count_below, is_crowded, is_held_or_made}
use Rattle.rm_model.specs.Reserves.{Reserves, activates, state_after}

-- a test that row 1 passes, and no row with another number
module _ (test : ℕ → Bool) (one : test 1 ≡ true) (others : (row : ℕ) → nat_eq 1 row ≡ false → test row ≡ false) where
  by_row : (row : ℕ) → test row ≡ nat_eq 1 row
  by_row row =
      elim (nat_eq 1 row) as (λ b. nat_eq 1 row ≡ b → test row ≡ b) [
        | true ↦ λ e. subst (λ (r : ℕ). test r ≡ true) (eqb-true 1 row e) one
        | false ↦ λ e. others row e
      ] refl

  none_at_first : count_below test 1 ≡ 0
  unfolding count_below
  none_at_first = ap (λ (b : Bool). (if b then 1 else 0) + 0) (by_row 0)

  none_before : (n : ℕ) → n ≤ 1 → count_below test n ≡ 0
  unfolding count_below
  none_before zero within = refl
  none_before (suc n) within = let first : 1 ≡ suc n = omega (arith, within) in subst (λ (k : ℕ). count_below test k ≡ 0) first none_at_first

  pub counted_once : (n : ℕ) → count_below test n ≤ 1
  unfolding count_below
  counted_once zero = omega arith
  counted_once (suc n) =
      elim (test n) as (λ b. test n ≡ b → (if b then 1 else 0) + count_below test n ≤ 1) [
        | true ↦ λ e. let at : 1 ≡ n = eqb-true 1 n (sym (by_row n) ∙ e) in omega (arith, none_before n (omega (arith, at)))
        | false ↦ λ e. omega (arith, counted_once n)
      ] refl

-- a Set by which row 1 alone is held or made isn't crowded
pub not_crowded : (table : ControlTable) (before : Beginning) (bindings : Bindings) → 1 ≤ table.most
    → is_held_or_made table before bindings (row_index table 1) ≡ true
    → ((row : ℕ) → nat_eq 1 row ≡ false → is_held_or_made table before bindings (row_index table row) ≡ false) → is_crowded table before bindings ≡ false
not_crowded table before bindings some one others =
    let counted = counted_once (λ row. is_held_or_made table before bindings (row_index table row)) one others (2 ^ 32) in
    le-ltb table.most _ (omega (arith, some, counted))

-- a Set reserves nothing of a table where row 1 alone is valid after it, and where it makes no row valid
pub reserves_none_of_one : (table : ControlTable) (before : Beginning) (bindings : Bindings) (index : ℕ)
    → is_valid (state_after table before bindings (row_index table 1)) ≡ true
    → ((row : ℕ) → nat_eq 1 row ≡ false → is_valid (state_after table before bindings (row_index table row)) ≡ false) → Reserves table before bindings index → ⊥
reserves_none_of_one table before bindings index one others reserves =
    let counted = counted_once (λ row. is_valid (state_after table before bindings (row_index table row))) one others (2 ^ 32) in
    absurd (omega (arith, counted, reserves.several))

pub reserves_none : (table : ControlTable) (before : Beginning) (bindings : Bindings) (index : ℕ)
    → ((place : ℕ) → place < length bindings → activates table before bindings place ≡ false) → Reserves table before bindings index → ⊥
reserves_none table before bindings index never reserves = let no = never reserves.place reserves.within in let yes = reserves.activates_row in absurd (cc)
