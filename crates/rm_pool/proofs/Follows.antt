-- The parts that are begun of valid rows, one by one.
use Rattle.std.proofs.Common.{◌^◌, ◌≡◌, ℕ, ◌<◌, ◌≤◌, ◌⊎◌, inl, inr, List, length, Bool, true, false, cond, Option, Some, None, refl, sym, ap, subst, ◌∙◌, nat_eq, nat_lt, arith}
use Rattle.std.specs.Prelude.{is_some}
use Rattle.std.proofs.lemmas.Bool.Decides.{nat_tests}
use Rattle.rm_model.specs.ControlRows.{is_valid}
use Rattle.rm_model.specs.ControlTable.{ControlTable}
use Rattle.rm_status.specs.declared.row.Row.{Row}
use Rattle.rm_status.specs.Rows.{AllThere, state_seen}
use Rattle.rm_pool.specs.declared.slot.Slot.{Slot}
use Rattle.rm_pool.specs.Slots.{part_in, has_part}
use Rattle.rm_pool.specs.Pools.{valid_in, IsThere, IsOfValid}
use Rattle.rm_pool.specs.Follow.{AreBegun}
use Rattle.rm_pool.proofs.Spares.{eq_is}
use Rattle.rm_status.proofs.RowFacts.{valid_fits, no_row_0}

both : (b : Bool) → b ≡ true → b ≡ false → ⊥
both b e f = cc

parts : (last index row : ℕ) → row ≤ index → (row ≤ last) ⊎ (((last < row) × (row < index)) ⊎ (row ≡ index))
parts last index row h =
    elim (nat_lt last row) as (λ t. nat_lt last row ≡ t → (row ≤ last) ⊎ (((last < row) × (row < index)) ⊎ (row ≡ index))) [
      | false ↦ λ e. inl (grind (arith, nat_tests))
      | true ↦ λ e. elim (nat_eq row index) as (λ t. nat_eq row index ≡ t → (row ≤ last) ⊎ (((last < row) × (row < index)) ⊎ (row ≡ index))) [
        | true ↦ λ f. inr (inr (grind (arith, nat_tests)))
        | false ↦ λ f. inr (inl ((let a : last < row = grind (arith, nat_tests) in a), (let b : row < index = grind (arith, nat_tests) in b)))
      ] refl
    ] refl

apart : (a b : ℕ) → a < b → nat_eq b a ≡ false
apart a b h = grind (arith, nat_tests)

apart_up : (a b : ℕ) → a < b → nat_eq a b ≡ false
apart_up a b h = grind (arith, nat_tests)

module _ {P : Type 0} (valid : ℕ → Bool) (begun : ℕ → P → Type 0) (before : List (Slot P)) where
  -- none was begun
  pub none_begun : valid 0 ≡ false → ((row : ℕ) → has_part before row ≡ true → valid row ≡ true) → AreBegun valid begun before before 0
  none_begun no_first used = record {
    size = refl;
    stays = λ row has. refl;
    begins = λ row low is none. absurd (both (valid 0) (subst (λ n. valid n ≡ true) (omega (arith, low)) is) no_first);
    later = λ row low. refl;
    used = used;
  }

  -- one row more was looked at
  module _ (now new : List (Slot P)) (last index : ℕ) (is : AreBegun valid begun before now last) (above : last < index)
      (between : (row : ℕ) → last < row → row < index → valid row ≡ false)
      (begins : valid index ≡ true → part_in now index ≡ None → IsThere (begun index) (part_in new index))
      (stays : has_part now index ≡ true → part_in new index ≡ part_in now index)
      (idle : valid index ≡ false → part_in new index ≡ part_in now index)
      (others : (row : ℕ) → nat_eq index row ≡ false → part_in new row ≡ part_in now row)
      (size : length new ≡ length now) where
    still : (row : ℕ) → has_part before row ≡ true → part_in new row ≡ part_in before row
    still row has =
        let was : part_in now row ≡ part_in before row = is.stays row has in
        elim (nat_eq index row) as (λ t. nat_eq index row ≡ t → part_in new row ≡ part_in before row) [
          | true ↦ λ e.
              let same : index ≡ row = eq_is index row e in
              subst (λ n. part_in new n ≡ part_in now n) same (stays (subst (λ n. has_part now n ≡ true) (sym same) (ap is_some was ∙ has))) ∙ was
          | false ↦ λ e. others row e ∙ was
        ] refl

    has_begun : (row : ℕ) → row ≤ index → valid row ≡ true → part_in before row ≡ None → IsThere (begun row) (part_in new row)
    has_begun row low right none = by_part (parts last index row low)
      where
        by_part : (row ≤ last) ⊎ (((last < row) × (row < index)) ⊎ (row ≡ index)) → IsThere (begun row) (part_in new row)
        by_part (inl under) = subst (IsThere (begun row)) (sym (others row (apart row index (omega (arith, under, above))))) (is.begins row under right none)
        by_part (inr (inl mid)) = absurd (both (valid row) right (between row mid.0 mid.1))
        by_part (inr (inr same)) =
            subst (λ n. IsThere (begun n) (part_in new n)) (sym same) (begins (subst (λ n. valid n ≡ true) same right) (is.later index above ∙ subst (λ n. part_in before n ≡ None) same none))

    only_valid : (row : ℕ) → has_part new row ≡ true → valid row ≡ true
    only_valid row has = elim (nat_eq index row) as (λ t. nat_eq index row ≡ t → valid row ≡ true) [
      | true ↦ λ e.
          let same : index ≡ row = eq_is index row e in
          elim (valid row) as (λ t. valid row ≡ t → t ≡ true) [
            | true ↦ λ _. refl
            | false ↦ λ f.
                let unchanged : part_in new row ≡ part_in now row = subst (λ n. part_in new n ≡ part_in now n) same (idle (subst (λ n. valid n ≡ false) (sym same) f)) in
                absurd (both (valid row) (is.used row (ap is_some (sym unchanged) ∙ has)) f)
          ] refl
      | false ↦ λ e. is.used row (ap is_some (sym (others row e)) ∙ has)
    ] refl

    pub one_begun : AreBegun valid begun before new index
    one_begun = record {
      size = size ∙ is.size;
      stays = still;
      begins = has_begun;
      later = λ row low. others row (apart_up index row low) ∙ is.later row (omega (arith, low, above));
      used = only_valid;
    }

  -- no valid row is above
  pub all_begun : (now : List (Slot P)) (last : ℕ) → AreBegun valid begun before now last → last ≤ 2 ^ 32 → ((row : ℕ) → last < row → valid row ≡ false) → AreBegun valid begun before now (2 ^ 32)
  all_begun now last is within none = record {
    size = is.size;
    stays = is.stays;
    begins = λ row low right gone. elim (nat_lt last row) as (λ t. nat_lt last row ≡ t → IsThere (begun row) (part_in now row)) [
      | true ↦ λ e. absurd (both (valid row) right (none row (grind (arith, nat_tests))))
      | false ↦ λ e. is.begins row (grind (arith, nat_tests)) right gone
    ] refl;
    later = λ row low. is.later row (omega (arith, low, within));
    used = is.used;
  }

-- What the parts of valid rows are once those of other rows are spare, and each valid row that had none has one that has begun.
module _ {P C : Type 0} (t : ControlTable) (rows : List (Row C)) (there : AllThere t rows) (begun : ℕ → P → Type 0) (before freed new : List (Slot P))
    (in_freed : (row : ℕ) → part_in freed row ≡ cond (valid_in rows row) (part_in before row) None) where
  -- no row that isn't valid has a part once these are spare
  pub freed_valid : (row : ℕ) → has_part freed row ≡ true → valid_in rows row ≡ true
  freed_valid row has = by_valid (valid_in rows row) (ap is_some (sym (in_freed row)) ∙ has)
    where
      by_valid : (b : Bool) → is_some (cond b (part_in before row) None) ≡ true → b ≡ true
      by_valid true e = refl
      by_valid false e = absurd (cc)

  module _ (is : AreBegun (valid_in rows) begun freed new (2 ^ 32)) where
    freed_is : (row : ℕ) → valid_in rows row ≡ true → part_in freed row ≡ part_in before row
    freed_is row right = in_freed row ∙ ap (λ t. cond t (part_in before row) None) right

    pub follow_stays : (row : ℕ) → valid_in rows row ≡ true → has_part before row ≡ true → part_in new row ≡ part_in before row
    follow_stays row right has = is.stays row (ap is_some (freed_is row right) ∙ has) ∙ freed_is row right

    fits : (row : ℕ) → valid_in rows row ≡ true → row ≤ 2 ^ 32
    fits row right = let lt = (valid_fits t rows row there right).1 in omega (arith, lt)

    pub follow_begun : (row : ℕ) → valid_in rows row ≡ true → part_in before row ≡ None → IsThere (begun row) (part_in new row)
    follow_begun row right none = is.begins row (fits row right) right (freed_is row right ∙ none)

    pub follow_valid : IsOfValid new rows
    follow_valid row = elim (valid_in rows row) as (λ t. valid_in rows row ≡ t → has_part new row ≡ t) [
      | true ↦ λ right. has right (part_in freed row) refl
      | false ↦ λ wrong. elim (has_part new row) as (λ t. has_part new row ≡ t → t ≡ false) [
        | true ↦ λ e. absurd (both (valid_in rows row) (is.used row e) wrong)
        | false ↦ λ _. refl
      ] refl
    ] refl
      where
        some : (o : Option P) → IsThere (begun row) o → is_some o ≡ true
        some None h = absurd h
        some (Some part) h = refl

        has : valid_in rows row ≡ true → (o : Option P) → part_in freed row ≡ o → has_part new row ≡ true
        has right None e = some (part_in new row) (is.begins row (fits row right) right e)
        has right (Some part) e = ap is_some (is.stays row (ap is_some e) ∙ e)

pub not_first : {C : Type 0} (t : ControlTable) (rows : List (Row C)) → AllThere t rows → valid_in rows 0 ≡ false
not_first t rows there = ap (λ o. is_valid (state_seen o)) (no_row_0 t rows there)
