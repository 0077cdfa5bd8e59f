-- The least index of a row above some numbers.
use Rattle.std.proofs.Common.{◌≡◌, ℕ, ◌<◌, List, [], ◌∷◌, length, ◌≤◌, true, false, Bool, cond, Option, Some, None, find, refl, sym, ap, subst, ◌∙◌, nat_eq, nat_lt, arith}
use Rattle.std.proofs.lemmas.Bool.Decides.{nat_tests}
use Rattle.std.proofs.lemmas.Cmp.{nat_list_cmp_total}
use Rattle.std.proofs.lemmas.Option.{same_Some}
use Rattle.std.specs.Prelude.{is_some}
use Rattle.std.specs.Option.{option_map}
use Rattle.std.specs.Ordering.{nat_cmp, is_lt, ordering_reverse}
use Rattle.std.specs.declared.cmp.Ordering.{Ordering}
use Rattle.std.specs.declared.cmp.Ordering.TheVariants.{Less, Equal, Greater}
use Rattle.std.specs.Cmp.Lexicographic.{slice_cmp}
use borrow.Author.Tests.{eqb-true}
use Rattle.rm_model.specs.ControlTable.{ControlTable, row_index}
use Rattle.rm_model.specs.Names.{Below, IsLeastAbove}
use Rattle.rm_model.specs.Judgement.{is_row_number}
use Rattle.rm_status.specs.declared.row.Row.{Row}
use Rattle.rm_status.specs.Rows.{row_in, Rising, AreControlRows}
use Rattle.rm_status.specs.Indexes.{has_number, is_index_in}
use Rattle.rm_status.proofs.RowEdits.{above_none, eq_itself}
use Rattle.rm_status.proofs.RowFacts.{found_there}

less_is : (o : Ordering) → is_lt o ≡ true → o ≡ Less
less_is Less h = refl
less_is Equal h = cc
less_is Greater h = cc

not_both : (x y : List ℕ) → Below x y → Below y x → ⊥
not_both x y low high =
    let turned : slice_cmp nat_cmp y x ≡ Greater = nat_list_cmp_total.antisymm y x ∙ ap ordering_reverse low in
    cc

abbrev behind_of : ControlTable → List ℕ → ℕ → Bool
behind_of t index n = is_lt (slice_cmp nat_cmp index (row_index t n))

module _ {C : Type 0} (t : ControlTable) (index : List ℕ) where
  abbrev first : List (Row C) → Option (Row C)
  first rows = find (λ r. behind_of t index r.index) rows

  -- the first row behind the numbers is one of the rows
  held : (rows : List (Row C)) (x : Row C) → Rising rows → first rows ≡ Some x → row_in rows x.index ≡ Some x
  held [] x rise e = absurd (cc)
  held (r ∷ rows) x rise e =
      elim (behind_of t index r.index) as (λ b. cond b (Some r) (first rows) ≡ Some x → row_in (r ∷ rows) x.index ≡ Some x) [
        | true ↦ λ here. subst (λ (y : Row C). row_in (r ∷ rows) y.index ≡ Some y) (same_Some r x here) (ap (λ b. cond b (Some r) (row_in rows r.index)) (eq_itself r.index))
        | false ↦ λ later. elim (nat_eq r.index x.index) as (λ b. nat_eq r.index x.index ≡ b → cond b (Some r) (row_in rows x.index) ≡ Some x) [
          | true ↦ λ same.
              let none : row_in rows x.index ≡ None = above_none r.index x.index rows rise.0 (let is = eqb-true r.index x.index same in omega (arith, is)) in
              let some = held rows x rise.1 later in
              absurd (cc)
          | false ↦ λ _. held rows x rise.1 later
        ] refl
      ] e

  behind : (rows : List (Row C)) (x : Row C) → first rows ≡ Some x → behind_of t index x.index ≡ true
  behind [] x e = absurd (cc)
  behind (r ∷ rows) x e =
      elim (behind_of t index r.index) as (λ b. behind_of t index r.index ≡ b → cond b (Some r) (first rows) ≡ Some x → behind_of t index x.index ≡ true) [
        | true ↦ λ is here. subst (λ (y : Row C). behind_of t index y.index ≡ true) (same_Some r x here) is
        | false ↦ λ _ later. behind rows x later
      ] refl e

  -- no row is behind the numbers where none is found
  none_behind : (rows : List (Row C)) (k : ℕ) (row : Row C) → first rows ≡ None → row_in rows k ≡ Some row → behind_of t index k ≡ false
  none_behind [] k row e there = absurd (cc)
  none_behind (r ∷ rows) k row e there =
      elim (behind_of t index r.index) as (λ b. behind_of t index r.index ≡ b → cond b (Some r) (first rows) ≡ None → behind_of t index k ≡ false) [
        | true ↦ λ _ no. absurd (cc)
        | false ↦ λ not none. elim (nat_eq r.index k) as (λ b. nat_eq r.index k ≡ b → cond b (Some r) (row_in rows k) ≡ Some row → behind_of t index k ≡ false) [
          | true ↦ λ same _. subst (λ n. behind_of t index n ≡ false) (eqb-true r.index k same) not
          | false ↦ λ _ later. none_behind rows k row none later
        ] refl there
      ] refl e

  -- nor is one before the first that is found
  none_before : (rows : List (Row C)) (x : Row C) (k : ℕ) (row : Row C) → Rising rows → first rows ≡ Some x → row_in rows k ≡ Some row → k < x.index → behind_of t index k ≡ false
  none_before [] x k row rise e there under = absurd (cc)
  none_before (r ∷ rows) x k row rise e there under =
      elim (behind_of t index r.index) as (λ b. behind_of t index r.index ≡ b → cond b (Some r) (first rows) ≡ Some x → behind_of t index k ≡ false) [
        | true ↦ λ _ here.
            let low : k < r.index = subst (λ (y : Row C). k < y.index) (sym (same_Some r x here)) under in
            let other : nat_eq r.index k ≡ false = grind (arith, nat_tests) in
            let none : row_in rows k ≡ None = above_none r.index k rows rise.0 (omega arith) in
            let gone : row_in (r ∷ rows) k ≡ None = ap (λ b. cond b (Some r) (row_in rows k)) other ∙ none in
            absurd (cc)
        | false ↦ λ not later. elim (nat_eq r.index k) as (λ b. nat_eq r.index k ≡ b → cond b (Some r) (row_in rows k) ≡ Some row → behind_of t index k ≡ false) [
          | true ↦ λ same _. subst (λ n. behind_of t index n ≡ false) (eqb-true r.index k same) not
          | false ↦ λ _ more. none_before rows x k row rise.1 later more under
        ] refl there
      ] refl e

  module _ (rows : List (Row C)) (rise : AreControlRows t rows) where
    -- an index of a row is that of a number
    numbered : (name : List ℕ) → is_index_in t rows name ≡ true → (k : ℕ) × (row : Row C) × (row_in rows k ≡ Some row) × (row_index t k ≡ name)
    numbered name is = by_number (t.indexing.number_of name) refl is
      where
        by_row : (k : ℕ) (o : Option (Row C)) → row_in rows k ≡ o → is_some o ≡ true → (row : Row C) × (row_in rows k ≡ Some row)
        by_row k None e no_way = absurd (cc)
        by_row k (Some row) e _ = (row, e)

        by_number : (o : Option ℕ) → t.indexing.number_of name ≡ o → has_number rows o ≡ true → (k : ℕ) × (row : Row C) × (row_in rows k ≡ Some row) × (row_index t k ≡ name)
        by_number None e no_way = absurd (cc)
        by_number (Some k) e some = let it = by_row k (row_in rows k) refl some in (k, it.0, it.1, t.indexed.one_to_one.forth name k e)

    is_lt_of : (name : List ℕ) → Below index name → is_lt (slice_cmp nat_cmp index name) ≡ true
    is_lt_of name below = ap is_lt below

    not_index : (name : List ℕ) → (is_index_in t rows name ≡ true → ⊥) → is_index_in t rows name ≡ false
    not_index name never = elim (is_index_in t rows name) as (λ b. is_index_in t rows name ≡ b → b ≡ false) [ true ↦ λ e. absurd (never e) | false ↦ λ _. refl ] refl

    above : (o : Option (Row C)) → first rows ≡ o → IsLeastAbove (is_index_in t rows) index (option_map (λ r. row_index t r.index) o)
    above None none = λ name below. not_index name (λ is.
        let it = numbered name is in
        let is_so : behind_of t index it.0 ≡ true = ap (λ n. is_lt (slice_cmp nat_cmp index n)) it.3 ∙ is_lt_of name below in
        let no : behind_of t index it.0 ≡ false = none_behind rows it.0 it.1 none it.2 in
        cc)
    above (Some x) found =
        let here : row_in rows x.index ≡ Some x = held rows x rise.0 found in (
          less_is _ (behind rows x found),
          ap (has_number rows) (t.indexed.back x.index) ∙ ap is_some here,
          λ name low high. not_index name (λ is.
              let it = numbered name is in
              let k = it.0 in
              let is_so : behind_of t index k ≡ true = ap (λ n. is_lt (slice_cmp nat_cmp index n)) it.3 ∙ is_lt_of name low in
              let under : Below (row_index t k) (row_index t x.index) = subst (λ n. Below n (row_index t x.index)) (sym it.3) high in
              let number = (found_there t rows k it.1 rise.1 it.2).0 in
              let number_x = (found_there t rows x.index x rise.1 here).0 in
              by_order k it.1 it.2 is_so under number number_x (nat_lt k x.index) refl (nat_lt x.index k) refl),
        )
      where
        by_order : (k : ℕ) (row : Row C) → row_in rows k ≡ Some row → behind_of t index k ≡ true → Below (row_index t k) (row_index t x.index) → is_row_number t k ≡ true → is_row_number t x.index ≡ true
            → (a : Bool) → nat_lt k x.index ≡ a → (b : Bool) → nat_lt x.index k ≡ b → ⊥
        by_order k row there is_so under number number_x true low b e =
            let less : k < x.index = grind (arith, nat_tests) in
            let no : behind_of t index k ≡ false = none_before rows x k row rise.0 found there less in
            cc
        by_order k row there is_so under number number_x false e true high =
            let less : x.index < k = grind (arith, nat_tests) in
            not_both (row_index t k) (row_index t x.index) under (t.indexed.rises x.index k number_x number less)
        by_order k row there is_so under number number_x false e false f =
            let same : k ≡ x.index = grind (arith, nat_tests) in
            let itself : Below (row_index t x.index) (row_index t x.index) = subst (λ n. Below (row_index t n) (row_index t x.index)) same under in
            not_both (row_index t x.index) (row_index t x.index) itself itself

    pub first_fits : (x : Row C) → first rows ≡ Some x → length (row_index t x.index) ≤ t.indexing.longest
    first_fits x found = t.indexed.fits x.index (found_there t rows x.index x rise.1 (held rows x rise.0 found)).0

    pub least_behind : IsLeastAbove (is_index_in t rows) index (option_map (λ r. row_index t r.index) (first rows))
    least_behind = above (first rows) refl
