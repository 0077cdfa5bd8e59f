-- Names under the entry of a table, and where the cells above a name begin.
use Rattle.std.proofs.Common.{◌≡◌, ℕ, zero, suc, ◌<◌, ◌≤◌, ◌⊎◌, inl, inr, List, [], ◌∷◌, ◌++◌, refl, sym, ◌∙◌, ap, subst, Bool, true, false, cond, ◌&&◌, Option, Some, None, nat_lt, nat_eq, arith, length, drop, slice_get, ◌+◌}
use Rattle.std.proofs.lemmas.Option.{slice_get_within}
use Rattle.std.specs.List.{starts_with}
use Rattle.std.specs.declared.cmp.Ordering.{Ordering}
use Rattle.std.specs.declared.cmp.Ordering.TheVariants.{Less, Equal, Greater}
use Rattle.std.specs.Ordering.{nat_cmp, is_lt, ordering_then}
use Rattle.std.specs.Cmp.Lexicographic.{slice_cmp}
use Rattle.std.proofs.lemmas.Bool.Decides.{nat_tests}
use Rattle.rm_model.specs.Names.{Below, IsLeastAbove}
use Rattle.rm_model.specs.Cells.{behind, is_one_of, instance_of, instance_left, is_of_row, is_cell_name}
use Rattle.rm_model.specs.ControlRows.{cell_name}
use Rattle.rm_model.specs.declared.instance.Instance.{Instance}
use Rattle.rm_model.proofs.Tables.{behind_is, behind_front}
use Rattle.rm_group.specs.Search.{at_first, start_behind, start_at, start_of, Follows, is_present, IsNextInstance}
use Rattle.rm_group.proofs.SearchLemmas.{unless_true, both_true}

-- what starts_with tells of the numbers behind
pub behind_none : (e n : List ℕ) → false ≡ starts_with nat_eq n e → behind e n ≡ None
behind_none [] n h = cc
behind_none (x ∷ xs) [] h = refl
behind_none (x ∷ xs) (y ∷ ys) h =
    elim (nat_eq x y) as (λ t. false ≡ (t && starts_with nat_eq ys xs) → cond t (behind xs ys) None ≡ None) [ true ↦ λ k. behind_none xs ys k | false ↦ λ k. refl ] h

pub behind_some : (e n : List ℕ) → true ≡ starts_with nat_eq n e → behind e n ≡ Some (drop (length e) n)
behind_some [] n h = refl
behind_some (x ∷ xs) [] h = cc
behind_some (x ∷ xs) (y ∷ ys) h =
    elim (nat_eq x y) as (λ t. true ≡ (t && starts_with nat_eq ys xs) → cond t (behind xs ys) None ≡ Some (drop (length xs) ys)) [ true ↦ λ k. behind_some xs ys k | false ↦ λ k. cc ] h

-- the order of numbers decides, then that of the others
then_less : (a c : ℕ) (o : Ordering) → ordering_then (nat_cmp a c) o ≡ Less → (a < c) ⊎ ((a ≡ c) × (o ≡ Less))
then_less a c o h =
    elim (nat_lt a c) as (λ t. nat_lt a c ≡ t → ordering_then (cond t Less (cond (nat_eq a c) Equal Greater)) o ≡ Less → (a < c) ⊎ ((a ≡ c) × (o ≡ Less))) [
      | true ↦ λ less _. inl (grind (arith, nat_tests))
      | false ↦ λ _ k.
          elim (nat_eq a c) as (λ t. nat_eq a c ≡ t → ordering_then (cond t Equal Greater) o ≡ Less → (a < c) ⊎ ((a ≡ c) × (o ≡ Less))) [
            | true ↦ λ same m. inr ((grind (arith, nat_tests)), m)
            | false ↦ λ _ m. absurd (cc)
          ] refl k
    ] refl h

less_then : (a c : ℕ) (o : Ordering) → (a < c) ⊎ ((a ≡ c) × (o ≡ Less)) → ordering_then (nat_cmp a c) o ≡ Less
less_then a c o (inl less) = let is : nat_lt a c ≡ true = grind (arith, nat_tests) in rw is refl
less_then a c o (inr same) =
    let e = same.0 in
    let not_less : nat_lt a c ≡ false = grind (arith, nat_tests) in
    let is : nat_eq a c ≡ true = grind (arith, nat_tests) in
    rw (not_less, is) same.1

-- a name with that front is compared by what is behind it
order_behind : (e n left more : List ℕ) → behind e n ≡ Some left → slice_cmp nat_cmp n (e ++ more) ≡ slice_cmp nat_cmp left more
order_behind [] n left more h = let same : n ≡ left = cc in rw same refl
order_behind (x ∷ e) [] left more h = absurd (cc)
order_behind (x ∷ e) (y ∷ n) left more h =
    elim (nat_eq x y) as (λ t. nat_eq x y ≡ t → cond t (behind e n) None ≡ Some left → ordering_then (nat_cmp y x) (slice_cmp nat_cmp n (e ++ more)) ≡ slice_cmp nat_cmp left more) [
      | true ↦ λ same is.
          let not_less : nat_lt y x ≡ false = grind (arith, nat_tests) in
          let equal : nat_eq y x ≡ true = grind (arith, nat_tests) in
          rw (not_less, equal) (order_behind e n left more is)
      | false ↦ λ _ is. absurd (cc)
    ] refl h

-- another name is compared by the front alone
order_beside : (e n more : List ℕ) → behind e n ≡ None → slice_cmp nat_cmp n (e ++ more) ≡ slice_cmp nat_cmp n e
order_beside [] n more h = absurd (cc)
order_beside (x ∷ e) [] more h = refl
order_beside (x ∷ e) (y ∷ n) more h =
    elim (nat_eq x y) as (λ t. nat_eq x y ≡ t → cond t (behind e n) None ≡ None → ordering_then (nat_cmp y x) (slice_cmp nat_cmp n (e ++ more)) ≡ ordering_then (nat_cmp y x) (slice_cmp nat_cmp n e)) [
      | true ↦ λ _ is. ap (ordering_then (nat_cmp y x)) (order_beside e n more is)
      | false ↦ λ other _.
          let differ : nat_eq y x ≡ false = grind (arith, nat_tests) in
          decided (nat_lt y x) (nat_eq y x) (slice_cmp nat_cmp n (e ++ more)) (slice_cmp nat_cmp n e) differ
    ] refl h
  where
    decided : (less same : Bool) (o p : Ordering) → same ≡ false → ordering_then (cond less Less (cond same Equal Greater)) o ≡ ordering_then (cond less Less (cond same Equal Greater)) p
    decided true same o p differ = refl
    decided false false o p differ = refl
    decided false true o p differ = absurd (cc)

-- the cells above a name are those behind its start
abbrev pub Ahead : Option Instance → Instance → Type 0
Ahead None at = ⊥
Ahead (Some start) at = Follows start at

lt_true : (o : Ordering) → o ≡ Less → is_lt o ≡ true
lt_true o h = rw h refl

true_lt : (o : Ordering) → is_lt o ≡ true → o ≡ Less
true_lt Less h = refl
true_lt Equal h = absurd (cc)
true_lt Greater h = absurd (cc)

from_first : (at : Instance) (x : ℕ) (xs : List ℕ) → at.index ≡ x ∷ xs → Follows at_first at
from_first at x xs is =
    elim (nat_lt 0 at.column) as (λ t. nat_lt 0 at.column ≡ t → Follows at_first at) [
      | true ↦ λ up. inl (grind (arith, nat_tests))
      | false ↦ λ zero. inr ((grind (arith, nat_tests)), (rw is refl))
    ] refl

behind_ahead : (left : List ℕ) (at : Instance) (x : ℕ) (xs : List ℕ) → at.index ≡ x ∷ xs → slice_cmp nat_cmp left (at.column ∷ at.index) ≡ Less → Follows (start_behind left) at
behind_ahead [] at x xs is h = from_first at x xs is
behind_ahead (a ∷ rest) at x xs is h = then_less a at.column (slice_cmp nat_cmp rest at.index) h

ahead_behind : (left : List ℕ) (at : Instance) → Follows (start_behind left) at → slice_cmp nat_cmp left (at.column ∷ at.index) ≡ Less
ahead_behind [] at h = refl
ahead_behind (a ∷ rest) at h = less_then a at.column (slice_cmp nat_cmp rest at.index) h

module _ (e n : List ℕ) (at : Instance) where
  pub ahead_of_below : (x : ℕ) (xs : List ℕ) → at.index ≡ x ∷ xs → Below n (cell_name e at.column at.index) → Ahead (start_of e n) at
  ahead_of_below x xs is under =
      elim (behind e n) as (λ b. behind e n ≡ b → Ahead (start_at (is_lt (slice_cmp nat_cmp n e)) b) at) [
        | None ↦ λ none.
            let before : is_lt (slice_cmp nat_cmp n e) ≡ true = lt_true (slice_cmp nat_cmp n e) (sym (order_beside e n (at.column ∷ at.index) none) ∙ under) in
            rw before (from_first at x xs is)
        | Some left ↦ λ some. behind_ahead left at x xs is (sym (order_behind e n left (at.column ∷ at.index) some) ∙ under)
      ] refl

  pub below_of_ahead : Ahead (start_of e n) at → Below n (cell_name e at.column at.index)
  below_of_ahead ahead =
      elim (behind e n) as (λ b. behind e n ≡ b → Ahead (start_at (is_lt (slice_cmp nat_cmp n e)) b) at → Below n (cell_name e at.column at.index)) [
        | None ↦ λ none. elim (is_lt (slice_cmp nat_cmp n e)) as (λ t. is_lt (slice_cmp nat_cmp n e) ≡ t → Ahead (cond t (Some at_first) None) at → Below n (cell_name e at.column at.index)) [
          | true ↦ λ less _. order_beside e n (at.column ∷ at.index) none ∙ true_lt (slice_cmp nat_cmp n e) less
          | false ↦ λ _ no_way. absurd no_way
        ] refl
        | Some left ↦ λ some follows. order_behind e n left (at.column ∷ at.index) some ∙ ahead_behind left at follows
      ] refl ahead

-- the order of the cells of a table
follows_of_below : (e : List ℕ) (a b : Instance) → Below (cell_name e a.column a.index) (cell_name e b.column b.index) → Follows a b
follows_of_below e a b under =
    then_less a.column b.column (slice_cmp nat_cmp a.index b.index)
    (sym (order_behind e (cell_name e a.column a.index) (a.column ∷ a.index) (b.column ∷ b.index) (behind_front e (a.column ∷ a.index))) ∙ under)

module _ (e columns : List ℕ) (is_row : List ℕ → Bool) where
  -- the name of a cell, and only that, is one
  pub present_name : (at : Instance) → is_present columns is_row at ≡ true → is_cell_name e columns is_row (cell_name e at.column at.index) ≡ true
  present_name at present =
      rw (behind_front e (at.column ∷ at.index)) (there (is_one_of columns at.column) present)
    where
      there : (b : Bool) → (b && is_row at.index) ≡ true → is_of_row is_row (cond b (Some (record { column = at.column; index = at.index })) None) ≡ true
      there true h = h
      there false h = h

  pub record IsNamed (n : List ℕ) : Type 0 where
    pub at : Instance
    pub name : n ≡ cell_name e at.column at.index
    pub present : is_present columns is_row at ≡ true

  pub named_cell : (n : List ℕ) → is_cell_name e columns is_row n ≡ true → IsNamed n
  named_cell n h =
      elim (behind e n) as (λ b. behind e n ≡ b → is_of_row is_row (instance_left columns b) ≡ true → IsNamed n) [
        | None ↦ λ _ k. absurd (cc)
        | Some left ↦ λ some k. of_left left some k
      ] refl h
    where
      of_left : (left : List ℕ) → behind e n ≡ Some left → is_of_row is_row (instance_left columns (Some left)) ≡ true → IsNamed n
      of_left [] some k = absurd (cc)
      of_left (column ∷ index) some k = elim (is_one_of columns column) as (λ t. is_one_of columns column ≡ t → is_of_row is_row (cond t (Some (record { column = column; index = index })) None) ≡ true → IsNamed n) [
        | true ↦ λ in_list row. record { at = record { column = column; index = index }; name = behind_is e n (column ∷ index) some; present = rw in_list row }
        | false ↦ λ _ no_way. absurd (cc)
      ] refl k

  no_index : (at : Instance) → is_row [] ≡ false → is_present columns is_row at ≡ true → at.index ≡ [] → ⊥
  no_index at empty present none =
      let row : is_row at.index ≡ true = (both_true (is_one_of columns at.column) (is_row at.index) present).1 in
      cc

  module _ (empty : is_row [] ≡ false) (n : List ℕ) where
    ahead_named : (m : List ℕ) (is : IsNamed m) → Below n m → Ahead (start_of e n) is.at
    ahead_named m is under = by_index is.at.index refl
      where
        by_index : (index : List ℕ) → is.at.index ≡ index → Ahead (start_of e n) is.at
        by_index [] none = absurd (no_index is.at empty is.present none)
        by_index (x ∷ xs) some = ahead_of_below e n is.at x xs some (rw (← is.name) under)

    -- a name above all cells of the table has no next one
    pub none_from_nothing : start_of e n ≡ None → IsLeastAbove (is_cell_name e columns is_row) n None
    none_from_nothing nothing m above = unless_true (is_cell_name e columns is_row m) (λ named.
        let is = named_cell m named in
        let P : Option Instance → Type 0 = λ s. Ahead s is.at in
        subst P nothing (ahead_named m is above))

    module _ (start : Instance) (begins : start_of e n ≡ Some start) where
      from_start : (m : List ℕ) (is : IsNamed m) → Below n m → Follows start is.at
      from_start m is above =
          let P : Option Instance → Type 0 = λ s. Ahead s is.at in
          subst P begins (ahead_named m is above)

      -- no cell is behind the start
      pub none_from_start : IsNextInstance columns is_row start None → IsLeastAbove (is_cell_name e columns is_row) n None
      none_from_start none m above = unless_true (is_cell_name e columns is_row m) (λ named.
          let is = named_cell m named in
          let gone = none is.at (from_start m is above) in
          let present = is.present in
          cc)

      -- the first cell behind the start has the least name
      pub least_from_start : (found : Instance) → IsNextInstance columns is_row start (Some found) → IsLeastAbove (is_cell_name e columns is_row) n (Some (cell_name e found.column found.index))
      least_from_start found next =
          let P : Option Instance → Type 0 = λ s. Ahead s found in (
            below_of_ahead e n found (subst P (sym begins) next.0),
            present_name found next.1,
            λ m above under. unless_true (is_cell_name e columns is_row m) (λ named.
                let is = named_cell m named in
                let nearer : Follows is.at found = follows_of_below e is.at found (rw (← is.name) under) in
                let gone = next.2 is.at (from_start m is above) nearer in
                let present = is.present in
                cc),
          )

-- what the places of a name tell
pub drop_none : (n : List ℕ) (k : ℕ) → None ≡ slice_get n k → drop k n ≡ []
drop_none [] zero h = refl
drop_none [] (suc k) h = refl
drop_none (x ∷ n) zero h = absurd (cc)
drop_none (x ∷ n) (suc k) h = drop_none n k h

pub drop_some : (n : List ℕ) (k x : ℕ) → Some x ≡ slice_get n k → drop k n ≡ x ∷ drop (k + 1) n
drop_some [] k x h = absurd (cc)
drop_some (y ∷ n) zero x h = cc
drop_some (y ∷ n) (suc k) x h = drop_some n k x h ∙ ap (λ (i : ℕ). x ∷ drop i (y ∷ n)) (add_one k)
  where
    add_one : (k : ℕ) → suc (k + 1) ≡ suc k + 1
    add_one k = omega arith

pub get_within : (n : List ℕ) (k x : ℕ) → Some x ≡ slice_get n k → k + 1 ≤ length n
get_within n k x h = let under = slice_get_within n k x (sym h) in omega arith

module _ (e columns n : List ℕ) where
  pub instance_beside : false ≡ starts_with nat_eq n e → None ≡ instance_of e columns n
  instance_beside h = sym (ap (instance_left columns) (behind_none e n h))

  module _ (front : true ≡ starts_with nat_eq n e) where
    pub instance_none : None ≡ slice_get n (length e) → None ≡ instance_of e columns n
    instance_none none = sym (ap (instance_left columns) (behind_some e n front ∙ ap Some (drop_none n (length e) none)))

    module _ (column : ℕ) (some : Some column ≡ slice_get n (length e)) where
      left_is : instance_of e columns n ≡ instance_left columns (Some (column ∷ drop (length e + 1) n))
      left_is = ap (instance_left columns) (behind_some e n front ∙ ap Some (drop_some n (length e) column some))

      pub instance_other : false ≡ is_one_of columns column → None ≡ instance_of e columns n
      instance_other other = sym (left_is ∙ rw (← other) refl)

      pub instance_some : true ≡ is_one_of columns column → Some (record { column = column; index = drop (length e + 1) n }) ≡ instance_of e columns n
      instance_some in_list = sym (left_is ∙ rw (← in_list) refl)

-- where the cells above a name begin, by the front of the name and its order
module _ (e n : List ℕ) where
  pub start_front : true ≡ starts_with nat_eq n e → Some (start_behind (drop (length e) n)) ≡ start_of e n
  start_front front = sym (ap (start_at (is_lt (slice_cmp nat_cmp n e))) (behind_some e n front))

  module _ (beside : false ≡ starts_with nat_eq n e) where
    pub start_before : Less ≡ slice_cmp nat_cmp n e → Some at_first ≡ start_of e n
    start_before less = sym (rw (behind_none e n beside, ← less) refl)

    pub start_past : (o : Ordering) → o ≡ slice_cmp nat_cmp n e → (o ≡ Less → ⊥) → None ≡ start_of e n
    start_past o is not_less = sym (rw (behind_none e n beside, ← is) (past o not_less))
      where
        past : (o : Ordering) → (o ≡ Less → ⊥) → cond (is_lt o) (Some at_first) None ≡ None
        past Less not_less = absurd (not_less refl)
        past Equal not_less = refl
        past Greater not_less = refl
