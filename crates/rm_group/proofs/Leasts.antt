-- Cells that begin at a name, and the next one of two lots of cells.
use Rattle.std.proofs.Common.{◌≡◌, ℕ, List, [], ◌∷◌, refl, sym, ◌∙◌, subst, true, false, cond, Option, Some, None, option_map, nat_eq, nat_lt, arith}
use Rattle.std.specs.Prelude.{is_some}
use Rattle.std.specs.Option.{option_or}
use Rattle.std.specs.Ordering.{nat_cmp, ordering_then, is_lt}
use Rattle.std.specs.declared.cmp.Ordering.TheVariants.{Less, Equal, Greater}
use Rattle.std.specs.Cmp.Lexicographic.{slice_cmp}
use Rattle.std.proofs.lemmas.Bool.Decides.{nat_tests}
use Rattle.std.proofs.lemmas.Cmp.{nat_list_cmp_total}
use Rattle.std.proofs.lemmas.Map.Lookups.{exact_bytes}
use Rattle.rm_val.specs.Val.{Val}
use Rattle.rm_model.specs.Names.{Below}
use Rattle.rm_model.specs.Cells.{Cells, has_cell, IsNext, Table, cells_of, behind}
use Rattle.rm_model.proofs.Next.{below_of_greater}
use Rattle.rm_group.specs.Least.{AreFrom}

-- what is below a name that is below another is below that one
pub below_further : (x y z : List ℕ) → Below x y → Below y z → Below x z
below_further x y z one other = nat_list_cmp_total.trans x y z one other

-- what a test of the order tells
pub is_below : (x y : List ℕ) → is_lt (slice_cmp nat_cmp x y) ≡ true → Below x y
is_below x y =
    elim (slice_cmp nat_cmp x y) as (λ o. is_lt o ≡ true → o ≡ Less) [
      | Less ↦ λ _. refl
      | Equal ↦ λ no. absurd (cc)
      | Greater ↦ λ no. absurd (cc)
    ]

none_of_both : {A : Type 0} (a b : Option A) → is_some a ≡ false → is_some b ≡ false → is_some (option_or a b) ≡ false
none_of_both None b none_first none_second = none_second
none_of_both (Some x) b none_first none_second = absurd (cc)

second_of_none : {A : Type 0} (a b : Option A) → is_some a ≡ false → option_or a b ≡ b
second_of_none None b none = refl
second_of_none (Some x) b none = absurd (cc)

module _ (cells others : Cells) where
  abbrev pub both : Cells
  both name = option_or (cells name) (others name)

  neither : (name : List ℕ) → has_cell cells name ≡ false → has_cell others name ≡ false → has_cell both name ≡ false
  neither name none_first none_second = none_of_both (cells name) (others name) none_first none_second

  -- two lots of cells begin where both do
  pub both_from : (least : List ℕ) → AreFrom least cells → AreFrom least others → AreFrom least both
  both_from least first second name under = neither name (first name under) (second name under)

  -- they begin at the lesser of the names at which they begin
  pub from_lesser : (least other : List ℕ) → AreFrom least cells → AreFrom other others → AreFrom (cond (is_lt (slice_cmp nat_cmp other least)) other least) both
  from_lesser least other first second =
      elim (slice_cmp nat_cmp other least) as (λ o. slice_cmp nat_cmp other least ≡ o → AreFrom (cond (is_lt o) other least) both) [
        | Less ↦ λ less name under. neither name (first name (below_further name other least under less)) (second name under)
        | Equal ↦ λ same name under. neither name (first name under) (second name (up_to name (λ less. absurd (cc)) under))
        | Greater ↦ λ more name under. neither name (first name under) (second name (up_to name (λ less. absurd (cc)) under))
      ] refl
    where
      up_to : (name : List ℕ) → (slice_cmp nat_cmp other least ≡ Less → ⊥) → Below name least → Below name other
      up_to name not_less under =
          elim (slice_cmp nat_cmp name other) as (λ o. slice_cmp nat_cmp name other ≡ o → Below name other) [
            | Less ↦ λ e. e
            | Equal ↦ λ e. absurd (not_less (subst (λ n. Below n least) (exact_bytes name other e) under))
            | Greater ↦ λ e. absurd (not_less (below_further other name least (below_of_greater name other e) under))
          ] refl

  -- the next one of both is that of one of them, where the other one begins behind the name that was found
  pub first_before : (asked found least : List ℕ) (value : Val) → IsNext cells asked (Some value) found → Below found least → AreFrom least others → IsNext both asked (Some value) found
  first_before asked found least value next under from =
      ((next.0.0, rw next.1 refl, λ name above before. neither name (next.0.2 name above before) (from name (below_further name found least before under))), rw next.1 refl)

  pub second_before : (asked found least : List ℕ) (value : Val) → IsNext others asked (Some value) found → Below found least → AreFrom least cells → IsNext both asked (Some value) found
  second_before asked found least value next under from =
      let over = second_of_none (cells found) (others found) (from found under) in
      ((next.0.0, rw over next.0.1, λ name above before. neither name (from name (below_further name found least before under)) (next.0.2 name above before)), over ∙ next.1)

-- what a search found is next among both, where it was found below all others
pub found_first : {A : Type 0} (shown : A → Val) (cells others : Cells) (asked found least : List ℕ) (value : Option A) → true ≡ is_some value
    → IsNext cells asked (option_map shown value) found → Below found least → AreFrom least others
    → IsNext (both cells others) asked (option_map shown value) found
found_first shown cells others asked found least None there next under from = absurd (cc)
found_first shown cells others asked found least (Some value) there next under from = first_before cells others asked found least (shown value) next under from

-- cells that begin at a name begin at each one below it
pub from_below : (least other : List ℕ) (cells : Cells) → Below least other → AreFrom other cells → AreFrom least cells
from_below least other cells less from name under = from name (below_further name least other under less)

-- no name below an entry begins with it
not_behind : (entry name : List ℕ) → Below name entry → behind entry name ≡ None
not_behind [] [] under = absurd (cc)
not_behind [] (y ∷ name) under = absurd (cc)
not_behind (x ∷ entry) [] under = refl
not_behind (x ∷ entry) (y ∷ name) under =
    elim (nat_eq x y) as (λ t. nat_eq x y ≡ t → cond t (behind entry name) None ≡ None) [
      | true ↦ λ same.
          let not_less : nat_lt y x ≡ false = grind (arith, nat_tests) in
          let equal : nat_eq y x ≡ true = grind (arith, nat_tests) in
          let rest : ordering_then (nat_cmp y x) (slice_cmp nat_cmp name entry) ≡ slice_cmp nat_cmp name entry = rw (not_less, equal) refl in
          not_behind entry name (sym rest ∙ under)
      | false ↦ λ _. refl
    ] refl

-- the cells of a table begin at its entry
pub table_from : (table : Table) → AreFrom table.entry (cells_of table)
table_from table name under = rw (not_behind table.entry name under) refl
