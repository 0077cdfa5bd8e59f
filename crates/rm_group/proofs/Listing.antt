-- Names under the tables that a group lists.
use Rattle.std.proofs.Common.{◌≡◌, ℕ, ◌<◌, ◌≤◌, List, [], ◌∷◌, length, Bool, true, false, cond, ◌||◌, map, None, refl, ap, ◌∙◌, sym, nat_eq, arith}
use Rattle.std.specs.Prelude.{is_some}
use Rattle.std.specs.List.{list_any}
use Rattle.std.proofs.Math.Nat.{lt_of_not-le}
use Rattle.rm_model.specs.Cells.{behind, is_of_column, instance_left}
use Rattle.rm_group.specs.ColumnLemmas.{is_of_column-instance}

-- a test of what elements are mapped to
pub any_map : {X Y : Type 0} (p : X → Bool) (h : Y → X) (ys : List Y) → list_any p (map h ys) ≡ list_any (λ y. p (h y)) ys
any_map p h [] = refl
any_map p h (y ∷ ys) = ap (λ b. p (h y) || b) (any_map p h ys)

behind_longer : (front name : List ℕ) → length name < length front → behind front name ≡ None
behind_longer [] name longer = absurd (omega arith)
behind_longer (x ∷ front) [] longer = refl
behind_longer (x ∷ front) (y ∷ name) longer =
    elim (nat_eq x y) as (λ t. cond t (behind front name) None ≡ None) [ true ↦ behind_longer front name (omega arith) | false ↦ refl ]

-- no name begins with an entry that is longer than names are
pub none_longer : (entry columns name : List ℕ) → length name ≤ 128 → (length entry ≤ 128 → false ≡ true) → false ≡ is_of_column entry columns name
none_longer entry columns name short longer =
    ap (λ left. is_some (instance_left columns left)) (sym (behind_longer entry name less)) ∙ is_of_column-instance entry columns name
  where
    less : length name < length entry
    less = let many = lt_of_not-le (λ few. let no = longer few in cc) in omega arith
