-- The least name above another.
use Rattle.std.proofs.Common.{◌≡◌, ℕ, List, refl, sym, ◌∙◌, ap, subst, Bool, false, Option, Some, None}
use Rattle.std.specs.Prelude.{is_some, IsTrue}
use Rattle.std.specs.Ordering.{nat_cmp, ordering_reverse}
use Rattle.std.specs.declared.cmp.Ordering.TheVariants.{Less, Equal, Greater}
use Rattle.std.specs.Cmp.Lexicographic.{slice_cmp}
use Rattle.std.proofs.lemmas.Map.Lookups.{exact_bytes}
use Rattle.rm_val.specs.Val.{Val}
use Rattle.rm_model.specs.Names.{Below, IsLeastAbove}
use Rattle.rm_model.specs.Cells.{Cells, has_cell, IsNext}
use Rattle.std.proofs.lemmas.Cmp.{nat_list_cmp_total}

pub below_of_greater : (x y : List ℕ) → slice_cmp nat_cmp x y ≡ Greater → Below y x
below_of_greater x y e = nat_list_cmp_total.antisymm y x ∙ ap ordering_reverse e

-- two names, neither of which can be below the other
same_of_neither : (x y : List ℕ) → (Below x y → ⊥) → (Below y x → ⊥) → x ≡ y
same_of_neither x y p q =
    elim (slice_cmp nat_cmp x y) as (λ r. slice_cmp nat_cmp x y ≡ r → x ≡ y) [
      | Less ↦ λ e. absurd (p e)
      | Equal ↦ λ e. exact_bytes x y e
      | Greater ↦ λ e. absurd (q (below_of_greater x y e))
    ] refl

contradicts : (b : Bool) → IsTrue b → b ≡ false → ⊥
contradicts b holds fails = cc

-- there is one least name at most
pub least_same : (test : List ℕ → Bool) (asked : List ℕ) (a b : Option (List ℕ)) → IsLeastAbove test asked a → IsLeastAbove test asked b → a ≡ b
least_same test asked None None p q = refl
least_same test asked None (Some y) p q = absurd (contradicts (test y) q.1 (p y q.0))
least_same test asked (Some x) None p q = absurd (contradicts (test x) p.1 (q x p.0))
least_same test asked (Some x) (Some y) p q =
    ap Some (same_of_neither x y (λ under. contradicts (test x) p.1 (q.2 x p.0 under)) (λ under. contradicts (test y) q.1 (p.2 y q.0 under)))

-- GetNext has one answer
pub next_same : (cells : Cells) (asked : List ℕ) (a b : Option Val) (x y : List ℕ) → IsNext cells asked a x → IsNext cells asked b y → (a ≡ b) × (IsTrue (is_some a) → x ≡ y)
next_same cells asked None None x y p q = (refl, λ no. absurd (contradicts false no refl))
next_same cells asked None (Some w) x y p q = absurd (contradicts (has_cell cells y) q.0.1 (p y q.0.0))
next_same cells asked (Some v) None x y p q = absurd (contradicts (has_cell cells x) p.0.1 (q x p.0.0))
next_same cells asked (Some v) (Some w) x y p q =
    let names : Some x ≡ Some y = least_same (has_cell cells) asked (Some x) (Some y) p.0 q.0 in
    let same : x ≡ y = cc in
    (sym p.1 ∙ ap cells same ∙ q.1, λ _. same)

-- the least name that passes a test, where the cells are at the names that pass it
pub next_found : (cells : Cells) (test : List ℕ → Bool) (asked found : List ℕ) (value : Option Val) → IsLeastAbove test asked (Some found) → ((name : List ℕ) → has_cell cells name ≡ test name) → value ≡ cells found → IsNext cells asked value found
next_found cells test asked found value p same is =
    elim (cells found) as (λ o. cells found ≡ o → value ≡ o → IsNext cells asked value found) [
      | None ↦ λ none _. absurd (contradicts (test found) p.1 (sym (same found) ∙ ap is_some none))
      | Some v ↦ λ some e. subst (λ (x : Option Val). IsNext cells asked x found) (sym e)
          ((p.0, same found ∙ p.1, λ name above under. same name ∙ p.2 name above under), some)
    ] refl is

pub next_none : (cells : Cells) (test : List ℕ → Bool) (asked found : List ℕ) → IsLeastAbove test asked None → ((name : List ℕ) → has_cell cells name ≡ test name) → IsNext cells asked None found
next_none cells test asked found p same = λ name above. same name ∙ p name above
