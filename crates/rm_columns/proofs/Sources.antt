-- The interface that a data source names.
use Rattle.std.proofs.Common.{◌≡◌, ℕ, ◌<◌, ◌≤◌, ◌+◌, ◌&&◌, List, Some, refl, sym, ◌∙◌, ap, subst, true, false, nat_eq, nat_lt, arith}
use Rattle.std.specs.Prelude.{IsTrue, ◌↔◌}
use Rattle.std.specs.declared.cmp.Ordering.{Ordering}
use Rattle.std.specs.Ordering.{nat_cmp, is_eq}
use Rattle.std.specs.Cmp.Lexicographic.{slice_cmp}
use Rattle.std.specs.Str.{bytes_eq}
use borrow.Author.Tests.{eqb-true}
use Rattle.std.proofs.lemmas.Map.Text.{is_eq-slice_cmp}
use Rattle.std.proofs.lemmas.Bool.{and_parts}
use Rattle.std.proofs.lemmas.Bool.Decides.{nat_tests}
use Rattle.std.proofs.lemmas.Slice.Eq.{bytes_eq-Decides}
use Rattle.rm_val.specs.Val.{Val, name}
use Rattle.rm_model.specs.Interfaces.{interface_name, is_interface}
use Rattle.rm_model.specs.declared.interface.TheConstants.{INTERFACES}

-- no interface up to a number is the one that these numbers name
pub none_up_to : (numbers : List ℕ) (number : ℕ) (order : Ordering) → ((k : ℕ) → 1 ≤ k → k < number → IsTrue (is_interface (name numbers) k) → ⊥) → order ≡ slice_cmp nat_cmp numbers (interface_name number) → is_eq order ≡ false → (k : ℕ) → 1 ≤ k → k < number + 1 → IsTrue (is_interface (name numbers) k) → ⊥
none_up_to numbers number order earlier compared differs k least under same =
    elim (nat_lt k number) as (λ t. nat_lt k number ≡ t → ⊥) [
      | true ↦ λ before. earlier k least (grind (arith, nat_tests)) same
      | false ↦ λ here.
          let is : k ≡ number = grind (arith, nat_tests) in
          let other : is_interface (name numbers) number ≡ false = sym (is_eq-slice_cmp numbers (interface_name number)) ∙ sym (ap is_eq compared) ∙ differs in
          let too : is_interface (name numbers) number ≡ true = subst (λ (n : ℕ). is_interface (name numbers) n ≡ true) is same in
          cc
    ] refl

-- the interface whose name these numbers are, and no other
named_here : (numbers : List ℕ) (number : ℕ) (order : Ordering) → order ≡ slice_cmp nat_cmp numbers (interface_name number) → is_eq order ≡ true → is_interface (name numbers) number ≡ true
named_here numbers number order compared same = sym (is_eq-slice_cmp numbers (interface_name number)) ∙ sym (ap is_eq compared) ∙ same

named_alone : (numbers : List ℕ) (number k : ℕ) → is_interface (name numbers) number ≡ true → is_interface (name numbers) k ≡ true → number ≡ k
named_alone numbers number k one other =
    let is : numbers ≡ interface_name number = (bytes_eq-Decides numbers (interface_name number)).0 one in
    let both : (nat_eq number k && true) ≡ true = subst (λ (xs : List ℕ). bytes_eq xs (interface_name k) ≡ true) is other in
    eqb-true number k (and_parts (nat_eq number k) true both).0

pub named_first : (value : Val) (numbers : List ℕ) (number : ℕ) (order : Ordering) → value ≡ name numbers → 1 ≤ number → number ≤ INTERFACES
    → order ≡ slice_cmp nat_cmp numbers (interface_name number) → is_eq order ≡ true
    → (k : ℕ) → (Some number ≡ Some k) ↔ (IsTrue (is_interface value k) × (1 ≤ k) × (k ≤ INTERFACES))
named_first value numbers number order is some few compared same k = (to, back)
  where
    here : is_interface value number ≡ true
    here = ap (λ (v : Val). is_interface v number) is ∙ named_here numbers number order compared same

    to : Some number ≡ Some k → IsTrue (is_interface value k) × (1 ≤ k) × (k ≤ INTERFACES)
    to e = let one : number ≡ k = cc in subst (λ (n : ℕ). IsTrue (is_interface value n) × (1 ≤ n) × (n ≤ INTERFACES)) one (here, some, few)

    back : IsTrue (is_interface value k) × (1 ≤ k) × (k ≤ INTERFACES) → Some number ≡ Some k
    back facts =
        ap Some (named_alone numbers number k (named_here numbers number order compared same) (sym (ap (λ (v : Val). is_interface v k) is) ∙ facts.0))
