-- What the laws of a key's bounds give.
use Rattle.std.proofs.Common.{◌≡◌, ℕ, Bool, true, refl, sym, ◌∙◌, ◌<◌, List, zero, suc, arith}
use Rattle.std.specs.declared.cmp.Ordering.{Ordering}
use Rattle.std.specs.declared.cmp.Ordering.TheVariants.{Less, Equal, Greater}
use Rattle.std.specs.Ordering.{is_eq}
use Rattle.std.specs.Cmp.{IsEquivalence}
use Rattle.rm_evicting.specs.Mention.{Mention}
use Rattle.rm_evicting.specs.Held.{IsExact, Rising}
use Rattle.rm_evicting.specs.Row.{table}
use Rattle.rm_evicting.specs.Stands.{IsMeaning, Stands}
use Rattle.rm_evicting.proofs.Steps.{stands-table}

module _ {K : Type 0} (eq : K → K → Bool) (cmp : K → K → Ordering) where
  equal : (o : Ordering) → is_eq o ≡ true → o ≡ Equal
  equal Less e = cc
  equal Equal e = refl
  equal Greater e = cc

  -- keys that compare equal are the same, and so are those that == calls equal
  pub exact_key : IsEquivalence eq → ((a b : K) → eq a b ≡ is_eq (cmp a b)) → ((a b : K) → cmp a b ≡ Equal → a ≡ b) → IsExact eq
  exact_key laws matches exact = record {
    itself = laws.refl;
    same = λ j k e. exact j k (equal (cmp j k) (sym (matches j k) ∙ e));
  }

module _ {K C V : Type 0} (eq : K → K → Bool) (exact : IsExact eq) (means : List C → V → Type 0) (blank : V) (add : V → C → V) (sense : IsMeaning means blank add) where
  pub stands_for : (cap : ℕ) (r : List (Mention K C)) → 0 < cap → Rising r → Stands eq means cap r (table eq blank add cap r)
  stands_for zero r some rising = absurd (omega arith)
  stands_for (suc n) r some rising = stands-table eq exact means blank add sense n r rising
