-- Calls on a shelf, one after the other.
use Rattle.std.proofs.Common.{◌≡◌, ℕ, List, refl, ◌∙◌, arith}
use Rattle.rm_edge.specs.Outside.{Held}
use Rattle.rm_edge.specs.Shelves.{KeepsShelf}

module _ {F : Type 0} (held : F → List ℕ → Held) (faults : F → List ℕ → ℕ) (old mid new : F) where
  -- some calls, and then others
  pub keeps_then : (P Q R : List ℕ → Type 0) (p q r : Type 0) → KeepsShelf held faults old mid P p → KeepsShelf held faults mid new Q q
      → ((each : List ℕ) → P each → R each) → ((each : List ℕ) → Q each → R each) → (p → r) → (q → r) → KeepsShelf held faults old new R r
  keeps_then P Q R p q r first second reads more fails also = record {
    constant = λ each. second.constant each ∙ first.constant each;
    later = λ each. omega (arith, first.later each, second.later each);
    quiet = λ none each. second.quiet (λ failed. none (also failed)) each ∙ first.quiet (λ failed. none (fails failed)) each;
    apart = λ each bytes other is. second.apart each bytes (λ read. other (more each read)) (first.constant each ∙ is) ∙ first.apart each bytes (λ read. other (reads each read)) is;
  }

  -- calls of which none failed, and then others
  pub quiet_then : (P R : List ℕ → Type 0) (p r : Type 0) → ((each : List ℕ) → held mid each ≡ held old each) → ((each : List ℕ) → faults mid each ≡ faults old each)
      → KeepsShelf held faults mid new P p → ((each : List ℕ) → P each → R each) → (p → r) → KeepsShelf held faults old new R r
  quiet_then P R p r same quiet second reads fails = record {
    constant = λ each. second.constant each ∙ same each;
    later = λ each. omega (arith, quiet each, second.later each);
    quiet = λ none each. second.quiet (λ failed. none (fails failed)) each ∙ quiet each;
    apart = λ each bytes other is. second.apart each bytes (λ read. other (reads each read)) (same each ∙ is) ∙ quiet each;
  }

module _ {F : Type 0} (held : F → List ℕ → Held) (faults : F → List ℕ → ℕ) where
  -- no call
  pub keeps_all : (shelf : F) (R : List ℕ → Type 0) (r : Type 0) → KeepsShelf held faults shelf shelf R r
  keeps_all shelf R r = record { constant = λ each. refl; later = λ each. omega arith; quiet = λ none each. refl; apart = λ each bytes other is. refl }

  -- the same calls, of which less is said
  pub keeps_more : (old new : F) (P R : List ℕ → Type 0) (p r : Type 0) → KeepsShelf held faults old new P p → ((each : List ℕ) → P each → R each) → (p → r) → KeepsShelf held faults old new R r
  keeps_more old new P R p r = quiet_then held faults old old new P R p r (λ each. refl) (λ each. refl)
