-- What is shown first, and what is next.
use Rattle.std.proofs.Common.{◌≡◌, ℕ, List, Option, Some, None, ap, subst, ◌∙◌}
use Rattle.std.specs.Prelude.{IfNone}
use Rattle.std.specs.Option.{option_or}
use Rattle.rm_val.specs.Val.{Val}

-- a cell that is found among the first, and one that is looked for among the others
pub shown_first : (first second : Option Val) (value : Val) → Some value ≡ first → Some value ≡ option_or first second
shown_first first second value is = ap (λ (shown : Option Val). option_or shown second) is

pub shown_second : (first second found : Option Val) → None ≡ first → found ≡ second → found ≡ option_or first second
shown_second first second found none is = is ∙ ap (λ (shown : Option Val). option_or shown second) none

-- a name that stays where each of two searches finds nothing
pub name_stays : {A : Type 0} (result first second : Option A) (old between new : List ℕ)
    → IfNone result ((first ≡ None) × (second ≡ None)) → IfNone result (new ≡ between) → IfNone first (between ≡ old) → IfNone result (new ≡ old)
name_stays (Some value) first second old between new neither same kept = tt
name_stays None first second old between new neither same kept = same ∙ subst (λ o. IfNone o (between ≡ old)) neither.0 kept
