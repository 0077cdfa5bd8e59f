-- What is known of elements: what stands first in octets is one thing, or nothing stands there.
use Rattle.std.proofs.Common.{◌≡◌, ◌⊎◌, ℕ, List, [], ◌∷◌, ◌++◌, subst}
use Rattle.rm_val.specs.Val.{Val}
use Rattle.rm_ber.specs.Grammar.{StandsFirst, ValueFirst}

abbrev pub OneElement : Type 0
OneElement = (tag other_tag : ℕ) (content other_content rest other_rest bytes : List ℕ) → StandsFirst tag content rest bytes
    → StandsFirst other_tag other_content other_rest bytes → (tag ≡ other_tag) × (content ≡ other_content) × (rest ≡ other_rest)

abbrev pub OneValue : Type 0
OneValue = (v w : Val) (rest other_rest bytes : List ℕ) → ValueFirst v rest bytes → ValueFirst w other_rest bytes → (v ≡ w) × (rest ≡ other_rest)

abbrev pub ElementOrNone : Type 0
ElementOrNone = (bytes : List ℕ) → ((tag : ℕ) × (content rest : List ℕ) × StandsFirst tag content rest bytes)
    ⊎ ((tag : ℕ) (content rest : List ℕ) → StandsFirst tag content rest bytes → ⊥)

abbrev pub ValueOrNone : Type 0
ValueOrNone = (bytes : List ℕ) → ((v : Val) × (rest : List ℕ) × ValueFirst v rest bytes) ⊎ ((v : Val) (rest : List ℕ) → ValueFirst v rest bytes → ⊥)

-- no element stands where no octet is left
pub none_first : (tag : ℕ) (content rest : List ℕ) → StandsFirst tag content rest [] → ⊥
none_first tag content rest first =
    let e : [] ≡ (tag ∷ (first.is_element.count ++ content)) ++ rest = subst (λ (x : List ℕ). [] ≡ x ++ rest) first.is_element.is first.is in cc
