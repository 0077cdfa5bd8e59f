-- How many slots have a protocol.
use Rattle.std.proofs.Common.{◌≡◌, ℕ, ◌+◌, ◌<◌, List, length, get_or, set, cond, Option, Some, None, is_some, option_map, refl, sym, ap, arith, length-set}
use Rattle.std.specs.List.{count_by}
use Rattle.std.proofs.lemmas.List.Sums.{count_by-le-length, sum_by-set}
use Rattle.rm_path.specs.declared.protocol.Protocol.{Protocol}

module _ (slots : List (Option Protocol)) (slot : ℕ) (new : Protocol) (within : slot < length slots) (empty : get_or slots slot None ≡ None) where
  -- one more, where an empty one is filled
  pub count_filled : count_by is_some (set slots slot (Some new)) ≡ count_by is_some slots + 1
  count_filled =
      let f : Option Protocol → ℕ = λ held. cond (is_some held) 1 0 in
      let both = sum_by-set f slots slot (Some new) None within in
      let nothing : f (get_or slots slot None) ≡ 0 = ap f empty in
      omega (arith, both, nothing)

  -- not all, where one is empty
  pub count_below_length : count_by is_some slots < length slots
  count_below_length =
      let most = count_by-le-length is_some (set slots slot (Some new)) in
      let same = length-set slots slot (Some new) in
      omega (arith, count_filled, most, same)

-- one less, where a filled one is emptied
pub count_emptied : (slots : List (Option Protocol)) (slot : ℕ) (old : Protocol) → slot < length slots → get_or slots slot None ≡ Some old → count_by is_some (set slots slot None) + 1 ≡ count_by is_some slots
count_emptied slots slot old within held =
    let f : Option Protocol → ℕ = λ one. cond (is_some one) 1 0 in
    let both = sum_by-set f slots slot None None within in
    let something : f (get_or slots slot None) ≡ 1 = ap f held in
    omega (arith, both, something)

-- as many, where one is given what is there as before
pub count_same : (slots : List (Option Protocol)) (slot : ℕ) (new : Option Protocol) → slot < length slots
    → option_map (λ protocol. protocol.identifier) (get_or slots slot None) ≡ option_map (λ protocol. protocol.identifier) new → count_by is_some (set slots slot new) ≡ count_by is_some slots
count_same slots slot new within same =
    let f : Option Protocol → ℕ = λ one. cond (is_some one) 1 0 in
    let both = sum_by-set f slots slot new None within in
    let alike : f new ≡ f (get_or slots slot None) = as_mapped new (get_or slots slot None) (sym same) in
    omega (arith, both, alike)
  where
    as_mapped : (one other : Option Protocol) → option_map (λ protocol. protocol.identifier) one ≡ option_map (λ protocol. protocol.identifier) other → ◌≡◌ {A = ℕ} (cond (is_some one) 1 0) (cond (is_some other) 1 0)
    as_mapped None None same = refl
    as_mapped None (Some other) same = absurd (cc)
    as_mapped (Some one) None same = absurd (cc)
    as_mapped (Some one) (Some other) same = refl
