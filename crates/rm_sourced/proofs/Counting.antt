-- What is counted of a key by the rows that are kept is what the mentions of the key add up to.
use Rattle.std.proofs.Common.{◌≡◌, ℕ, ◌+◌, ◌%◌, ◌^◌, Bool, true, cond, List, Some, None, ◌∙◌, ap}
use Rattle.std.specs.Prelude.{sum_by}
use Rattle.std.specs.Option.{option_map_or}
use Rattle.rm_evicting.specs.declared.Row.{Row}
use Rattle.rm_evicting.specs.Mention.{Mention, keys}
use Rattle.rm_evicting.specs.Held.{IsExact, held, shares}
use Rattle.rm_evicting.specs.Stands.{IsTotal, Stands, total}
use Rattle.rm_keyed.proofs.HeldRows.{value_here}
use Rattle.rm_keyed.proofs.Sums.{column_shown}
use Rattle.rm_sourced.specs.Counters.{kept_count}

module _ {K V : Type 0} (eq : K → K → Bool) (exact : IsExact eq) (blank : V) (plus : V → V → V) (count : V → ℕ)
    (nothing : count blank ≡ 0) (more : (counts gain : V) → count (plus counts gain) ≡ (count counts + count gain) % 2 ^ 64) where
  -- the key is held, and there is room for so many rows
  pub count_is : (capacity : ℕ) (mentions : List (Mention K V)) (rows : List (Row K V)) → Stands eq (IsTotal blank plus) capacity mentions rows
      → (key : K) → held eq capacity key (keys mentions) ≡ true → (room : ℕ) → capacity ≡ room
      → kept_count eq count rows key % 2 ^ 32 ≡ sum_by count (shares eq room key mentions) % 2 ^ 32
  count_is capacity mentions rows stands key comes room same =
      ap (λ o. option_map_or count o 0 % 2 ^ 32) (value_here eq exact blank plus capacity mentions rows stands key)
      ∙ ap (λ t. option_map_or count (cond t (Some (total blank plus (shares eq capacity key mentions))) None) 0 % 2 ^ 32) comes
      ∙ column_shown blank plus count count nothing more (shares eq capacity key mentions)
      ∙ ap (λ r. sum_by count (shares eq r key mentions) % 2 ^ 32) same
