-- Keys that are those of rows, each reversed.
use Rattle.std.proofs.Common.{◌≡◌, ℕ, List, [], ◌∷◌, Bool, true, false, Contains, map, find, option_map, refl, sym, ap, ◌∙◌, inl, inr}
use Rattle.std.specs.List.{list_any}
use Rattle.std.specs.Str.{bytes_eq}
use Rattle.std.proofs.lemmas.Bool.{cases_Bool}
use Rattle.std.proofs.lemmas.Map.Views.{Contains-from_any}
use Rattle.rm_model.proofs.Members.{none_in, each}
use Rattle.rm_evicting.specs.Held.{IsExact, held_keys}
use Rattle.rm_evicting.specs.Mention.{Mention, keys}
use Rattle.rm_evicting.specs.declared.Row.{Row}
use Rattle.rm_evicting.specs.Stands.{IsTotal, Stands}
use Rattle.rm_evicting.proofs.RankLemmas.{members}
use Rattle.rm_order.specs.Order.{AreReversed}
use Rattle.rm_order.proofs.ReversedLemmas.{alike_of, any-of}
use Rattle.rm_rows.specs.Table.{keys_of}
use Rattle.rm_keyed.specs.Held.{key_of_index}
use Rattle.rm_keyed.specs.Indexes.{key_with}
use Rattle.rm_keyed.specs.Reversed.{AreFoundReversed}
use Rattle.rm_keyed.proofs.Found.{found_mapped, found_same, index_one}

same_tests : (a b : Bool) → (a ≡ true → b ≡ true) → (b ≡ true → a ≡ true) → a ≡ b
same_tests true b to from = sym (to refl)
same_tests false true to from = from refl
same_tests false false to from = refl

module _ {K : Type 0} (eq : K → K → Bool) (exact : IsExact eq) where
  -- a test finds a key that is there
  any_there : (key : K) (some : List K) → Contains some key → list_any (eq key) some ≡ true
  any_there key [] within = absurd (none_in key within)
  any_there key (first ∷ some) within =
      each (λ k. list_any (eq k) (first ∷ some) ≡ true) first some (rw (exact.itself first) refl)
      (λ k more. elim (cases_Bool (eq k first)) [ inl e ↦ rw e refl | inr e ↦ rw (e, any_there k some more) refl ]) key within

  there_any : (key : K) (some : List K) → list_any (eq key) some ≡ true → Contains some key
  there_any key some found = Contains-from_any exact.same key some found

  module _ (to : K → K) (ordered keys : List K) where
    -- what tests find are the members
    pub members_reversed : AreFoundReversed eq to ordered keys → AreReversed to ordered keys
    members_reversed alike = λ key. (
      (λ within. there_any (to key) keys (sym (alike key) ∙ any_there key ordered within)),
      (λ within. there_any key ordered (alike key ∙ any_there (to key) keys within)),
    )

    pub found_reversed : AreReversed to ordered keys → AreFoundReversed eq to ordered keys
    found_reversed reversed = λ key. same_tests (list_any (eq key) ordered) (list_any (eq (to key)) keys)
        (λ found. any_there (to key) keys ((reversed key).0 (there_any key ordered found)))
        (λ found. any_there key ordered ((reversed key).1 (there_any (to key) keys found)))

  module _ (to : K → K) (twice : (key : K) → to (to key) ≡ key) where
    -- The key by whose reversed one some numbers stand is that of the held ones.
    module _ {C V : Type 0} (index : K → List ℕ) (apart : (one other : K) → index (to one) ≡ index (to other) → one ≡ other) (numbers : List ℕ)
        (blank : V) (plus : V → C → V) (capacity : ℕ) (mentions : List (Mention K C)) (rows : List (Row K V)) (stands : Stands eq (IsTotal blank plus) capacity mentions rows)
        (ordered : List K) (alike : AreFoundReversed eq to ordered (keys_of rows)) where
      listed : (key : K) → list_any (eq key) (map to ordered) ≡ list_any (eq key) (held_keys eq capacity (keys mentions))
      listed key =
          ap (λ k. list_any (eq k) (map to ordered)) (sym (twice key))
          ∙ any-of eq to (alike_of eq exact to twice) (to key) ordered
          ∙ alike (to key)
          ∙ ap (λ k. list_any (eq k) (keys_of rows)) (twice key)
          ∙ sym (members eq exact (IsTotal blank plus) capacity mentions rows stands key)

      pub reversed_held : option_map to (key_with index ordered numbers) ≡ key_of_index eq capacity mentions (λ key. index (to key)) numbers
      reversed_held =
          ap (λ (test : K → Bool). option_map to (find test ordered)) (λ d key. bytes_eq (index (sym (twice key) d)) numbers)
          ∙ found_mapped to (λ key. bytes_eq (index (to key)) numbers) ordered
          ∙ found_same eq exact (λ key. bytes_eq (index (to key)) numbers) (index_one (λ key. index (to key)) apart numbers) (map to ordered) (held_keys eq capacity (keys mentions)) listed
