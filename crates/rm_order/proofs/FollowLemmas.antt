-- Reversed keys that follow those of a table.
use Rattle.std.proofs.Common.{◌≡◌, ◌↔◌, ◌⊎◌, ◌≤◌, Bool, true, false, not, List, [], ◌∷◌, ◌++◌, map, length, Contains, refl, sym, ap, ◌∙◌, subst, true≢false, inl, inr}
use Rattle.std.specs.List.{list_any, AllByRecursion, IsDistinct}
use Rattle.std.specs.declared.cmp.Ordering.{Ordering}
use Rattle.std.specs.declared.cmp.Ordering.TheVariants.{Less}
use Rattle.std.specs.Cmp.{IsTotalOrder, IsEquivalence}
use Rattle.std.proofs.lemmas.Bool.{cases_Bool, and_parts}
use Rattle.std.proofs.lemmas.List.{length-map}
use Rattle.std.proofs.lemmas.List.Elements.{Contains-append_left, Contains-push, Contains-push_cases}
use Rattle.std.proofs.lemmas.Map.Made.{length-le_from_is_member}
use Rattle.std.proofs.lemmas.Map.Views.{Contains-from_any, list_any-from_Contains}
use Rattle.rm_evicting.specs.Held.{IsExact, without}
use Rattle.rm_evicting.proofs.Recency.{any-without}
use Rattle.rm_rows.specs.Stored.{In}
use Rattle.rm_rows.proofs.Steps.{irreflexive}
use Rattle.rm_order.specs.Order.{AreRising, AreReversed}
use Rattle.rm_order.proofs.PlaceLemmas.{contains_in, in_contains}

in_map : {X Y : Type 0} (f : X → Y) (xs : List X) (x : X) → In x xs → In (f x) (map f xs)
in_map f [] x h = absurd h
in_map f (y ∷ xs) x h = elim h [ inl e ↦ inl (ap f e) | inr k ↦ inr (in_map f xs x k) ]

module _ {K : Type 0} (eq : K → K → Bool) (laws : IsEquivalence eq) (exact : IsExact eq) where
  -- the keys without one
  without_keys : (gone key : K) (keys : List K) → Contains (without eq gone keys) key ↔ (Contains keys key × (¬ (key ≡ gone)))
  without_keys gone key keys = (
    (λ h.
        let on = and_parts (list_any (eq key) keys) (not (eq key gone)) (sym (any-without eq exact key gone keys) ∙ list_any-from_Contains laws key (without eq gone keys) h) in (
          Contains-from_any exact.same key keys on.0,
          (λ same. true≢false (sym on.1 ∙ ap not (ap (eq key) (sym same) ∙ exact.itself key))),
        )),
    (λ h. Contains-from_any exact.same key (without eq gone keys) (any-without eq exact key gone keys ∙ elim (cases_Bool (eq key gone)) [
      | inl e ↦ absurd (h.1 (exact.same key gone e))
      | inr e ↦ rw (e, list_any-from_Contains laws key keys h.0) refl
    ])),
  )

  rising_distinct : (cmp : K → K → Ordering) → IsTotalOrder cmp → (keys : List K) → AreRising cmp keys → IsDistinct eq keys
  unfolding IsDistinct
  rising_distinct cmp order [] h = tt
  rising_distinct cmp order (key ∷ keys) h = (apart keys h.0, rising_distinct cmp order keys h.1)
    where
      apart : (others : List K) → AllByRecursion (λ other. cmp key other ≡ Less) others → AllByRecursion (λ other. eq key other ≡ false) others
      apart [] a = tt
      apart (other ∷ others) a = (
        elim (cases_Bool (eq key other)) [
          | inl e ↦ absurd (irreflexive cmp order other (subst (λ k. cmp k other ≡ Less) (exact.same key other e) a.0))
          | inr e ↦ e
        ],
        apart others a.1,
      )

  module _ (to : K → K) (twice : (key : K) → to (to key) ≡ key) (ordered keys : List K) (reversed : AreReversed to ordered keys) where
    pub absent : (key : K) → ¬ (Contains keys key) → ¬ (Contains ordered (to key))
    absent key off h = off (subst (Contains keys) (twice key) ((reversed (to key)).0 h))

    pub held : (key : K) → Contains keys key → Contains ordered (to key)
    held key h = (reversed (to key)).1 (subst (Contains keys) (sym (twice key)) h)

    -- there are no more of them than keys
    pub no_more : (cmp : K → K → Ordering) → IsTotalOrder cmp → AreRising cmp ordered → length ordered ≤ length keys
    no_more cmp order rising =
        subst (λ n. length ordered ≤ n) (length-map keys to)
        (length-le_from_is_member laws ordered (map to keys) (rising_distinct cmp order ordered rising) (λ q h.
        let member = in_contains keys (to q) ((reversed q).0 (Contains-from_any exact.same q ordered h)) in
        list_any-from_Contains laws q (map to keys) (contains_in (map to keys) q (subst (λ k. In k (map to keys)) (twice q) (in_map to keys (to q) member)))))

    -- a key came in
    pub came : (key : K) (new after : List K) → ((k : K) → Contains new k ↔ (Contains ordered k ⊎ (k ≡ to key))) → after ≡ keys ++ key ∷ [] → AreReversed to new after
    came key new after with_key is k = (
      (λ h. subst (λ l. Contains l (to k)) (sym is) (elim ((with_key k).0 h) [
        | inl there ↦ Contains-append_left keys (key ∷ []) (to k) ((reversed k).0 there)
        | inr same ↦ subst (Contains (keys ++ key ∷ [])) (sym (ap to same ∙ twice key)) (Contains-push keys key)
      ])),
      (λ h. (with_key k).1 (elim (Contains-push_cases keys key (to k) (subst (λ l. Contains l (to k)) is h)) [
        | inl there ↦ inl ((reversed k).1 there)
        | inr same ↦ inr (sym (twice k) ∙ ap to (sym same))
      ])),
    )

    -- a key came in, and another one went
    pub gave_way : (gone key : K) (new after : List K) → ((k : K) → Contains new k ↔ ((Contains ordered k × (¬ (k ≡ to gone))) ⊎ (k ≡ to key))) → after ≡ without eq gone keys ++ key ∷ [] → AreReversed to new after
    gave_way gone key new after changed is k = (
      (λ h. subst (λ l. Contains l (to k)) (sym is) (elim ((changed k).0 h) [
        | inl there ↦ Contains-append_left (without eq gone keys) (key ∷ []) (to k) ((without_keys gone (to k) keys).1 ((reversed k).0 there.0, λ same. there.1 (sym (twice k) ∙ ap to same)))
        | inr same ↦ subst (Contains (without eq gone keys ++ key ∷ [])) (sym (ap to same ∙ twice key)) (Contains-push (without eq gone keys) key)
      ])),
      (λ h. (changed k).1 (elim (Contains-push_cases (without eq gone keys) key (to k) (subst (λ l. Contains l (to k)) is h)) [
        | inl there ↦ let on = (without_keys gone (to k) keys).0 there in inl ((reversed k).1 on.0, λ same. on.1 (ap to same ∙ twice gone))
        | inr same ↦ inr (sym (twice k) ∙ ap to (sym same))
      ])),
    )
