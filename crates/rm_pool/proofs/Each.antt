-- Loops that change each part.
use Rattle.std.proofs.Common.{◌≡◌, ℕ, zero, suc, ◌+◌, ◌<◌, List, [], ◌∷◌, length, true, false, cond, Option, Some, None, find, nat_eq, refl, sym, ap, subst, get_or, slice_set, arith, add-one}
use Rattle.std.specs.Prelude.{is_some}
use Rattle.std.specs.Option.{option_map_or}
use Rattle.rm_pool.specs.declared.slot.Slot.{Slot}
use Rattle.rm_pool.specs.Slots.{is_of, part_seen, part_in, has_part, IsApart, AreApart}
use Rattle.rm_pool.specs.Pools.{Became, Allowed}
use Rattle.rm_pool.specs.Each.{PartBecomes, SlotBecomes, EachBecomes, IsAllowed, AreAllowed}
use Rattle.rm_pool.proofs.Spares.{eq_is, eq_itself, not_there, apart_still}

module _ {P : Type 0} where
  module _ (becomes : Slot P → Slot P → Type 0) where
    -- the first ones have changed
    abbrev pub FirstBecome : ℕ → List (Slot P) → List (Slot P) → Type 0
    FirstBecome zero slots new = new ≡ slots
    FirstBecome (suc k) (slot ∷ slots) (one ∷ more) = becomes slot one × FirstBecome k slots more
    FirstBecome (suc k) [] [] = Unit {0}
    FirstBecome (suc k) [] (one ∷ more) = ⊥
    FirstBecome (suc k) (slot ∷ slots) [] = ⊥

    -- the next one is still what it was
    pub next_is : (k : ℕ) (slots new : List (Slot P)) (d : Slot P) → FirstBecome k slots new → get_or new k d ≡ get_or slots k d
    next_is zero slots new d h = ap (λ l. get_or l 0 d) h
    next_is (suc k) (slot ∷ slots) (one ∷ more) d h = next_is k slots more d h.1
    next_is (suc k) [] [] d h = refl
    next_is (suc k) [] (one ∷ more) d h = absurd h
    next_is (suc k) (slot ∷ slots) [] d h = absurd h

    more_become : (k : ℕ) (slots new : List (Slot P)) (d y : Slot P) → k < length slots → FirstBecome k slots new → becomes (get_or new k d) y → FirstBecome (suc k) slots (slice_set new k y)
    more_become zero (slot ∷ slots) [] d y lt h b = absurd (cc)
    more_become zero (slot ∷ slots) (one ∷ more) d y lt h b =
        let head : one ≡ slot = cc in
        let tail : more ≡ slots = cc in
        (subst (λ r. becomes r y) head b, tail)
    more_become zero [] new d y lt h b = absurd (omega (arith, lt))
    more_become (suc k) [] [] d y lt h b = absurd (omega (arith, lt))
    more_become (suc k) (slot ∷ slots) (one ∷ more) d y lt h b = (h.0, more_become k slots more d y (omega (arith, lt)) h.1 b)
    more_become (suc k) [] (one ∷ more) d y lt h b = absurd h
    more_become (suc k) (slot ∷ slots) [] d y lt h b = absurd h

    pub one_more_becomes : (k : ℕ) (slots new : List (Slot P)) (d y : Slot P) → k < length slots → FirstBecome k slots new → becomes (get_or new k d) y → FirstBecome (k + 1) slots (slice_set new k y)
    one_more_becomes k slots new d y lt h b = subst (λ n. FirstBecome n slots (slice_set new k y)) (sym (add-one k)) (more_become k slots new d y lt h b)

    pub all_become : (slots new : List (Slot P)) → FirstBecome (length slots) slots new → EachBecomes becomes slots new
    all_become [] [] h = tt
    all_become [] (one ∷ more) h = absurd (cc)
    all_become (slot ∷ slots) [] h = absurd h
    all_become (slot ∷ slots) (one ∷ more) h = (h.0, all_become slots more h.1)

    pub each_length : (slots new : List (Slot P)) → EachBecomes becomes slots new → length new ≡ length slots
    each_length [] [] h = refl
    each_length [] (one ∷ more) h = absurd h
    each_length (slot ∷ slots) [] h = absurd h
    each_length (slot ∷ slots) (one ∷ more) h = ap suc (each_length slots more h.1)

  -- what may be changed of all may be of the one at a place
  pub allowed_at : (allows : ℕ → P → Type 0) (slots : List (Slot P)) (k : ℕ) (d : Slot P) → k < length slots → AreAllowed allows slots → IsAllowed allows (get_or slots k d)
  allowed_at allows [] k d lt h = absurd (omega (arith, lt))
  allowed_at allows (slot ∷ slots) zero d lt h = h.0
  allowed_at allows (slot ∷ slots) (suc k) d lt h = allowed_at allows slots k d (omega (arith, lt)) h.1

  -- the part of a row, where the first part is of that one
  abbrev part_behind : Slot P → List (Slot P) → Option ℕ → ℕ → Option P
  part_behind slot slots holder row = part_seen (cond (option_map_or (λ n. nat_eq n row) holder false) (Some slot) (find (is_of row) slots))

  -- each part of a row may be changed where the parts of all rows may
  pub all_allowed : (allows : ℕ → P → Type 0) (slots : List (Slot P)) → AreApart slots → ((row : ℕ) → Allowed (allows row) (part_in slots row)) → AreAllowed allows slots
  all_allowed allows [] apart h = tt
  all_allowed allows (slot ∷ slots) apart h = (first, all_allowed allows slots apart.1 rest)
    where
      first : (row : ℕ) → slot.row ≡ Some row → allows row slot.part
      first row is =
          let at : Allowed (allows row) (part_behind slot slots (Some row) row) = subst (λ (o : Option ℕ). Allowed (allows row) (part_behind slot slots o row)) is (h row) in
          subst (λ t. Allowed (allows row) (part_seen (cond t (Some slot) (find (is_of row) slots)))) (eq_itself row) at

      -- a row that has a part behind the first one has no other
      behind : (holder : Option ℕ) (row : ℕ) → IsApart slots holder → Allowed (allows row) (part_behind slot slots holder row) → Allowed (allows row) (part_in slots row)
      behind None row k a = a
      behind (Some held) row k a = elim (nat_eq held row) as (λ t. nat_eq held row ≡ t → Allowed (allows row) (part_seen (cond t (Some slot) (find (is_of row) slots))) → Allowed (allows row) (part_in slots row)) [
        | true ↦ λ e _. subst (Allowed (allows row)) (sym (not_there (part_in slots row) (subst (λ n. has_part slots n ≡ false) (eq_is held row e) k.1))) tt
        | false ↦ λ _ b. b
      ] refl a

      rest : (row : ℕ) → Allowed (allows row) (part_in slots row)
      rest row = behind slot.row row apart.0 (h row)

  still_there : (makes : P → P → Type 0) (o new : Option P) → Became makes o new → is_some new ≡ is_some o
  still_there makes None None b = refl
  still_there makes None (Some new) b = absurd b
  still_there makes (Some part) None b = absurd b
  still_there makes (Some part) (Some new) b = refl

  module _ (makes : ℕ → P → P → Type 0) where
    pub each_became : (slots new : List (Slot P)) → EachBecomes (SlotBecomes makes) slots new → (row : ℕ) → Became (makes row) (part_in slots row) (part_in new row)
    each_became [] [] h row = tt
    each_became [] (one ∷ more) h row = absurd h
    each_became (slot ∷ slots) [] h row = absurd h
    each_became (slot ∷ slots) (one ∷ more) h row =
        subst (λ (o : Option ℕ). Became (makes row) (part_in (slot ∷ slots) row) (part_seen (cond (option_map_or (λ n. nat_eq n row) o false) (Some one) (find (is_of row) more)))) (sym h.0.0)
        (by_holder (each_became slots more h.1 row) slot.row h.0.1)
      where
        by_holder : Became (makes row) (part_in slots row) (part_in more row) → (holder : Option ℕ) → PartBecomes makes holder slot.part one.part
            → Became (makes row) (part_seen (cond (option_map_or (λ n. nat_eq n row) holder false) (Some slot) (find (is_of row) slots))) (part_seen (cond (option_map_or (λ n. nat_eq n row) holder false) (Some one) (find (is_of row) more)))
        by_holder rest None b = rest
        by_holder rest (Some held) b = elim (nat_eq held row) as (λ t. nat_eq held row ≡ t → Became (makes row) (part_seen (cond t (Some slot) (find (is_of row) slots))) (part_seen (cond t (Some one) (find (is_of row) more)))) [
          | true ↦ λ e. subst (λ n. makes n slot.part one.part) (eq_is held row e) b
          | false ↦ λ _. rest
        ] refl

    pub each_apart : (slots new : List (Slot P)) → EachBecomes (SlotBecomes makes) slots new → AreApart slots → AreApart new
    each_apart [] [] h apart = tt
    each_apart [] (one ∷ more) h apart = absurd h
    each_apart (slot ∷ slots) [] h apart = absurd h
    each_apart (slot ∷ slots) (one ∷ more) h apart =
        (subst (IsApart more) (sym h.0.0) (apart_still slots more (λ row. still_there (makes row) (part_in slots row) (part_in more row) (each_became slots more h.1 row)) slot.row apart.0), each_apart slots more h.1 apart.1)
