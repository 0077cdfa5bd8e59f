-- Spare parts, and how many there are.
use Rattle.std.proofs.Common.{◌^◌, ◌≡◌, ℕ, zero, suc, ◌+◌, ◌<◌, ◌≤◌, List, [], ◌∷◌, ◌++◌, length, map, Bool, true, false, cond, not, ◌||◌, Option, Some, None, refl, sym, ◌∙◌, ap, subst, find, nat_eq, get_or, slice_set, arith}
use Rattle.std.specs.Prelude.{is_some, is_none, remove}
use Rattle.std.specs.List.{position, position_or_len}
use Rattle.std.specs.Option.{option_map_or, option_and_then}
use Rattle.std.proofs.lemmas.Bool.Decides.{nat_tests}
use Rattle.std.proofs.lemmas.List.Quantifiers.{position-Some}
use Rattle.rm_model.specs.Judgement.{count_below}
use Rattle.rm_status.proofs.Places.{place_of_none}
use Rattle.rm_status.proofs.Held.{count_none, count_one, count_or}
use Rattle.rm_status.proofs.Valid.{count_less}
use Rattle.rm_pool.specs.declared.slot.Slot.{Slot}
use Rattle.rm_pool.specs.Slots.{is_of, is_spare, spare, released, part_seen, part_in, has_part, IsApart, AreApart}
use Rattle.rm_pool.specs.Pools.{in_use}

pub eq_is : (a b : ℕ) → nat_eq a b ≡ true → a ≡ b
eq_is a b h = grind (arith, nat_tests)

pub eq_itself : (n : ℕ) → nat_eq n n ≡ true
eq_itself n = grind (arith, nat_tests)

eq_turned : (a b : ℕ) → nat_eq a b ≡ false → nat_eq b a ≡ false
eq_turned a b e = grind (arith, nat_tests)

differs : (a b c : ℕ) → nat_eq a b ≡ false → nat_eq a c ≡ true → nat_eq b c ≡ false
differs a b c h k = grind (arith, nat_tests)

is_nothing : {X : Type 0} (o : Option X) → is_none o ≡ true → o ≡ None
is_nothing None h = refl
is_nothing (Some x) h = cc

pub not_there : {X : Type 0} (o : Option X) → is_some o ≡ false → o ≡ None
not_there None h = refl
not_there (Some x) h = cc

-- whether a holder is a row
abbrev of_holder : Option ℕ → ℕ → Bool
of_holder holder row = option_map_or (λ n. nat_eq n row) holder false

apart_rows : (holder : Option ℕ) (row other : ℕ) → of_holder holder row ≡ false → of_holder holder other ≡ true → nat_eq row other ≡ false
apart_rows None row other h k = absurd (cc)
apart_rows (Some n) row other h k = differs n row other h k

-- the row that a part is still of
abbrev left : (ℕ → Bool) → Option ℕ → Option ℕ
left valid holder = option_and_then (λ row. cond (valid row) (Some row) None) holder

module _ {P : Type 0} where
  -- the parts of the same rows
  pub same_in_use : (pool new : List (Slot P)) → ((row : ℕ) → part_in new row ≡ part_in pool row) → in_use new ≡ in_use pool
  same_in_use pool new same = ap (λ p. count_below p (2 ^ 32)) (λ d row. is_some (same row d))

  pub apart_still : (slots others : List (Slot P)) → ((row : ℕ) → has_part others row ≡ has_part slots row) → (holder : Option ℕ) → IsApart slots holder → IsApart others holder
  apart_still slots others same None h = tt
  apart_still slots others same (Some row) h = (h.0, same row ∙ h.1)

  -- one more spare part
  pub spare_more : (slots : List (Slot P)) (part : P) (row : ℕ) → part_in (slots ++ spare part ∷ []) row ≡ part_in slots row
  spare_more [] part row = refl
  spare_more (slot ∷ slots) part row = elim (is_of row slot) as (λ t. part_seen (cond t (Some slot) (find (is_of row) (slots ++ spare part ∷ []))) ≡ part_seen (cond t (Some slot) (find (is_of row) slots))) [ true ↦ refl | false ↦ spare_more slots part row ]

  pub apart_more : (slots : List (Slot P)) (part : P) → AreApart slots → AreApart (slots ++ spare part ∷ [])
  apart_more [] part h = (tt, tt)
  apart_more (slot ∷ slots) part h = (apart_still slots (slots ++ spare part ∷ []) (λ row. ap is_some (spare_more slots part row)) slot.row h.0, apart_more slots part h.1)

  pub length_more : (slots : List (Slot P)) (slot : Slot P) → length (slots ++ slot ∷ []) ≡ length slots + 1
  length_more [] slot = refl
  length_more (x ∷ slots) slot = let more = length_more slots slot in omega (arith, more)

  -- The parts of rows that aren't valid become spare.
  module _ (valid : ℕ → Bool) where
    pub released_in : (slots : List (Slot P)) (row : ℕ) → part_in (map (released valid) slots) row ≡ cond (valid row) (part_in slots row) None
    released_in [] row = elim (valid row) as (λ t. ◌≡◌ {A = Option P} None (cond t None None)) [ true ↦ refl | false ↦ refl ]
    released_in (slot ∷ slots) row = by_holder (released_in slots row) slot.row
      where
        at_row : part_in (map (released valid) slots) row ≡ cond (valid row) (part_in slots row) None → (h : ℕ) → (t : Bool) → valid h ≡ t
            → part_seen (cond (option_map_or (λ n. nat_eq n row) (cond t (Some h) None) false) (Some (record { row = cond t (Some h) None; part = slot.part })) (find (is_of row) (map (released valid) slots)))
            ≡ cond (valid row) (part_seen (cond (nat_eq h row) (Some slot) (find (is_of row) slots))) None
        at_row rest h true e = elim (nat_eq h row) as (λ s. nat_eq h row ≡ s → part_seen (cond s (Some (record { row = Some h; part = slot.part })) (find (is_of row) (map (released valid) slots))) ≡ cond (valid row) (part_seen (cond s (Some slot) (find (is_of row) slots))) None) [
          | true ↦ λ same. sym (ap (λ t. cond t (Some slot.part) None) (subst (λ n. valid n ≡ true) (eq_is h row same) e))
          | false ↦ λ _. rest
        ] refl
        at_row rest h false e = rest ∙ (elim (nat_eq h row) as (λ s. nat_eq h row ≡ s → cond (valid row) (part_in slots row) None ≡ cond (valid row) (part_seen (cond s (Some slot) (find (is_of row) slots))) None) [
          | true ↦ λ same.
              let gone : valid row ≡ false = subst (λ n. valid n ≡ false) (eq_is h row same) e in
              ap (λ t. cond t (part_in slots row) None) gone ∙ sym (ap (λ t. cond t (Some slot.part) None) gone)
          | false ↦ λ _. refl
        ] refl)

        by_holder : part_in (map (released valid) slots) row ≡ cond (valid row) (part_in slots row) None → (holder : Option ℕ) → part_seen (cond (option_map_or (λ n. nat_eq n row) (left valid holder) false) (Some (record { row = left valid holder; part = slot.part })) (find (is_of row) (map (released valid) slots)))
            ≡ cond (valid row) (part_seen (cond (option_map_or (λ n. nat_eq n row) holder false) (Some slot) (find (is_of row) slots))) None
        by_holder rest None = rest
        by_holder rest (Some h) = at_row rest h (valid h) refl

    pub apart_released : (slots : List (Slot P)) → AreApart slots → AreApart (map (released valid) slots)
    apart_released [] h = tt
    apart_released (slot ∷ slots) h = (by_holder slot.row h.0, apart_released slots h.1)
      where
        by_holder : (holder : Option ℕ) → IsApart slots holder → IsApart (map (released valid) slots) (left valid holder)
        by_holder None k = tt
        by_holder (Some row) k = elim (valid row) as (λ t. valid row ≡ t → IsApart (map (released valid) slots) (cond t (Some row) None)) [
          | true ↦ λ e. (k.0, ap is_some (released_in slots row ∙ ap (λ t. cond t (part_in slots row) None) e) ∙ k.1)
          | false ↦ λ _. tt
        ] refl

    pub length_released : (slots : List (Slot P)) → length (map (released valid) slots) ≡ length slots
    length_released [] = refl
    length_released (slot ∷ slots) = ap suc (length_released slots)

  -- How many parts are spare, beside those that rows have.
  abbrev spares : List (Slot P) → ℕ
  spares [] = 0
  spares (slot ∷ slots) = cond (is_spare slot) 1 0 + spares slots

  counted : (slots : List (Slot P)) → AreApart slots → length slots ≡ in_use slots + spares slots
  counted [] h = let none = count_none (λ row. false) (2 ^ 32) (λ row _. refl) in omega (arith, none)
  counted (slot ∷ slots) h = by_holder (counted slots h.1) slot.row h.0
    where
      or_row : (t : Bool) (o : Option (Slot P)) → is_some (part_seen (cond t (Some slot) o)) ≡ (t || is_some (part_seen o))
      or_row true o = refl
      or_row false o = refl

      by_holder : length slots ≡ in_use slots + spares slots → (holder : Option ℕ) → IsApart slots holder
          → length (slot ∷ slots) ≡ count_below (λ row. is_some (part_seen (cond (option_map_or (λ n. nat_eq n row) holder false) (Some slot) (find (is_of row) slots)))) (2 ^ 32) + (cond (is_none holder) 1 0 + spares slots)
      by_holder more None k = omega (arith, more)
      by_holder more (Some held) k =
          let split : count_below (λ row. is_some (part_seen (cond (nat_eq held row) (Some slot) (find (is_of row) slots)))) (2 ^ 32) ≡ count_below (λ row. nat_eq held row || has_part slots row) (2 ^ 32) = ap (λ p. count_below p (2 ^ 32)) (λ d row. (or_row (nat_eq held row) (find (is_of row) slots)) d) in
          let apart = count_or (nat_eq held) (has_part slots) (2 ^ 32) (λ row e. subst (λ n. has_part slots n ≡ false) (eq_is held row e) k.1) in
          let one = count_one held (2 ^ 32) k.0 in
          omega (arith, split, apart, one, more)

  -- no more rows have a part than there are parts
  pub used_fit : (slots : List (Slot P)) → AreApart slots → in_use slots ≤ length slots
  used_fit slots h = let all = counted slots h in omega (arith, all)

  no_spares : (slots : List (Slot P)) → length slots ≡ position_or_len is_spare slots → spares slots ≡ 0
  no_spares [] e = refl
  no_spares (slot ∷ slots) e =
      elim (is_spare slot) as (λ t. suc (length slots) ≡ cond (not t) (1 + position_or_len is_spare slots) 0 → cond t 1 0 + spares slots ≡ 0) [
        | true ↦ λ k. absurd (omega (arith, k))
        | false ↦ λ k. let more = no_spares slots (omega (arith, k)) in omega (arith, more)
      ] e

  -- where none is spare, each part is that of a row
  pub all_used : (slots : List (Slot P)) → AreApart slots → None ≡ position is_spare slots → length slots ≡ in_use slots
  all_used slots h e = let all = counted slots h in let none = no_spares slots (place_of_none is_spare slots e) in omega (arith, all, none)

  pub spare_at : (slots : List (Slot P)) (k : ℕ) (d : Slot P) → position is_spare slots ≡ Some k → (k < length slots) × ((get_or slots k d).row ≡ None)
  spare_at slots k d e = let at = position-Some is_spare slots k d e in (at.0, is_nothing (get_or slots k d).row at.1)

  -- A valid row that has no part finds a spare one, where there is storage for all valid rows, and only these have parts.
  pub spare_left : (valid : ℕ → Bool) (slots : List (Slot P)) (row : ℕ) → ((other : ℕ) → has_part slots other ≡ true → valid other ≡ true) → row < 2 ^ 32 → valid row ≡ true → part_in slots row ≡ None → count_below valid (2 ^ 32) ≤ length slots → in_use slots < length slots
  spare_left valid slots row used fits is none enough =
      let one = count_one row (2 ^ 32) fits in
      let both = count_or (nat_eq row) (has_part slots) (2 ^ 32) (λ other k. subst (λ n. has_part slots n ≡ false) (eq_is row other k) (ap is_some none)) in
      let fewer : count_below (λ other. nat_eq row other || has_part slots other) (2 ^ 32) ≤ count_below valid (2 ^ 32) = count_less (λ other. nat_eq row other || has_part slots other) valid (2 ^ 32) either in
      omega (arith, one, both, fewer, enough)
    where
      either : (other : ℕ) → (nat_eq row other || has_part slots other) ≡ true → valid other ≡ true
      either other k =
          elim (nat_eq row other) as (λ t. nat_eq row other ≡ t → (t || has_part slots other) ≡ true → valid other ≡ true) [
            | true ↦ λ same _. subst (λ n. valid n ≡ true) (eq_is row other same) is
            | false ↦ λ _ there. used other there
          ] refl k

  -- A spare part becomes that of a row.
  seen_none : (t : Bool) (slot : Slot P) (o : Option (Slot P)) → part_seen (cond t (Some slot) o) ≡ None → (t ≡ false) × (part_seen o ≡ None)
  seen_none true slot o e = absurd (cc)
  seen_none false slot o e = (refl, e)

  module _ (y : Slot P) (row : ℕ) (is : y.row ≡ Some row) where
    pub set_in : (slots : List (Slot P)) (k : ℕ) (d : Slot P) → k < length slots → (get_or slots k d).row ≡ None → part_in slots row ≡ None → (other : ℕ) → part_in (slice_set slots k y) other ≡ cond (nat_eq row other) (Some y.part) (part_in slots other)
    set_in [] k d lt none gone other = absurd (omega (arith, lt))
    set_in (slot ∷ slots) zero d lt none gone other =
        ap (λ (o : Option ℕ). part_seen (cond (of_holder o other) (Some y) (find (is_of other) slots))) is
        ∙ seen (nat_eq row other) (find (is_of other) slots)
        ∙ ap (λ (o : Option ℕ). cond (nat_eq row other) (Some y.part) (part_seen (cond (of_holder o other) (Some slot) (find (is_of other) slots)))) (sym none)
      where
        seen : (t : Bool) (o : Option (Slot P)) → part_seen (cond t (Some y) o) ≡ cond t (Some y.part) (part_seen o)
        seen true o = refl
        seen false o = refl
    set_in (slot ∷ slots) (suc k) d lt none gone other =
        let rest = seen_none (is_of row slot) slot (find (is_of row) slots) gone in
        elim (is_of other slot) as (λ t. is_of other slot ≡ t → part_seen (cond t (Some slot) (find (is_of other) (slice_set slots k y))) ≡ cond (nat_eq row other) (Some y.part) (part_seen (cond t (Some slot) (find (is_of other) slots)))) [
          | true ↦ λ e. ap (λ t. cond t (Some y.part) (Some slot.part)) (sym (apart_rows slot.row row other rest.0 e))
          | false ↦ λ _. set_in slots k d (omega (arith, lt)) none rest.1 other
        ] refl

    pub apart_set : row < 2 ^ 32 → (slots : List (Slot P)) (k : ℕ) (d : Slot P) → k < length slots → (get_or slots k d).row ≡ None → part_in slots row ≡ None → AreApart slots → AreApart (slice_set slots k y)
    apart_set fits [] k d lt none gone h = absurd (omega (arith, lt))
    apart_set fits (slot ∷ slots) zero d lt none gone h =
        (subst (IsApart slots) (sym is) (fits, ap is_some (seen_none (is_of row slot) slot (find (is_of row) slots) gone).1), h.1)
    apart_set fits (slot ∷ slots) (suc k) d lt none gone h =
        let rest = seen_none (is_of row slot) slot (find (is_of row) slots) gone in
        (by_holder slot.row rest.0 h.0, apart_set fits slots k d (omega (arith, lt)) none rest.1 h.1)
      where
        rest_none : part_in slots row ≡ None
        rest_none = (seen_none (is_of row slot) slot (find (is_of row) slots) gone).1

        by_holder : (holder : Option ℕ) → of_holder holder row ≡ false → IsApart slots holder → IsApart (slice_set slots k y) holder
        by_holder None other k = tt
        by_holder (Some held) other there = (
          there.0,
          ap is_some (set_in slots k d (omega (arith, lt)) none rest_none held ∙ ap (λ t. cond t (Some y.part) (part_in slots held)) (eq_turned held row other)) ∙ there.1,
        )

  pub length_set : (slots : List (Slot P)) (k : ℕ) (y : Slot P) → length (slice_set slots k y) ≡ length slots
  length_set [] k y = refl
  length_set (slot ∷ slots) zero y = refl
  length_set (slot ∷ slots) (suc k) y = ap suc (length_set slots k y)

  -- A spare part is taken away.
  pub removed_in : (slots : List (Slot P)) (k : ℕ) (d : Slot P) → k < length slots → (get_or slots k d).row ≡ None → (row : ℕ) → part_in (remove slots k) row ≡ part_in slots row
  removed_in [] k d lt none row = absurd (omega (arith, lt))
  removed_in (slot ∷ slots) zero d lt none row = sym (ap (λ (o : Option ℕ). part_seen (cond (of_holder o row) (Some slot) (find (is_of row) slots))) none)
  removed_in (slot ∷ slots) (suc k) d lt none row = elim (is_of row slot) as (λ t. part_seen (cond t (Some slot) (find (is_of row) (remove slots k))) ≡ part_seen (cond t (Some slot) (find (is_of row) slots))) [ true ↦ refl | false ↦ removed_in slots k d (omega (arith, lt)) none row ]

  pub apart_removed : (slots : List (Slot P)) (k : ℕ) (d : Slot P) → k < length slots → (get_or slots k d).row ≡ None → AreApart slots → AreApart (remove slots k)
  apart_removed [] k d lt none h = absurd (omega (arith, lt))
  apart_removed (slot ∷ slots) zero d lt none h = h.1
  apart_removed (slot ∷ slots) (suc k) d lt none h =
      (apart_still slots (remove slots k) (λ row. ap is_some (removed_in slots k d (omega (arith, lt)) none row)) slot.row h.0, apart_removed slots k d (omega (arith, lt)) none h.1)
