-- The part of a row that is written where it is kept.
use Rattle.std.proofs.Common.{◌≡◌, ℕ, zero, suc, ◌+◌, ◌<◌, ◌≤◌, List, [], ◌∷◌, length, Bool, true, false, cond, not, Option, Some, None, refl, sym, ◌∙◌, ap, subst, find, nat_eq, get_or, slice_get, slice_set, Vec, Global, MutBor, IfSome, IfNone, arith}
use Rattle.std.proofs.Math.Numerals.{one-add}
use Rattle.std.proofs.lemmas.Bool.Decides.{nat_tests}
use Rattle.std.specs.Prelude.{is_some}
use Rattle.std.specs.Option.{option_map, option_map_or}
use Rattle.std.specs.List.{position_or_len}
use Rattle.std.specs.Vec.{with_item}
use Rattle.std.proofs.lemmas.Option.{slice_get-get_or}
use Rattle.rm_pool.specs.declared.slot.Slot.{Slot}
use Rattle.rm_pool.specs.Slots.{is_of, part_seen, part_in, has_part, IsApart, AreApart, with_part, kept, with_part_at}

eq_is : (a b : ℕ) → nat_eq a b ≡ true → a ≡ b
eq_is a b h = grind (arith, nat_tests)

pub got : {X : Type 0} (xs : List X) (k : ℕ) (x : X) → k < length xs → x ≡ get_or xs k x → slice_get xs k ≡ Some x
got xs k x lt is = slice_get-get_or xs k x lt ∙ ap Some (sym is)

beyond : {X : Type 0} (xs : List X) (k : ℕ) → length xs ≤ k → slice_get xs k ≡ None
beyond [] k le = refl
beyond (x ∷ xs) zero le = absurd (omega (arith, le))
beyond (x ∷ xs) (suc k) le = beyond xs k (omega (arith, le))

at_found : {X : Type 0} (p : X → Bool) (xs : List X) → slice_get xs (position_or_len p xs) ≡ find p xs
at_found p [] = refl
at_found p (x ∷ xs) = elim (p x) as (λ t. slice_get (x ∷ xs) (cond (not t) (1 + position_or_len p xs) 0) ≡ cond t (Some x) (find p xs)) [ true ↦ refl | false ↦ rw (one-add (position_or_len p xs)) (at_found p xs) ]

module _ {P : Type 0} where
  -- the parts with that at a place changed
  abbrev set_at : List (Slot P) → ℕ → P → List (Slot P)
  set_at [] k part = []
  set_at (slot ∷ slots) zero part = record slot { part = part } ∷ slots
  set_at (slot ∷ slots) (suc k) part = slot ∷ set_at slots k part

  set_at_is : (slots : List (Slot P)) (k : ℕ) (part : P) → option_map_or (λ slot. slice_set slots k (record slot { part = part })) (slice_get slots k) slots ≡ set_at slots k part
  set_at_is [] k part = refl
  set_at_is (slot ∷ slots) zero part = refl
  set_at_is (slot ∷ slots) (suc k) part = behind (slice_get slots k) ∙ ap (λ l. slot ∷ l) (set_at_is slots k part)
    where
      behind : (o : Option (Slot P)) → option_map_or (λ at. slot ∷ slice_set slots k (record at { part = part })) o (slot ∷ slots) ≡ slot ∷ option_map_or (λ at. slice_set slots k (record at { part = part })) o slots
      behind None = refl
      behind (Some at) = refl

  items_set : (slots : Vec (Slot P) Global) (k : ℕ) (part : P) → (with_part_at slots k part).items ≡ set_at slots.items k part
  items_set slots k part = inside (slice_get slots.items k) ∙ set_at_is slots.items k part
    where
      inside : (o : Option (Slot P)) → (option_map_or (λ slot. with_item slots k (record slot { part = part })) o slots).items ≡ option_map_or (λ slot. slice_set slots.items k (record slot { part = part })) o slots.items
      inside None = refl
      inside (Some at) = refl

  kept_set : (o : Option (Vec (Slot P) Global)) (k : ℕ) (part : P) → kept (option_map (λ slots. with_part_at slots k part) o) ≡ set_at (kept o) k part
  kept_set None k part = refl
  kept_set (Some slots) k part = items_set slots k part

  set_at_place : (pool : List (Slot P)) (row : ℕ) (part : P) → set_at pool (position_or_len (is_of row) pool) part ≡ with_part pool row part
  set_at_place [] row part = refl
  set_at_place (slot ∷ slots) row part =
      elim (is_of row slot) as (λ t. set_at (slot ∷ slots) (cond (not t) (1 + position_or_len (is_of row) slots) 0) part ≡ cond t (record slot { part = part } ∷ slots) (slot ∷ with_part slots row part)) [
        | true ↦ refl
        | false ↦ rw (one-add (position_or_len (is_of row) slots)) (ap (λ l. slot ∷ l) (set_at_place slots row part))
      ]

  -- the part that is lent at a place
  pub lent_at : (slots : Vec (Slot P) Global) (k : ℕ) (slot : Slot P) (part : P) → slice_get slots.items k ≡ Some slot → with_item slots k (record { row = slot.row; part = part }) ≡ with_part_at slots k part
  lent_at slots k slot part at = sym (ap (λ o. option_map_or (λ slot. with_item slots k (record slot { part = part })) o slots) at)

  -- what is kept once the part of a row was written
  pub lent_is : (o : Option (Vec (Slot P) Global)) (row place : ℕ) (part : P) → place ≡ position_or_len (is_of row) (kept o) → kept (option_map (λ slots. with_part_at slots place part) o) ≡ with_part (kept o) row part
  lent_is o row place part here = kept_set o place part ∙ ap (λ n. set_at (kept o) n part) here ∙ set_at_place (kept o) row part

  same_held : (slots : List (Slot P)) (k : ℕ) (part : P) (row : ℕ) → has_part (set_at slots k part) row ≡ has_part slots row
  same_held [] k part row = refl
  same_held (slot ∷ slots) zero part row = elim (is_of row slot) as (λ t. is_some (part_seen (cond t (Some (record slot { part = part })) (find (is_of row) slots))) ≡ is_some (part_seen (cond t (Some slot) (find (is_of row) slots)))) [ true ↦ refl | false ↦ refl ]
  same_held (slot ∷ slots) (suc k) part row = elim (is_of row slot) as (λ t. is_some (part_seen (cond t (Some slot) (find (is_of row) (set_at slots k part)))) ≡ is_some (part_seen (cond t (Some slot) (find (is_of row) slots)))) [ true ↦ refl | false ↦ same_held slots k part row ]

  apart_still : (slots others : List (Slot P)) → ((row : ℕ) → has_part others row ≡ has_part slots row) → (holder : Option ℕ) → IsApart slots holder → IsApart others holder
  apart_still slots others same None h = tt
  apart_still slots others same (Some row) h = (h.0, same row ∙ h.1)

  apart_set : (slots : List (Slot P)) (k : ℕ) (part : P) → AreApart slots → AreApart (set_at slots k part)
  apart_set [] k part h = tt
  apart_set (slot ∷ slots) zero part h = h
  apart_set (slot ∷ slots) (suc k) part h = (apart_still slots (set_at slots k part) (same_held slots k part) slot.row h.0, apart_set slots k part h.1)

  -- no row has two parts then
  pub lent_apart : (o : Option (Vec (Slot P) Global)) (k : ℕ) (part : P) → AreApart (kept o) → AreApart (kept (option_map (λ slots. with_part_at slots k part) o))
  lent_apart o k part h = subst AreApart (sym (kept_set o k part)) (apart_set (kept o) k part h)

  pub seen_at : (slots : List (Slot P)) (row place : ℕ) → place ≡ position_or_len (is_of row) slots → part_seen (slice_get slots place) ≡ part_in slots row
  seen_at slots row place here = ap (λ n. part_seen (slice_get slots n)) here ∙ ap part_seen (at_found (is_of row) slots)

  pub none_at : (slots : List (Slot P)) (row place : ℕ) → place ≡ position_or_len (is_of row) slots → length slots ≤ place → part_in slots row ≡ None
  none_at slots row place here le = sym (seen_at slots row place here) ∙ ap part_seen (beyond slots place le)

  -- what is lent is the part of the row
  pub found : (slots : List (Slot P)) (row place : ℕ) (r : Option (MutBor P)) → place ≡ position_or_len (is_of row) slots
      → IfSome r (λ part. part_seen (slice_get slots place) ≡ Some part.now) → IfNone r (length slots ≤ place)
      → IfSome r (λ part. part_in slots row ≡ Some part.now) × IfNone r (part_in slots row ≡ None)
  found slots row place None here some none = (tt, none_at slots row place here none)
  found slots row place (Some part) here some none = (sym (seen_at slots row place here) ∙ some, tt)

  -- the parts of rows once that of a row was written
  pub lent_part : (pool : List (Slot P)) (row : ℕ) (part : P) → has_part pool row ≡ true → (other : ℕ) → part_in (with_part pool row part) other ≡ cond (nat_eq row other) (Some part) (part_in pool other)
  lent_part [] row part has other = absurd (cc)
  lent_part (slot ∷ slots) row part has other = by_holder (λ more. lent_part slots row part more other) slot.row has
    where
      other_row : (held : ℕ) → nat_eq held row ≡ false → nat_eq held other ≡ true → nat_eq row other ≡ false
      other_row held e f = grind (arith, nat_tests)

      same_row : (held : ℕ) → nat_eq held row ≡ true → nat_eq held other ≡ nat_eq row other
      same_row held e = ap (λ n. nat_eq n other) (eq_is held row e)

      by_holder : (is_some (part_in slots row) ≡ true → part_in (with_part slots row part) other ≡ cond (nat_eq row other) (Some part) (part_in slots other)) → (holder : Option ℕ)
          → is_some (part_seen (cond (option_map_or (λ k. nat_eq k row) holder false) (Some slot) (find (is_of row) slots))) ≡ true
          → part_in (cond (option_map_or (λ k. nat_eq k row) holder false) (record { row = holder; part = part } ∷ slots) (record { row = holder; part = slot.part } ∷ with_part slots row part)) other
          ≡ cond (nat_eq row other) (Some part) (part_seen (cond (option_map_or (λ k. nat_eq k other) holder false) (Some slot) (find (is_of other) slots)))
      by_holder rest None there = rest there
      by_holder rest (Some held) there = elim (nat_eq held row) as (λ t. nat_eq held row ≡ t → is_some (part_seen (cond t (Some slot) (find (is_of row) slots))) ≡ true
          → part_in (cond t (record { row = Some held; part = part } ∷ slots) (record { row = Some held; part = slot.part } ∷ with_part slots row part)) other ≡ cond (nat_eq row other) (Some part) (part_seen (cond (nat_eq held other) (Some slot) (find (is_of other) slots)))) [
            | true ↦ λ e _. ap (λ t. part_seen (cond t (Some (record { row = Some held; part = part })) (find (is_of other) slots))) (same_row held e)
                ∙ seen (nat_eq row other) (find (is_of other) slots)
                ∙ ap (λ t. cond (nat_eq row other) (Some part) (part_seen (cond t (Some slot) (find (is_of other) slots)))) (sym (same_row held e))
            | false ↦ λ e more. elim (nat_eq held other) as (λ t. nat_eq held other ≡ t → part_seen (cond t (Some (record { row = Some held; part = slot.part })) (find (is_of other) (with_part slots row part))) ≡ cond (nat_eq row other) (Some part) (part_seen (cond t (Some slot) (find (is_of other) slots)))) [
              | true ↦ λ f. sym (ap (λ t. cond t (Some part) (Some slot.part)) (other_row held e f))
              | false ↦ λ _. rest more
            ] refl
          ] refl there
        where
          seen : (t : Bool) (o : Option (Slot P)) → part_seen (cond t (Some (record { row = Some held; part = part })) o) ≡ cond t (Some part) (part_seen (cond t (Some slot) o))
          seen true o = refl
          seen false o = refl

  pub lent_size : (pool : List (Slot P)) (row : ℕ) (part : P) → length (with_part pool row part) ≡ length pool
  lent_size [] row part = refl
  lent_size (slot ∷ slots) row part = elim (is_of row slot) as (λ t. length (cond t (record slot { part = part } ∷ slots) (slot ∷ with_part slots row part)) ≡ suc (length slots)) [ true ↦ refl | false ↦ ap suc (lent_size slots row part) ]
