-- What is reached by some numbers is what they are above.
use Rattle.std.proofs.Common.{◌≡◌, ℕ, suc, ◌-◌, ◌<◌, ◌≤◌, ◌^◌, ◌⊎◌, ◌↔◌, min, nat_le, nat_lt, List, [], ◌∷◌, ◌++◌, length, drop, true, false, Option, Some, None, IfSome, refl, sym, ◌∙◌, arith, subst, inl, inr}
use Rattle.std.specs.Prelude.{slice_get, ⊤}
use Rattle.std.specs.Option.{option_map}
use Rattle.std.specs.Ordering.{ordering_then, nat_cmp}
use Rattle.std.specs.declared.cmp.Ordering.{Ordering}
use Rattle.std.specs.declared.cmp.Ordering.TheVariants.{Less, Equal, Greater}
use Rattle.std.specs.Cmp.{ranked}
use Rattle.std.proofs.lemmas.Bool.{cases_Bool}
use Rattle.std.proofs.lemmas.Bool.Decides.{nat_tests}
use Rattle.rm_model.specs.Names.{Below}
use Rattle.rm_layers.specs.Marks.{IsAboveName, IsAboveApplication}
use Rattle.rm_walk_places.specs.declared.places.Bounds.{Bounds}
use Rattle.rm_walk_places.specs.declared.places.Reached.{Reached}
use Rattle.rm_walk_places.specs.Within.{AreBounds, AreWithin}
use Rattle.rm_walk_places.specs.WalkPlaces.{numbers_of, pair_of, IsWalkPlace}
use Rattle.rm_walk_places.specs.Lowered.{kept_none, kept_behind, kept, greatest, lowered, protocol_behind, reached_with, reached}
use Rattle.rm_walk_places.proofs.Order.{cmp, no_less, three, first_less, first_same, first_greater}

-- numbers within bounds are above a list exactly where they are above what is reached
pub record IsReached (bounds : List Bounds) (rest : List ℕ) (reached : Option Reached) : Type 0 where
  within : IfSome reached (λ it. AreWithin bounds it.numbers)
  rows : (index : List ℕ) → AreWithin bounds index → Below rest index ↔ IsAboveName cmp (option_map numbers_of reached) index
  above : (index : List ℕ) (protocol : ℕ) → AreWithin bounds index → Below rest (index ++ protocol ∷ []) → IsAboveApplication cmp (option_map pair_of reached) (index, protocol)
  below : (index : List ℕ) (protocol : ℕ) → AreWithin bounds index → protocol < 2 ^ 32 → IsAboveApplication cmp (option_map pair_of reached) (index, protocol) → Below rest (index ++ protocol ∷ [])

-- none are above the greatest ones
none_above : (bounds : List Bounds) (index : List ℕ) → AreWithin bounds index → cmp (greatest bounds) index ≡ Less → ⊥
none_above [] [] are less = absurd (cc)
none_above [] (other ∷ index) are less = are
none_above (bound ∷ bounds) [] are less = are
none_above (bound ∷ bounds) (other ∷ index) are less = elim (three bound.greatest other) [
  | inl lt ↦ let most : other ≤ bound.greatest = are.1 in absurd (omega (arith, lt, most))
  | inr (inl same) ↦ none_above bounds index are.2 (sym (first_same bound.greatest (greatest bounds) other index same) ∙ less)
  | inr (inr gt) ↦ first_greater bound.greatest (greatest bounds) other index gt less
]

greatest_within : (bounds : List Bounds) → AreBounds bounds → AreWithin bounds (greatest bounds)
greatest_within [] some = tt
greatest_within (bound ∷ bounds) some = (some.0, omega arith, greatest_within bounds some.1)

-- no protocol is above the last one
too_great : (protocol : ℕ) → protocol < 2 ^ 32 → nat_cmp 4294967295 protocol ≡ Less → ⊥
too_great protocol few e = let lt : 4294967295 < protocol = ranked 4294967295 protocol Less (sym e) in omega arith

-- behind the last place
at_end : (rest : List ℕ) → IsReached [] rest (Some (record { numbers = []; protocol = slice_get rest 0 }))
at_end [] = record { within = tt; rows = λ index are. (λ e. e, λ a. a); above = λ index protocol are e. inr (empty index are, tt); below = λ index protocol are few a. back index protocol are }
  where
    empty : (index : List ℕ) → AreWithin [] index → [] ≡ index
    empty [] are = refl
    empty (other ∷ index) are = absurd are

    back : (index : List ℕ) (protocol : ℕ) → AreWithin [] index → cmp [] (index ++ protocol ∷ []) ≡ Less
    back [] protocol are = refl
    back (other ∷ index) protocol are = refl
at_end (number ∷ rest) = record {
  within = tt;
  rows = λ index are. (λ e. absurd (no_row index are e), λ a. absurd (no_other index are a));
  above = λ index protocol are e. inr (empty index are, onto index protocol are e);
  below = λ index protocol are few a. elim a [ inl less ↦ absurd (no_other index are less) | inr same ↦ back index protocol are same.1 ];
}
  where
    empty : (index : List ℕ) → AreWithin [] index → [] ≡ index
    empty [] are = refl
    empty (other ∷ index) are = absurd are

    no_row : (index : List ℕ) → AreWithin [] index → cmp (number ∷ rest) index ≡ Less → ⊥
    no_row [] are e = absurd (cc)
    no_row (other ∷ index) are e = are

    no_other : (index : List ℕ) → AreWithin [] index → cmp [] index ≡ Less → ⊥
    no_other [] are e = absurd (cc)
    no_other (other ∷ index) are e = are

    onto : (index : List ℕ) (protocol : ℕ) → AreWithin [] index → cmp (number ∷ rest) (index ++ protocol ∷ []) ≡ Less → nat_cmp number protocol ≡ Less
    onto [] protocol are e = by_order (nat_cmp number protocol) e
      where
        by_order : (o : Ordering) → ordering_then o (cmp rest []) ≡ Less → o ≡ Less
        by_order Less f = refl
        by_order Equal f = absurd (no_less rest f)
        by_order Greater f = f
    onto (other ∷ index) protocol are e = absurd are

    back : (index : List ℕ) (protocol : ℕ) → AreWithin [] index → nat_cmp number protocol ≡ Less → cmp (number ∷ rest) (index ++ protocol ∷ []) ≡ Less
    back [] protocol are e = rw e refl
    back (other ∷ index) protocol are e = absurd are

module _ (bound : Bounds) (bounds : List Bounds) where
  -- where no number is left
  missing : IsReached (bound ∷ bounds) [] None
  missing = record { within = tt; rows = λ index are. (λ e. tt, λ a. some index are); above = λ index protocol are e. tt; below = λ index protocol are few a. more index protocol are }
    where
      some : (index : List ℕ) → AreWithin (bound ∷ bounds) index → cmp [] index ≡ Less
      some [] are = absurd are
      some (other ∷ index) are = refl

      more : (index : List ℕ) (protocol : ℕ) → AreWithin (bound ∷ bounds) index → cmp [] (index ++ protocol ∷ []) ≡ Less
      more [] protocol are = refl
      more (other ∷ index) protocol are = refl

  module _ (number : ℕ) (rest : List ℕ) where
    -- behind a number that is below the least, or is the least with nothing reached behind
    not_above_least : number ≤ bound.least → (number ≡ bound.least → IsReached bounds rest None) → IsReached (bound ∷ bounds) (number ∷ rest) None
    not_above_least low behind = record { within = tt; rows = λ index are. (λ e. tt, λ a. all index are); above = λ index protocol are e. tt; below = λ index protocol are few a. each index protocol are few }
      where
        all : (index : List ℕ) → AreWithin (bound ∷ bounds) index → cmp (number ∷ rest) index ≡ Less
        all [] are = absurd are
        all (other ∷ index) are = let least : bound.least ≤ other = are.0 in elim (three number other) [
          | inl lt ↦ first_less number rest other index lt
          | inr (inl same) ↦ first_same number rest other index same ∙ ((behind (omega (arith, low, least, same))).rows index are.2).1 tt
          | inr (inr gt) ↦ absurd (omega (arith, low, least, gt))
        ]

        each : (index : List ℕ) (protocol : ℕ) → AreWithin (bound ∷ bounds) index → protocol < 2 ^ 32 → cmp (number ∷ rest) (index ++ protocol ∷ []) ≡ Less
        each [] protocol are few = absurd are
        each (other ∷ index) protocol are few = let least : bound.least ≤ other = are.0 in elim (three number other) [
          | inl lt ↦ first_less number rest other (index ++ protocol ∷ []) lt
          | inr (inl same) ↦ first_same number rest other (index ++ protocol ∷ []) same ∙ (behind (omega (arith, low, least, same))).below index protocol are.2 few tt
          | inr (inr gt) ↦ absurd (omega (arith, low, least, gt))
        ]

    -- behind a number within its bounds
    kept_first : bound.least ≤ number → number ≤ bound.greatest → (behind : Reached) → IsReached bounds rest (Some behind)
        → IsReached (bound ∷ bounds) (number ∷ rest) (Some (record { numbers = number ∷ behind.numbers; protocol = behind.protocol }))
    kept_first low high behind is = record { within = (low, high, is.within); rows = rows; above = above; below = below }
      where
        rows : (index : List ℕ) → AreWithin (bound ∷ bounds) index → cmp (number ∷ rest) index ≡ Less ↔ cmp (number ∷ behind.numbers) index ≡ Less
        rows [] are = absurd are
        rows (other ∷ index) are = elim (three number other) [
          | inl lt ↦ (λ e. first_less number behind.numbers other index lt, λ a. first_less number rest other index lt)
          | inr (inl same) ↦ (
            λ e. first_same number behind.numbers other index same ∙ (is.rows index are.2).0 (sym (first_same number rest other index same) ∙ e),
            λ a. first_same number rest other index same ∙ (is.rows index are.2).1 (sym (first_same number behind.numbers other index same) ∙ a),
          )
          | inr (inr gt) ↦ (λ e. absurd (first_greater number rest other index gt e), λ a. absurd (first_greater number behind.numbers other index gt a))
        ]

        above : (index : List ℕ) (protocol : ℕ) → AreWithin (bound ∷ bounds) index → cmp (number ∷ rest) (index ++ protocol ∷ []) ≡ Less → IsAboveApplication cmp (Some (number ∷ behind.numbers, behind.protocol)) (index, protocol)
        above [] protocol are e = absurd are
        above (other ∷ index) protocol are e = elim (three number other) [
          | inl lt ↦ inl (first_less number behind.numbers other index lt)
          | inr (inl same) ↦ elim (is.above index protocol are.2 (sym (first_same number rest other (index ++ protocol ∷ []) same) ∙ e)) [
            | inl less ↦ inl (first_same number behind.numbers other index same ∙ less)
            | inr alike ↦ let there : behind.numbers ≡ index = alike.0 in inr (cc, alike.1)
          ]
          | inr (inr gt) ↦ absurd (first_greater number rest other (index ++ protocol ∷ []) gt e)
        ]

        below : (index : List ℕ) (protocol : ℕ) → AreWithin (bound ∷ bounds) index → protocol < 2 ^ 32 → IsAboveApplication cmp (Some (number ∷ behind.numbers, behind.protocol)) (index, protocol) → cmp (number ∷ rest) (index ++ protocol ∷ []) ≡ Less
        below [] protocol are few a = absurd are
        below (other ∷ index) protocol are few (inl less) = elim (three number other) [
          | inl lt ↦ first_less number rest other (index ++ protocol ∷ []) lt
          | inr (inl same) ↦ first_same number rest other (index ++ protocol ∷ []) same ∙ is.below index protocol are.2 few (inl (sym (first_same number behind.numbers other index same) ∙ less))
          | inr (inr gt) ↦ absurd (first_greater number behind.numbers other index gt less)
        ]
        below (other ∷ index) protocol are few (inr alike) =
            let whole : number ∷ behind.numbers ≡ other ∷ index = alike.0 in
            let same : number ≡ other = cc in
            let there : behind.numbers ≡ index = cc in
            first_same number rest other (index ++ protocol ∷ []) same ∙ is.below index protocol are.2 few (inr (there, alike.1))

    -- behind a number above the least that isn't kept
    module _ (some : AreBounds (bound ∷ bounds)) (high : bound.least < number) (behind : number ≤ bound.greatest → IsReached bounds rest None) where
      lowered_first : IsReached (bound ∷ bounds) (number ∷ rest) (Some (record { numbers = min bound.greatest (number - 1) ∷ greatest bounds; protocol = Some 4294967295 }))
      lowered_first = record { within = (at_least, omega arith, greatest_within bounds some.1); rows = rows; above = above; below = below }
        where
          at_least : bound.least ≤ min bound.greatest (number - 1)
          at_least = let ordered : bound.least ≤ bound.greatest = some.0 in omega (arith, ordered, high)

          -- what is above the lesser number isn't below this one
          upward : (other : ℕ) (index : List ℕ) → AreWithin (bound ∷ bounds) (other ∷ index) → other < number → cmp (min bound.greatest (number - 1) ∷ greatest bounds) (other ∷ index) ≡ Less → ⊥
          upward other index are gt a = let most : other ≤ bound.greatest = are.1 in elim (three (min bound.greatest (number - 1)) other) [
            | inl lt ↦ omega (arith, lt, gt, most)
            | inr (inl same) ↦ none_above bounds index are.2 (sym (first_same (min bound.greatest (number - 1)) (greatest bounds) other index same) ∙ a)
            | inr (inr greater) ↦ first_greater (min bound.greatest (number - 1)) (greatest bounds) other index greater a
          ]

          downward : (other : ℕ) (index : List ℕ) → number ≤ other → cmp (min bound.greatest (number - 1) ∷ greatest bounds) (other ∷ index) ≡ Less
          downward other index le = first_less (min bound.greatest (number - 1)) (greatest bounds) other index (omega (arith, le, high))

          rows : (index : List ℕ) → AreWithin (bound ∷ bounds) index → cmp (number ∷ rest) index ≡ Less ↔ cmp (min bound.greatest (number - 1) ∷ greatest bounds) index ≡ Less
          rows [] are = absurd are
          rows (other ∷ index) are = let most : other ≤ bound.greatest = are.1 in elim (three number other) [
            | inl lt ↦ (λ e. downward other index (omega (arith, lt)), λ a. first_less number rest other index lt)
            | inr (inl same) ↦ (
              λ e. downward other index (omega (arith, same)),
              λ a. first_same number rest other index same ∙ ((behind (omega (arith, same, most))).rows index are.2).1 tt,
            )
            | inr (inr gt) ↦ (λ e. absurd (first_greater number rest other index gt e), λ a. absurd (upward other index are gt a))
          ]

          above : (index : List ℕ) (protocol : ℕ) → AreWithin (bound ∷ bounds) index → cmp (number ∷ rest) (index ++ protocol ∷ []) ≡ Less
              → IsAboveApplication cmp (Some (min bound.greatest (number - 1) ∷ greatest bounds, Some 4294967295)) (index, protocol)
          above [] protocol are e = absurd are
          above (other ∷ index) protocol are e = elim (three number other) [
            | inl lt ↦ inl (downward other index (omega (arith, lt)))
            | inr (inl same) ↦ inl (downward other index (omega (arith, same)))
            | inr (inr gt) ↦ absurd (first_greater number rest other (index ++ protocol ∷ []) gt e)
          ]

          below : (index : List ℕ) (protocol : ℕ) → AreWithin (bound ∷ bounds) index → protocol < 2 ^ 32
              → IsAboveApplication cmp (Some (min bound.greatest (number - 1) ∷ greatest bounds, Some 4294967295)) (index, protocol) → cmp (number ∷ rest) (index ++ protocol ∷ []) ≡ Less
          below [] protocol are few a = absurd are
          below (other ∷ index) protocol are few (inl less) = let most : other ≤ bound.greatest = are.1 in elim (three number other) [
            | inl lt ↦ first_less number rest other (index ++ protocol ∷ []) lt
            | inr (inl same) ↦ first_same number rest other (index ++ protocol ∷ []) same ∙ (behind (omega (arith, same, most))).below index protocol are.2 few tt
            | inr (inr gt) ↦ absurd (upward other index are gt less)
          ]
          below (other ∷ index) protocol are few (inr alike) = absurd (too_great protocol few alike.1)

    -- what is reached with so many kept
    protocol_last : Some 4294967295 ≡ protocol_behind 0 (bound ∷ bounds) (number ∷ rest)
    protocol_last = let some : nat_lt 0 (suc (length bounds)) ≡ true = grind (arith, nat_tests) in rw some refl

    protocol_next : (count : ℕ) → protocol_behind count bounds rest ≡ protocol_behind (suc count) (bound ∷ bounds) (number ∷ rest)
    protocol_next count = elim (cases_Bool (nat_lt count (length bounds))) [
      | inl so ↦ let more : nat_lt (suc count) (suc (length bounds)) ≡ true = grind (arith, nat_tests, so) in rw (so, more) refl
      | inr isnt ↦ let none : nat_lt (suc count) (suc (length bounds)) ≡ false = grind (arith, nat_tests, isnt) in rw (isnt, none) refl
    ]

    abbrev IsWith : Option ℕ → Type 0
    IsWith count = IsReached (bound ∷ bounds) (number ∷ rest) (option_map (reached_with (bound ∷ bounds) (number ∷ rest)) count)

    module _ (some : AreBounds (bound ∷ bounds)) (low : bound.least ≤ number) where
      none_kept : (number ≤ bound.greatest → IsReached bounds rest None) → IsWith (kept_none bound number)
      none_kept behind = elim (cases_Bool (nat_lt bound.least number)) [
        | inl so ↦
            let high : bound.least < number = grind (arith, nat_tests, so) in
            rw so (subst (λ (p : Option ℕ). IsReached (bound ∷ bounds) (number ∷ rest) (Some (record { numbers = min bound.greatest (number - 1) ∷ greatest bounds; protocol = p }))) protocol_last (lowered_first some high behind))
        | inr isnt ↦
            let least : number ≤ bound.least = grind (arith, nat_tests, isnt) in
            let ordered : bound.least ≤ bound.greatest = some.0 in
            rw isnt (not_above_least least (λ same. behind (omega (arith, same, ordered))))
      ]

      step : (count : Option ℕ) → IsReached bounds rest (option_map (reached_with bounds rest) count) → IsWith (kept_behind bound number count)
      step None is = none_kept (λ high. is)
      step (Some count) is = elim (cases_Bool (nat_le number bound.greatest)) [
        | inl so ↦
            let high : number ≤ bound.greatest = grind (arith, nat_tests, so) in
            rw so (subst (λ (p : Option ℕ). IsReached (bound ∷ bounds) (number ∷ rest) (Some (record { numbers = number ∷ lowered count bounds rest; protocol = p }))) (protocol_next count) (kept_first low high (reached_with bounds rest count) is))
        | inr isnt ↦ rw isnt (none_kept (λ high. absurd (let beyond : bound.greatest < number = grind (arith, nat_tests, isnt) in omega (arith, beyond, high))))
      ]

pub reached_is : (bounds : List Bounds) (rest : List ℕ) → AreBounds bounds → IsReached bounds rest (reached bounds rest)
reached_is [] rest some = at_end rest
reached_is (bound ∷ bounds) [] some = missing bound bounds
reached_is (bound ∷ bounds) (number ∷ rest) some = elim (cases_Bool (nat_lt number bound.least)) [
  | inl so ↦ let low : number < bound.least = grind (arith, nat_tests, so) in rw so (not_above_least bound bounds number rest (omega (arith, low)) (λ same. absurd (omega (arith, low, same))))
  | inr isnt ↦ let least : bound.least ≤ number = grind (arith, nat_tests, isnt) in rw isnt (step bound bounds number rest some least (kept bounds rest) (reached_is bounds rest some.1))
]

-- from the first row on
pub first_place : (bounds : List Bounds) (numbers : List ℕ) → None ≡ slice_get numbers 0 → IsWalkPlace bounds numbers (record { mark = 0; reached = None })
first_place bounds (number ∷ numbers) e = absurd (cc)
first_place bounds [] e = record {
  within = tt;
  rows = λ mark index are. (λ f. at_none mark, λ a. refl);
  above = λ mark index protocol are f. at_none mark;
  below = λ mark index protocol are few a. refl;
}
  where
    at_none : (mark : ℕ) → (0 < mark) ⊎ ((0 ≡ mark) × ⊤)
    at_none mark = elim (three 0 mark) [ inl lt ↦ inl lt | inr (inl same) ↦ inr (same, tt) | inr (inr gt) ↦ absurd (omega (arith, gt)) ]

-- behind a mark
behind_mark : (bounds : List Bounds) (number : ℕ) (numbers : List ℕ) → AreBounds bounds → IsWalkPlace bounds (number ∷ numbers) (record { mark = number; reached = reached bounds numbers })
behind_mark bounds number numbers some = record {
  within = is.within;
  rows = λ mark index are. elim (three number mark) [
    | inl lt ↦ (λ e. inl lt, λ a. first_less number numbers mark index lt)
    | inr (inl same) ↦ (
      λ e. inr (same, (is.rows index are).0 (sym (first_same number numbers mark index same) ∙ e)),
      λ a. first_same number numbers mark index same ∙ (is.rows index are).1 (at_mark mark same a),
    )
    | inr (inr gt) ↦ (λ e. absurd (first_greater number numbers mark index gt e), λ a. absurd (not_before mark gt a))
  ];
  above = λ mark index protocol are e. elim (three number mark) [
    | inl lt ↦ inl lt
    | inr (inl same) ↦ inr (same, is.above index protocol are (sym (first_same number numbers mark (index ++ protocol ∷ []) same) ∙ e))
    | inr (inr gt) ↦ absurd (first_greater number numbers mark (index ++ protocol ∷ []) gt e)
  ];
  below = λ mark index protocol are few a. elim (three number mark) [
    | inl lt ↦ first_less number numbers mark (index ++ protocol ∷ []) lt
    | inr (inl same) ↦ first_same number numbers mark (index ++ protocol ∷ []) same ∙ is.below index protocol are few (at_mark mark same a)
    | inr (inr gt) ↦ absurd (not_before mark gt a)
  ];
}
  where
    is : IsReached bounds numbers (reached bounds numbers)
    is = reached_is bounds numbers some

    at_mark : {B : Type 0} (mark : ℕ) → number ≡ mark → (number < mark) ⊎ ((number ≡ mark) × B) → B
    at_mark mark same (inl lt) = absurd (omega (arith, same, lt))
    at_mark mark same (inr a) = a.1

    not_before : {B : Type 0} (mark : ℕ) → mark < number → (number < mark) ⊎ ((number ≡ mark) × B) → ⊥
    not_before mark gt (inl lt) = omega (arith, lt, gt)
    not_before mark gt (inr a) = let same : number ≡ mark = a.0 in omega (arith, same, gt)

pub walk_place_is : (bounds : List Bounds) (numbers : List ℕ) (mark : ℕ) → AreBounds bounds → Some mark ≡ slice_get numbers 0 → IsWalkPlace bounds numbers (record { mark = mark; reached = reached bounds (drop 1 numbers) })
walk_place_is bounds [] mark some e = absurd (cc)
walk_place_is bounds (number ∷ numbers) mark some e =
    let same : number ≡ mark = cc in
    subst (λ m. IsWalkPlace bounds (number ∷ numbers) (record { mark = m; reached = reached bounds numbers })) same (behind_mark bounds number numbers some)
