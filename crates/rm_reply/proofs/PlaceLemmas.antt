-- A list of a GetBulkRequest as it is put is one whose bindings stand at their places.
use Rattle.std.proofs.Common.{◌≡◌, ◌≤◌, ◌<◌, ℕ, zero, suc, ◌+◌, ◌-◌, ◌*◌, Bool, true, false, List, [], ◌∷◌, ◌++◌, length, take, drop, ◌⊎◌, inl, inr, refl, sym, ap, subst, ◌∙◌, true≢false, arith}
use Rattle.std.specs.Prelude.{◌↔◌}
use Rattle.std.proofs.Math.Nat.{suc-mul, add-mul}
use Rattle.std.proofs.lemmas.Bool.{cases_lt}
use Rattle.std.proofs.lemmas.List.{append_assoc, map-append, length-map, length-take-le, length-drop, take-append-drop, drop-drop, drop_all}
use Rattle.rm_pdu.specs.Message.{Binding, Message}
use Rattle.rm_reply.specs.Answered.{AreFirst, are_end}
use Rattle.rm_reply.specs.Replies.{names_of, counting, non_repeaters, repeaters, IsBulkList, IsLongest}
use Rattle.rm_reply.specs.Fronts.{IsFront, AreRepetitions}
use Rattle.rm_reply.proofs.BulkLemmas.{IsBulkFront, Goes}

-- the answers to names and to more of them
first_join : (IsOne : List ℕ → Binding → Type 0) (names more : List (List ℕ)) (list : List Binding) → AreFirst IsOne names (take (length names) list)
    → AreFirst IsOne more (drop (length names) list) → AreFirst IsOne (names ++ more) list
first_join IsOne [] more list p q = q
first_join IsOne (name ∷ names) more [] p q = tt
first_join IsOne (name ∷ names) more (binding ∷ list) p q = (p.0, first_join IsOne names more list p.1 q)

first_split : (IsOne : List ℕ → Binding → Type 0) (names more : List (List ℕ)) (list : List Binding) → AreFirst IsOne (names ++ more) list
    → AreFirst IsOne names (take (length names) list) × AreFirst IsOne more (drop (length names) list)
first_split IsOne [] more list p = (tt, p)
first_split IsOne (name ∷ names) more [] p = (tt, tt)
first_split IsOne (name ∷ names) more (binding ∷ list) p = let rest = first_split IsOne names more list p.1 in ((p.0, rest.0), rest.1)

-- a front is the answers to names, and what may follow where these are all
front_split : (IsOne : List ℕ → Binding → Type 0) (names : List (List ℕ)) (Follows : List Binding → List Binding → Type 0) (list : List Binding) → IsFront IsOne names Follows list
    → AreFirst IsOne names (take (length names) list) × (length names ≤ length list → Follows (take (length names) list) (drop (length names) list))
front_split IsOne [] Follows list front = (tt, λ _. front)
front_split IsOne (name ∷ names) Follows [] front = (tt, λ all. absurd (omega (arith, all)))
front_split IsOne (name ∷ names) Follows (binding ∷ list) front =
    let rest = front_split IsOne names (λ answers more. Follows (binding ∷ answers) more) list front.1 in
    ((front.0, rest.0), λ all. rest.1 (omega (arith, all)))

front_join : (IsOne : List ℕ → Binding → Type 0) (names : List (List ℕ)) (Follows : List Binding → List Binding → Type 0) (list : List Binding) → AreFirst IsOne names (take (length names) list)
    → (length names ≤ length list → Follows (take (length names) list) (drop (length names) list)) → IsFront IsOne names Follows list
front_join IsOne [] Follows list first follows = follows (omega arith)
front_join IsOne (name ∷ names) Follows [] first follows = tt
front_join IsOne (name ∷ names) Follows (binding ∷ list) first follows =
    (first.0, front_join IsOne names (λ answers more. Follows (binding ∷ answers) more) list first.1 (λ all. follows (omega (arith, all))))

-- repetitions by their places
record AreInPlace (IsOne : List ℕ → Binding → Type 0) (most : ℕ) (names : List (List ℕ)) (list : List Binding) : Type 0 where
  answers : AreFirst IsOne (names ++ names_of list) list
  few : length list ≤ most * length names
  goes_on : (index : ℕ) → (index + 1) * length names < length list → are_end (take (length names) (drop (index * length names) list)) ≡ false

-- what stands behind a first repetition: nothing, or repetitions for its names
abbrev Behind : (List ℕ → Binding → Type 0) → ℕ → List (List ℕ) → List Binding → Type 0
Behind IsOne most names list =
    (drop (length names) list ≡ [])
    ⊎ ((are_end (take (length names) list) ≡ false) × (length names ≤ length list)
    × AreInPlace IsOne most (names_of (take (length names) list)) (drop (length names) list))

-- the names of a whole repetition are as many as those that it is for
as_many : (names : List (List ℕ)) (list : List Binding) → length names ≤ length list → length (names_of (take (length names) list)) ≡ length names
as_many names list all = length-map (take (length names) list) (λ (binding : Binding). binding.name) ∙ length-take-le (length names) list all

names_apart : (names : List (List ℕ)) (list : List Binding) → names_of (take (length names) list) ++ names_of (drop (length names) list) ≡ names_of list
names_apart names list = sym (map-append (λ (binding : Binding). binding.name) (take (length names) list) (drop (length names) list)) ∙ ap names_of (take-append-drop (length names) list)

-- the first repetition stands at the front
first_place : (names : List (List ℕ)) (list : List Binding) → drop (0 * length names) list ≡ list
first_place names list = let none : 0 * length names ≡ 0 = omega arith in ap (λ (n : ℕ). drop n list) none

-- the next repetition is the one before of what stands behind the first
next_place : (index : ℕ) (names : List (List ℕ)) (list : List Binding) → drop (index * length names) (drop (length names) list) ≡ drop (suc index * length names) list
next_place index names list =
    drop-drop (index * length names) (length names) list ∙ ap (λ (n : ℕ). drop n list) (omega (arith, suc-mul index (length names)))

place_first : (IsOne : List ℕ → Binding → Type 0) (most : ℕ) (names : List (List ℕ)) (list : List Binding) → AreFirst IsOne names (take (length names) list)
    → Behind IsOne most names list → AreInPlace IsOne (suc most) names list
place_first IsOne most names list first (inl none) =
    let short : length list ≤ length names = omega (arith, length-drop (length names) list, ap length none) in record {
      answers = first_join IsOne names (names_of list) list first (subst (AreFirst IsOne (names_of list)) (sym none) tt);
      few = omega (arith, short, suc-mul most (length names));
      goes_on = λ index longer. absurd (omega (arith, short, longer, add-mul index 1 (length names)));
    }
place_first IsOne most names list first (inr (on, all, behind)) =
    let many = as_many names list all in
    let rest = length-drop (length names) list in record {
      answers = first_join IsOne names (names_of list) list first (subst (λ (ns : List (List ℕ)). AreFirst IsOne ns (drop (length names) list)) (names_apart names list) behind.answers);
      few = omega (arith, subst (λ (n : ℕ). length (drop (length names) list) ≤ most * n) many behind.few, rest, suc-mul most (length names));
      goes_on = later;
    }
  where
    later : (index : ℕ) → (index + 1) * length names < length list → are_end (take (length names) (drop (index * length names) list)) ≡ false
    later zero longer = ap (λ (xs : List Binding). are_end (take (length names) xs)) (first_place names list) ∙ on
    later (suc index) longer =
        let long : (index + 1) * length names < length (drop (length names) list) =
        omega (arith, longer, length-drop (length names) list, add-mul (suc index) 1 (length names), add-mul index 1 (length names), suc-mul index (length names)) in
        let there = subst (λ (n : ℕ). (index + 1) * n < length (drop (length names) list) → are_end (take n (drop (index * n) (drop (length names) list))) ≡ false) (as_many names list all) (behind.goes_on index) long in
        ap (λ (xs : List Binding). are_end (take (length names) xs)) (sym (next_place index names list)) ∙ there

place_rest : (IsOne : List ℕ → Binding → Type 0) (most : ℕ) (names : List (List ℕ)) (list : List Binding) → length names ≤ length list → AreInPlace IsOne (suc most) names list
    → AreInPlace IsOne most (names_of (take (length names) list)) (drop (length names) list)
place_rest IsOne most names list all are =
    let many = as_many names list all in
    let rest = length-drop (length names) list in record {
      answers = subst (λ (ns : List (List ℕ)). AreFirst IsOne ns (drop (length names) list)) (sym (names_apart names list)) (first_split IsOne names (names_of list) list are.answers).1;
      few = subst (λ (n : ℕ). length (drop (length names) list) ≤ most * n) (sym many) (omega (arith, are.few, rest, suc-mul most (length names)));
      goes_on = λ index. subst (λ (n : ℕ). (index + 1) * n < length (drop (length names) list) → are_end (take n (drop (index * n) (drop (length names) list))) ≡ false) (sym many)
          (λ longer. ap (λ (xs : List Binding). are_end (take (length names) xs)) (next_place index names list)
          ∙ are.goes_on (suc index) (omega (arith, longer, rest, add-mul (suc index) 1 (length names), add-mul index 1 (length names), suc-mul index (length names))));
    }

-- a list is over, or has an element
over_or_not : (list : List Binding) → (list ≡ []) ⊎ (0 < length list)
over_or_not [] = inl refl
over_or_not (binding ∷ list) = inr (omega arith)

in_place : (IsOne : List ℕ → Binding → Type 0) (most : ℕ) (names : List (List ℕ)) (list : List Binding) → AreRepetitions IsOne most names list → AreInPlace IsOne most names list
in_place IsOne zero names list none = record {
  answers = subst (λ (bs : List Binding). AreFirst IsOne (names ++ names_of bs) bs) (sym none) tt;
  few = omega (arith, ap length none);
  goes_on = λ index longer. absurd (omega (arith, ap length none, longer));
}
in_place IsOne (suc most) names list front =
    let split = front_split IsOne names (Goes IsOne most) list front in
    place_first IsOne most names list split.0 (elim (cases_lt (length list) (length names)) [
      | inl short ↦ inl (drop_all (length names) list (omega (arith, short)))
      | inr all ↦ by_end (are_end (take (length names) list)) refl all (split.1 all) (λ are. in_place IsOne most (names_of (take (length names) list)) (drop (length names) list) are)
    ])
  where
    by_end : (end : Bool) → are_end (take (length names) list) ≡ end → length names ≤ length list → Goes IsOne most (take (length names) list) (drop (length names) list)
        → (AreRepetitions IsOne most (names_of (take (length names) list)) (drop (length names) list) → AreInPlace IsOne most (names_of (take (length names) list)) (drop (length names) list))
        → Behind IsOne most names list
    by_end true is all goes place = inl (goes.0 is)
    by_end false is all goes place = inr (is, all, place (goes.1 is))

are_repetitions : (IsOne : List ℕ → Binding → Type 0) (most : ℕ) (names : List (List ℕ)) (list : List Binding) → AreInPlace IsOne most names list → AreRepetitions IsOne most names list
are_repetitions IsOne zero names [] are = refl
are_repetitions IsOne zero names (binding ∷ list) are = absurd (omega (arith, are.few))
are_repetitions IsOne (suc most) names list are =
    front_join IsOne names (Goes IsOne most) list (first_split IsOne names (names_of list) list are.answers).0
    (λ all. (
      λ end. elim (over_or_not (drop (length names) list)) [
        | inl none ↦ none
        | inr some ↦ absurd (
            let first : are_end (take (length names) (drop (0 * length names) list)) ≡ false = are.goes_on 0 (omega (arith, some, length-drop (length names) list)) in
            true≢false (sym end ∙ ap (λ (xs : List Binding). are_end (take (length names) xs)) (sym (first_place names list)) ∙ first))
      ],
      λ _. are_repetitions IsOne most (names_of (take (length names) list)) (drop (length names) list) (place_rest IsOne most names list all are),
    ))

-- a list with so many answers to names that aren't repeated, and repetitions for so many others
record IsInPlace (IsOne : List ℕ → Binding → Type 0) (most fixed repeated : ℕ) (names : List (List ℕ)) (list : List Binding) : Type 0 where
  answers : AreFirst IsOne (names ++ names_of (drop fixed list)) list
  few : length list ≤ fixed + most * repeated
  goes_on : (index : ℕ) → fixed + (index + 1) * repeated < length list → are_end (take repeated (drop (fixed + index * repeated) list)) ≡ false

none_in_place : (IsOne : List ℕ → Binding → Type 0) (most : ℕ) (names : List (List ℕ)) → AreInPlace IsOne most names []
none_in_place IsOne most names = record { answers = tt; few = omega arith; goes_on = λ index longer. absurd (omega (arith, longer)) }

-- the list of a GetBulkRequest, by the names that aren't repeated and the others
abbrev BulkFront : (List ℕ → Binding → Type 0) → ℕ → List (List ℕ) → List (List ℕ) → List Binding → Type 0
BulkFront IsOne most fixed repeated list = IsFront IsOne fixed (λ answers rest. AreRepetitions IsOne most repeated rest) list

bulk_in_place : (IsOne : List ℕ → Binding → Type 0) (most : ℕ) (fixed repeated : List (List ℕ)) (list : List Binding) → BulkFront IsOne most fixed repeated list
    → IsInPlace IsOne most (length fixed) (length repeated) (fixed ++ repeated) list
bulk_in_place IsOne most fixed repeated list front =
    let split = front_split IsOne fixed (λ answers rest. AreRepetitions IsOne most repeated rest) list front in
    let rest = drop (length fixed) list in
    let place : AreInPlace IsOne most repeated rest = elim (cases_lt (length list) (length fixed)) [
      | inl short ↦ subst (AreInPlace IsOne most repeated) (sym (drop_all (length fixed) list (omega (arith, short)))) (none_in_place IsOne most repeated)
      | inr all ↦ in_place IsOne most repeated rest (split.1 all)
    ] in
    let long = length-drop (length fixed) list in record {
      answers = subst (λ (ns : List (List ℕ)). AreFirst IsOne ns list) (sym (append_assoc fixed repeated (names_of rest))) (first_join IsOne fixed (repeated ++ names_of rest) list split.0 place.answers);
      few = omega (arith, place.few, long);
      goes_on = λ index longer.
          ap (λ (xs : List Binding). are_end (take (length repeated) xs)) (sym (drop-drop (index * length repeated) (length fixed) list)) ∙ place.goes_on index (omega (arith, longer, long));
    }

bulk_from_places : (IsOne : List ℕ → Binding → Type 0) (most : ℕ) (fixed repeated : List (List ℕ)) (list : List Binding)
    → IsInPlace IsOne most (length fixed) (length repeated) (fixed ++ repeated) list → BulkFront IsOne most fixed repeated list
bulk_from_places IsOne most fixed repeated list is =
    let rest = drop (length fixed) list in
    let long = length-drop (length fixed) list in
    let split = first_split IsOne fixed (repeated ++ names_of rest) list (subst (λ (ns : List (List ℕ)). AreFirst IsOne ns list) (append_assoc fixed repeated (names_of rest)) is.answers) in
    front_join IsOne fixed (λ answers rest. AreRepetitions IsOne most repeated rest) list split.0
    (λ all. are_repetitions IsOne most repeated rest (record {
      answers = split.1;
      few = omega (arith, is.few, long);
      goes_on = λ index longer.
          ap (λ (xs : List Binding). are_end (take (length repeated) xs)) (drop-drop (index * length repeated) (length fixed) list) ∙ is.goes_on index (omega (arith, longer, long));
    }))

-- the names of a request that aren't repeated and the others are all its names
module _ (request : Message) where
  abbrev names : List (List ℕ)
  names = names_of request.bindings

  fixed_many : length (take (non_repeaters request) names) ≡ non_repeaters request
  fixed_many = length-take-le (non_repeaters request) names (omega (arith, length-map request.bindings (λ (binding : Binding). binding.name)))

  repeated_many : length (drop (non_repeaters request) names) ≡ repeaters request
  repeated_many = length-drop (non_repeaters request) names ∙ ap (λ (n : ℕ). n - non_repeaters request) (length-map request.bindings (λ (binding : Binding). binding.name))

  same_numbers : (IsOne : List ℕ → Binding → Type 0) (most fixed repeated : ℕ) (all : List (List ℕ)) (list : List Binding) → fixed ≡ non_repeaters request → repeated ≡ repeaters request → all ≡ names
      → IsInPlace IsOne most fixed repeated all list ↔ IsInPlace IsOne most (non_repeaters request) (repeaters request) names list
  same_numbers IsOne most fixed repeated all list is_fixed is_repeated is_all = rw (is_fixed, is_repeated, is_all) (λ is. is, λ is. is)

  bulk_list : (IsOne : List ℕ → Binding → Type 0) (list : List Binding) → IsBulkFront IsOne request list ↔ IsBulkList IsOne request list
  bulk_list IsOne list =
      let fixed = take (non_repeaters request) names in
      let repeated = drop (non_repeaters request) names in
      let most = counting request.second in
      let same = same_numbers IsOne most (length fixed) (length repeated) (fixed ++ repeated) list fixed_many repeated_many (take-append-drop (non_repeaters request) names) in (
        λ front. let is = same.0 (bulk_in_place IsOne most fixed repeated list front) in record { answers = is.answers; few = is.few; goes_on = is.goes_on },
        λ is. bulk_from_places IsOne most fixed repeated list (same.1 (record { answers = is.answers; few = is.few; goes_on = is.goes_on })),
      )

pub bulk_is_list : (IsOne : List ℕ → Binding → Type 0) (request : Message) (list : List Binding) → IsBulkFront IsOne request list ↔ IsBulkList IsOne request list
bulk_is_list IsOne request list = bulk_list request IsOne list

-- the longest front is the same by both
pub longest_by_place : (IsOne : List ℕ → Binding → Type 0) (request : Message) (list : List Binding) → IsLongest (IsBulkFront IsOne request) request list → IsLongest (IsBulkList IsOne request) request list
longest_by_place IsOne request list is = record {
  part = (bulk_is_list IsOne request list).0 is.part;
  short = is.short;
  longest = λ more behind fits. is.longest more ((bulk_is_list IsOne request (list ++ more)).1 behind) fits;
}
