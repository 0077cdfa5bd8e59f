-- What a key has gained since an earlier list of mentions, by the difference of what it had gained then and what it has now.
use Rattle.std.proofs.Common.{◌≡◌, ℕ, ◌+◌, ◌-◌, ◌%◌, ◌^◌, ◌<◌, ◌≤◌, ◌⊎◌, Bool, true, false, cond, ◌&&◌, List, [], ◌∷◌, ◌++◌, length, refl, sym, ap, ◌∙◌, arith, subst, inl, inr}
use Rattle.std.specs.Prelude.{nat_le, sum_by}
use Rattle.std.proofs.lemmas.Bool.{true≢false}
use Rattle.std.proofs.lemmas.Bool.Decides.{nat_tests}
use Rattle.std.proofs.lemmas.List.{append-nil, length-append}
use Rattle.std.proofs.lemmas.List.Sums.{sum_by-cons, sum_by-append}
use Rattle.rm_evicting.specs.Mention.{Mention, refers, strays, keys}
use Rattle.rm_evicting.specs.Held.{IsExact, is_arrival, held, entry, gains, since_entry, shares}
use Rattle.rm_evicting.specs.Stands.{total}
use Rattle.rm_report.proofs.Persist.{AllFrom, IsOld, IsNew, old_or_new}

-- differences of numbers that are kept modulo 2 ^ 64
difference : (later before : ℕ) → later < 2 ^ 64 → ((later + before) % 2 ^ 64 + (2 ^ 64 - before % 2 ^ 64)) % 2 ^ 64 ≡ later
difference later before few = omega arith

whole : (sum : ℕ) → sum < 2 ^ 64 → (sum % 2 ^ 64 + (2 ^ 64 - 0)) % 2 ^ 64 ≡ sum
whole sum few = omega arith

module _ {C V : Type 0} (blank : V) (plus : V → C → V) (column : V → ℕ) (gained : C → ℕ)
    (nothing : column blank ≡ 0) (more : (sum : V) (gain : C) → column (plus sum gain) ≡ (column sum + gained gain) % 2 ^ 64) where
  -- the sum of what was gained is kept modulo 2 ^ 64
  pub column_kept : (gains : List C) → column (total blank plus gains) ≡ sum_by gained gains % 2 ^ 64
  column_kept [] = nothing
  column_kept (gain ∷ earlier) =
      let before : column (total blank plus earlier) ≡ sum_by gained earlier % 2 ^ 64 = column_kept earlier in
      let after : column (plus (total blank plus earlier) gain) ≡ (column (total blank plus earlier) + gained gain) % 2 ^ 64 = more (total blank plus earlier) gain in
      let sums : sum_by gained (gain ∷ earlier) ≡ gained gain + sum_by gained earlier = sum_by-cons gained gain earlier in
      rw (after, sums) (omega arith)

module _ {K C : Type 0} where
  -- The mentions go on from earlier ones, or came all after these. `after` are those after these, and the stamps tell them apart.
  pub data Goes (least : ℕ) (early : List (Mention K C)) : (mentions after : List (Mention K C)) → Type 0 where
    goes_on : (later : List (Mention K C)) → AllFrom least later → Goes least early (later ++ early) later
    begins_anew : (mentions : List (Mention K C)) → AllFrom least mentions → Goes least early mentions mentions

module _ {K C : Type 0} (eq : K → K → Bool) (exact : IsExact eq) (capacity : ℕ) (count : C → ℕ) where
  pub gains_both : (key : K) (later early : List (Mention K C)) → gains eq key (later ++ early) ≡ gains eq key later ++ gains eq key early
  gains_both key [] early = refl
  gains_both key (refers newest stamp tick gain ∷ later) early = go (eq key newest) (gains_both key later early)
    where
      go : (t : Bool) → gains eq key (later ++ early) ≡ gains eq key later ++ gains eq key early
          → cond t (gain ∷ gains eq key (later ++ early)) (gains eq key (later ++ early)) ≡ cond t (gain ∷ gains eq key later) (gains eq key later) ++ gains eq key early
      go true rest = ap (λ gs. gain ∷ gs) rest
      go false rest = rest
  gains_both key (strays newest gain ∷ later) early = go (eq key newest) (gains_both key later early)
    where
      go : (t : Bool) → gains eq key (later ++ early) ≡ gains eq key later ++ gains eq key early
          → cond t (gain ∷ gains eq key (later ++ early)) (gains eq key (later ++ early)) ≡ cond t (gain ∷ gains eq key later) (gains eq key later) ++ gains eq key early
      go true rest = ap (λ gs. gain ∷ gs) rest
      go false rest = rest

  -- the mentions from an entry on are no more than all
  since_shorter : (key : K) (mentions : List (Mention K C)) → length (since_entry eq capacity key mentions) ≤ length mentions
  since_shorter key [] = omega arith
  since_shorter key (strays newest gain ∷ earlier) = omega (arith, since_shorter key earlier)
  since_shorter key (refers newest stamp tick gain ∷ earlier) = go (eq key newest && is_arrival eq capacity key (keys earlier)) (since_shorter key earlier)
    where
      go : (t : Bool) → length (since_entry eq capacity key earlier) ≤ length earlier
          → length (refers newest stamp tick gain ∷ cond t [] (since_entry eq capacity key earlier)) ≤ length (refers newest stamp tick gain ∷ earlier)
      go true rest = omega arith
      go false rest = omega arith

  pub sum_both : (key : K) (later early : List (Mention K C)) → sum_by count (gains eq key (later ++ early)) ≡ sum_by count (gains eq key later) + sum_by count (gains eq key early)
  sum_both key later early = ap (sum_by count) (gains_both key later early) ∙ sum_by-append count (gains eq key later) (gains eq key early)

  since_front : (key : K) (mentions : List (Mention K C)) → (rest : List (Mention K C)) × (mentions ≡ since_entry eq capacity key mentions ++ rest)
  since_front key [] = ([], refl)
  since_front key (strays newest gain ∷ earlier) = let more = since_front key earlier in (more.0, ap (λ ms. strays newest gain ∷ ms) more.1)
  since_front key (refers newest stamp tick gain ∷ earlier) = go (eq key newest && is_arrival eq capacity key (keys earlier)) (since_front key earlier)
    where
      go : (t : Bool) → (rest : List (Mention K C)) × (earlier ≡ since_entry eq capacity key earlier ++ rest)
          → (rest : List (Mention K C)) × ((refers newest stamp tick gain ∷ earlier) ≡ (refers newest stamp tick gain ∷ cond t [] (since_entry eq capacity key earlier)) ++ rest)
      go true more = (earlier, refl)
      go false more = (more.0, ap (λ ms. refers newest stamp tick gain ∷ ms) more.1)

  -- and add up to no more
  pub since_less : (key : K) (mentions : List (Mention K C)) → sum_by count (gains eq key (since_entry eq capacity key mentions)) ≤ sum_by count (gains eq key mentions)
  since_less key mentions =
      let front = since_front key mentions in
      let parts : sum_by count (gains eq key mentions) ≡ sum_by count (gains eq key (since_entry eq capacity key mentions)) + sum_by count (gains eq key front.0) =
      ap (λ ms. sum_by count (gains eq key ms)) front.1 ∙ sum_both key (since_entry eq capacity key mentions) front.0 in
      omega arith

  abbrev shorter : List (Mention K C) → List (Mention K C) → List (Mention K C)
  shorter one other = cond (nat_le (length one) (length other)) one other

  -- What a key has gained is the difference of its sums where it was held before with the same entry; else it is its sum, and no key had
  -- that entry before.
  pub data Gains (least : ℕ) (early mentions after : List (Mention K C)) (key : K) : Type 0 where
    by_difference : held eq capacity key (keys early) ≡ true → entry eq capacity key mentions ≡ entry eq capacity key early
        → (sum_by count (shares eq capacity key mentions) % 2 ^ 64 + (2 ^ 64 - sum_by count (shares eq capacity key early) % 2 ^ 64)) % 2 ^ 64 ≡ sum_by count (gains eq key (shorter (since_entry eq capacity key mentions) after))
        → Gains least early mentions after key
    by_itself : least ≤ entry eq capacity key mentions
        → (sum_by count (shares eq capacity key mentions) % 2 ^ 64 + (2 ^ 64 - 0)) % 2 ^ 64 ≡ sum_by count (gains eq key (shorter (since_entry eq capacity key mentions) after))
        → Gains least early mentions after key

  module _ (least : ℕ) (key : K) where
    shorter_first : (one other : List (Mention K C)) → length one ≤ length other → shorter one other ≡ one
    shorter_first one other le = ap (λ t. cond t one other) (is_le (length one) (length other) le)
      where
        is_le : (m n : ℕ) → m ≤ n → nat_le m n ≡ true
        is_le m n le = grind (arith, nat_tests)

    longer_second : (one other : List (Mention K C)) → length other < length one → shorter one other ≡ other
    longer_second one other lt = ap (λ t. cond t one other) (isnt_le (length one) (length other) lt)
      where
        isnt_le : (m n : ℕ) → n < m → nat_le m n ≡ false
        isnt_le m n lt = grind (arith, nat_tests)

    sum_later : (later before : List (Mention K C)) → sum_by count (gains eq key (shorter (later ++ before) later)) ≡ sum_by count (gains eq key later)
    sum_later later [] =
        let few : length (later ++ []) ≤ length later = omega (arith, ap length (append-nil later)) in
        ap (λ ms. sum_by count (gains eq key ms)) (shorter_first (later ++ []) later few ∙ append-nil later)
    sum_later later (first ∷ before) =
        let many : length later < length (later ++ first ∷ before) = omega (arith, length-append later (first ∷ before)) in
        ap (λ ms. sum_by count (gains eq key ms)) (longer_second (later ++ first ∷ before) later many)

    new_sum : (mentions after : List (Mention K C)) → length (since_entry eq capacity key mentions) ≤ length after → sum_by count (gains eq key mentions) < 2 ^ 64
        → (sum_by count (shares eq capacity key mentions) % 2 ^ 64 + (2 ^ 64 - 0)) % 2 ^ 64 ≡ sum_by count (gains eq key (shorter (since_entry eq capacity key mentions) after))
    new_sum mentions after le few =
        let less : sum_by count (shares eq capacity key mentions) < 2 ^ 64 = omega (arith, since_less key mentions) in
        whole (sum_by count (shares eq capacity key mentions)) less
        ∙ ap (λ ms. sum_by count (gains eq key ms)) (sym (shorter_first (since_entry eq capacity key mentions) after le))

    by_parts : (early later : List (Mention K C)) → (IsOld eq exact capacity key later early ⊎ IsNew eq exact capacity least key later early)
        → sum_by count (gains eq key (later ++ early)) < 2 ^ 64 → Gains least early (later ++ early) later key
    by_parts early later (inl old) few =
        let both : sum_by count (shares eq capacity key (later ++ early)) ≡ sum_by count (gains eq key later) + sum_by count (shares eq capacity key early) =
        ap (λ ms. sum_by count (gains eq key ms)) old.since ∙ sum_both key later (since_entry eq capacity key early) in
        let all : sum_by count (gains eq key (later ++ early)) ≡ sum_by count (gains eq key later) + sum_by count (gains eq key early) = sum_both key later early in
        let less : sum_by count (gains eq key later) < 2 ^ 64 = omega arith in
        by_difference old.held old.entry
        (ap (λ n. (n % 2 ^ 64 + (2 ^ 64 - sum_by count (shares eq capacity key early) % 2 ^ 64)) % 2 ^ 64) both
        ∙ difference (sum_by count (gains eq key later)) (sum_by count (shares eq capacity key early)) less
        ∙ sym (sum_later later (since_entry eq capacity key early))
        ∙ ap (λ ms. sum_by count (gains eq key (shorter ms later))) (sym old.since))
    by_parts early later (inr new) few = by_itself new.entry (new_sum (later ++ early) later new.since few)

    anew : (mentions : List (Mention K C)) → AllFrom least mentions → held eq capacity key (keys mentions) ≡ true → least ≤ entry eq capacity key mentions
    anew mentions from is = go (old_or_new eq exact capacity least key mentions [] from (subst (λ ms. held eq capacity key (keys ms) ≡ true) (sym (append-nil mentions)) is))
      where
        go : (IsOld eq exact capacity key mentions [] ⊎ IsNew eq exact capacity least key mentions []) → least ≤ entry eq capacity key mentions
        go (inl old) = absurd (true≢false (sym old.held))
        go (inr new) = subst (λ ms. least ≤ entry eq capacity key ms) (append-nil mentions) new.entry

    pub gains_since : (early mentions after : List (Mention K C)) → Goes least early mentions after → held eq capacity key (keys mentions) ≡ true
        → sum_by count (gains eq key mentions) < 2 ^ 64 → Gains least early mentions after key
    gains_since early mentions after (goes_on later from) is few = by_parts early later (old_or_new eq exact capacity least key later early from is) few
    gains_since early mentions after (begins_anew all from) is few = by_itself (anew mentions from is) (new_sum mentions mentions (since_shorter key mentions) few)
