-- The search for the sample that is due next, alarm by alarm.
use Rattle.std.proofs.Common.{◌≡◌, ◌⊎◌, inl, inr, ℕ, zero, suc, ◌<◌, ◌≤◌, true, false, cond, Option, Some, None, refl, sym, subst, ◌∙◌, nat_lt, arith}
use Rattle.std.proofs.lemmas.Bool.{cases_lt}
use Rattle.std.proofs.lemmas.Bool.Decides.{nat_tests}
use Rattle.std.proofs.lemmas.Option.{same_Some}
use Rattle.rm_acts.specs.Alarms.{IsNextDue, nearer}

none_some : (o : Option ℕ) (x : ℕ) → o ≡ None → o ≡ Some x → ⊥
none_some o x e f = cc

-- what holds up to a number, of those between and of a higher one holds up to that one
up_to : (P : ℕ → Type 0) (last index : ℕ) → ((i : ℕ) → i ≤ last → P i) → ((i : ℕ) → last < i → i < index → P i) → P index → (i : ℕ) → i ≤ index → P i
up_to P last index low between at i within = by_last (cases_lt last i)
  where
    by_index : last < i → (i < index) ⊎ (index ≤ i) → P i
    by_index above (inl before) = between i above before
    by_index above (inr not_before) = subst P (omega (arith, within, not_before)) at

    by_last : (last < i) ⊎ (i ≤ last) → P i
    by_last (inl above) = by_index above (cases_lt i index)
    by_last (inr under) = low i under

-- a sample comes before another, at one moment by the number of the alarm
abbrev IsAhead : ℕ × ℕ → ℕ → ℕ → Type 0
IsAhead next moment other = (next.0 < moment) ⊎ ((next.0 ≡ moment) × (next.1 ≤ other))

is_later : (next : ℕ × ℕ) (moment other : ℕ) → next.1 ≤ other → (next.0 < moment) ⊎ (moment ≤ next.0) → next.0 ≤ moment → IsAhead next moment other
is_later next moment other above (inl before) le = inl before
is_later next moment other above (inr not_before) le = inr (omega (arith, not_before, le), above)

module _ (due : ℕ → Option ℕ) where
  -- the next sample of the alarms up to one
  abbrev pub IsNextTo : ℕ → Option (ℕ × ℕ) → Type 0
  IsNextTo last None = (alarm : ℕ) → alarm ≤ last → due alarm ≡ None
  IsNextTo last (Some next) =
      (due next.1 ≡ Some next.0) × (next.1 ≤ last)
      × ((other moment : ℕ) → other ≤ last → due other ≡ Some moment → (next.0 < moment) ⊎ ((next.0 ≡ moment) × (next.1 ≤ other)))

  -- one alarm more, with none between
  module _ (last index : ℕ) (above : last < index) (between : (i : ℕ) → last < i → i < index → due i ≡ None) where
    -- what is ahead of those up to the last alarm, and of the one more
    ahead_of_all : (next : ℕ × ℕ) → ((other moment : ℕ) → other ≤ last → due other ≡ Some moment → IsAhead next moment other) → ((moment : ℕ) → due index ≡ Some moment → IsAhead next moment index)
        → (other moment : ℕ) → other ≤ index → due other ≡ Some moment → IsAhead next moment other
    ahead_of_all next low at other moment within =
        up_to (λ i. due i ≡ Some moment → IsAhead next moment i) last index (λ i. low i moment) (λ i mid before e. absurd (none_some (due i) moment (between i mid before) e)) (at moment) other within

    its_own : (d : ℕ) → due index ≡ Some d → (moment : ℕ) → due index ≡ Some moment → IsAhead (d, index) moment index
    its_own d here moment e = inr (same_Some d moment (sym here ∙ e), omega arith)

    pub next_more : (next : Option (ℕ × ℕ)) (o : Option ℕ) → due index ≡ o → IsNextTo last next → IsNextTo index (nearer next o index)
    next_more None None here is = up_to (λ i. due i ≡ None) last index is between here
    next_more None (Some d) here is = (here, omega arith, ahead_of_all (d, index) (λ other moment low e. absurd (none_some (due other) moment (is other low) e)) (its_own d here))
    next_more (Some next) None here is = (is.0, omega (arith, is.1, above), ahead_of_all next is.2 (λ moment e. absurd (none_some (due index) moment here e)))
    next_more (Some next) (Some d) here is =
        elim (nat_lt d next.0) as (λ t. nat_lt d next.0 ≡ t → IsNextTo index (cond t (Some (d, index)) (Some next))) [
          | true ↦ λ e. (here, omega arith, ahead_of_all (d, index) (λ other moment low f. sooner other moment (grind (arith, nat_tests)) (is.2 other moment low f)) (its_own d here))
          | false ↦ λ e. (is.0, omega (arith, is.1, above), ahead_of_all next is.2 (λ moment f. later moment (grind (arith, nat_tests)) (same_Some d moment (sym here ∙ f))))
        ] refl
      where
        sooner : (other moment : ℕ) → d < next.0 → IsAhead next moment other → IsAhead (d, index) moment other
        sooner other moment less (inl h) = inl (omega (arith, less, h))
        sooner other moment less (inr h) = inl (omega (arith, less, h.0))

        later : (moment : ℕ) → next.0 ≤ d → d ≡ moment → IsAhead next moment index
        later moment le same = is_later next moment index (omega (arith, is.1, above)) (cases_lt next.0 moment) (omega (arith, le, same))

  -- none is above
  pub next_all : (last : ℕ) (next : Option (ℕ × ℕ)) → ((i : ℕ) → last < i → due i ≡ None) → IsNextTo last next → IsNextDue due next
  next_all last None none is = λ alarm. by_place alarm (cases_lt last alarm)
    where
      by_place : (alarm : ℕ) → (last < alarm) ⊎ (alarm ≤ last) → due alarm ≡ None
      by_place alarm (inl above) = none alarm above
      by_place alarm (inr under) = is alarm under
  next_all last (Some next) none is = (is.0, λ other moment f. by_place other moment f (cases_lt last other))
    where
      by_place : (other moment : ℕ) → due other ≡ Some moment → (last < other) ⊎ (other ≤ last) → IsAhead next moment other
      by_place other moment f (inl above) = absurd (none_some (due other) moment (none other above) f)
      by_place other moment f (inr under) = is.2 other moment under f

  -- there is a next one of the alarms up to any, and so of all where none is above one
  next_to : (last : ℕ) → (best : Option (ℕ × ℕ)) × IsNextTo last best
  next_to zero = (nearer None (due 0) 0, first (due 0) refl)
    where
      only : (P : ℕ → Type 0) → P 0 → (i : ℕ) → i ≤ 0 → P i
      only P at i low = subst P (omega (arith, low)) at

      first : (o : Option ℕ) → due 0 ≡ o → IsNextTo 0 (nearer None o 0)
      first None here = only (λ i. due i ≡ None) here
      first (Some d) here = (here, omega arith, λ other moment low e. inr (only (λ i. due i ≡ Some moment → d ≡ moment) (λ f. same_Some d moment (sym here ∙ f)) other low e, omega arith))
  next_to (suc last) =
      let rest = next_to last in
      (nearer rest.0 (due (suc last)) (suc last), next_more last (suc last) (omega arith) (λ i low high. absurd (omega (arith, low, high))) rest.0 (due (suc last)) refl rest.1)

  pub next_of : (last : ℕ) → ((i : ℕ) → last ≤ i → due i ≡ None) → (best : Option (ℕ × ℕ)) × IsNextDue due best
  next_of last above = let up = next_to last in (up.0, next_all last up.0 (λ i low. above i (omega (arith, low))) up.1)
