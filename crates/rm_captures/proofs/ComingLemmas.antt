-- What comes next of captures is what their next step lends.
use Rattle.std.proofs.Common.{◌≡◌, ℕ, ◌+◌, ◌<◌, ◌≤◌, Bool, true, false, nat_lt, List, [], ◌∷◌, length, Option, Some, None, Result, Ok, Err, inl, inr, refl, sym, ap, subst, ◌∙◌, arith}
use Rattle.std.specs.Prelude.{◌⊎◌, ⊤}
use Rattle.std.proofs.lemmas.Bool.Decides.{nat_tests}
use Rattle.rm_edge.specs.Outside.{Held}
use Rattle.rm_model.specs.Journal.{Frame}
use Rattle.rm_pcap.specs.declared.capture.Capture.{Capture}
use Rattle.rm_pcap.specs.declared.frame.Step.{Step}
use Rattle.rm_pcap.specs.declared.frame.Step.TheVariants.{Next, End, Cut}
use Rattle.rm_pcap.specs.Steps.{Found, Whole, Stops as StopsAt}
use Rattle.rm_pcap.specs.Progress.{Progress, Shows, moment_found}
use Rattle.rm_pcap.specs.Calls.{LooksAt}
use Rattle.rm_pcap.specs.View.{progress_of}
use Rattle.rm_captures.specs.Left.{LooksAll, StepsOne, StepsSo, sooner}
use Rattle.rm_captures.specs.declared.coming.Coming.{Coming}
use Rattle.rm_captures.specs.declared.fault.CaptureFault.{CaptureFault}

-- looks over no names, and over no captures
pub looks_none : (held : List ℕ → Held) (from : ℕ) (names : List (List ℕ)) (captures : List Capture) → names ≡ [] → LooksAll held from names captures captures None
unfolding LooksAll
looks_none held from names captures none = subst (λ (t : List (List ℕ)). LooksAll held from t captures captures None) (sym none) (refl, refl)

pub looks_nowhere : (held : List ℕ → Held) (from : ℕ) (names : List (List ℕ)) (captures : List Capture) → length captures ≡ 0 → LooksAll held from names captures captures None
unfolding LooksAll
looks_nowhere held from [] captures none = (refl, refl)
looks_nowhere held from (name ∷ names) [] none = (refl, refl)
looks_nowhere held from (name ∷ names) (capture ∷ captures) none = absurd (omega (arith, none))

-- after looks that change nothing on the shelf
looks_still : (old mid : List ℕ → Held) (from : ℕ) (names : List (List ℕ)) (olds news : List Capture) (next : Option Coming) → ((each : List ℕ) → mid each ≡ old each) → LooksAll mid from names olds news next → LooksAll old from names olds news next
unfolding LooksAll
looks_still old mid from [] olds news next same looks = looks
looks_still old mid from (name ∷ names) [] news next same looks = looks
looks_still old mid from (name ∷ names) (capture ∷ olds) [] next same looks = absurd looks
looks_still old mid from (name ∷ names) (capture ∷ olds) (new ∷ news) next same (own, others, here, rest, is) =
    (own, others, subst (λ (h : Held). LooksAt h (progress_of capture) (progress_of new) own) (same name) here, looks_still old mid (from + 1) names olds news others same rest, is)

-- one more look
pub looks_more : (old mid : List ℕ → Held) (from : ℕ) (names : List (List ℕ)) (captures : List Capture) (name : List ℕ) (behind : List (List ℕ)) (capture new : Capture) (olds news : List Capture) (own : Option ℕ) (others next : Option Coming)
    → names ≡ name ∷ behind → captures ≡ capture ∷ olds → ((each : List ℕ) → mid each ≡ old each) → LooksAt (old name) (progress_of capture) (progress_of new) own → LooksAll mid (from + 1) behind olds news others
    → next ≡ sooner from own others → LooksAll old from names captures (new ∷ news) next
unfolding LooksAll
looks_more old mid from names captures name behind capture new olds news own others next names_are captures_are same here rest is =
    subst (λ (t : List (List ℕ)). LooksAll old from t captures (new ∷ news) next) (sym names_are)
    (subst (λ (cs : List Capture). LooksAll old from (name ∷ behind) cs (new ∷ news) next) (sym captures_are)
    (own, others, here, looks_still old mid (from + 1) behind olds news others same rest, is))

-- the sooner of two is one of them
sooner_is : (from : ℕ) (own : Option ℕ) (others : Option Coming) (coming : Coming) → Some coming ≡ sooner from own others → ((coming.interface ≡ from) × (own ≡ Some coming.moment)) ⊎ (others ≡ Some coming)
sooner_is from None others coming is = inr (sym is)
sooner_is from (Some moment) None coming is =
    let here : Coming = record { interface = from; moment = moment } in
    let same : coming ≡ here = cc in
    inl (ap (λ (c : Coming). c.interface) same, sym (ap (λ (c : Coming). Some c.moment) same))
sooner_is from (Some moment) (Some other) coming is = by_test (nat_lt other.moment moment) refl
  where
    by_test : (later : Bool) → nat_lt other.moment moment ≡ later → ((coming.interface ≡ from) × (Some moment ≡ Some coming.moment)) ⊎ (Some other ≡ Some coming)
    by_test true test = inr (sym (rw test at is))
    by_test false test =
        let here : Coming = record { interface = from; moment = moment } in
        let now : Some coming ≡ Some here = rw test at is in
        let same : coming ≡ here = cc in
        inl (ap (λ (c : Coming). c.interface) same, sym (ap (λ (c : Coming). Some c.moment) same))

-- what comes next is of one of these interfaces
pub told_within : (held : List ℕ → Held) (from : ℕ) (names : List (List ℕ)) (olds news : List Capture) (coming : Coming) → LooksAll held from names olds news (Some coming)
    → (from ≤ coming.interface) × (coming.interface < from + length news) × (coming.interface < from + length names)
unfolding LooksAll
told_within held from [] olds news coming looks = absurd (let e : Some coming ≡ None = looks.1 in cc)
told_within held from (name ∷ names) [] news coming looks = absurd (let e : Some coming ≡ None = looks.1 in cc)
told_within held from (name ∷ names) (old ∷ olds) [] coming looks = absurd looks
told_within held from (name ∷ names) (old ∷ olds) (new ∷ news) coming (own, others, here, rest, is) = elim (sooner_is from own others coming is) [
  | inl mine ↦ (omega (arith, mine.0), omega (arith, mine.0), omega (arith, mine.0))
  | inr theirs ↦
      let behind = told_within held (from + 1) names olds news coming (subst (λ (next : Option Coming). LooksAll held (from + 1) names olds news next) theirs rest) in
      (omega (arith, behind.0), omega (arith, behind.1), omega (arith, behind.2))
]

-- what was found ahead of each capture isn't before a moment
abbrev pub IsFrom : ℕ → Option ℕ → Type 0
IsFrom moment None = ⊤
IsFrom moment (Some found) = moment ≤ found

unfoldable pub AreFrom : ℕ → List Capture → Type 0
AreFrom moment [] = ⊤
AreFrom moment (capture ∷ more) = ((found : Found) × ((progress_of capture).ahead ≡ Some found) × IsFrom moment (moment_found found)) × AreFrom moment more

abbrev IsNotAfter : ℕ → Option Coming → Type 0
IsNotAfter moment None = ⊤
IsNotAfter moment (Some coming) = moment ≤ coming.moment

both_from : (moment from : ℕ) (own : Option ℕ) (others : Option Coming) → IsNotAfter moment (sooner from own others) → IsFrom moment own × IsNotAfter moment others
both_from moment from None others least = (tt, least)
both_from moment from (Some at) None least = (least, tt)
both_from moment from (Some at) (Some other) least = by_test (nat_lt other.moment at) refl
  where
    by_test : (later : Bool) → nat_lt other.moment at ≡ later → (moment ≤ at) × (moment ≤ other.moment)
    by_test true test =
        let lt : other.moment < at = grind (arith, nat_tests) in
        let here : moment ≤ other.moment = rw test at least in
        (omega (arith, lt, here), here)
    by_test false test =
        let le : at ≤ other.moment = grind (arith, nat_tests) in
        let here : moment ≤ at = rw test at least in
        (here, omega (arith, le, here))

from_least : (held : List ℕ → Held) (from : ℕ) (names : List (List ℕ)) (olds news : List Capture) (next : Option Coming) (moment : ℕ) → length olds ≤ length names → LooksAll held from names olds news next → IsNotAfter moment next
    → AreFrom moment news
unfolding LooksAll AreFrom
from_least held from [] [] news next moment within looks least = subst (AreFrom moment) (sym looks.0) tt
from_least held from [] (old ∷ olds) news next moment within looks least = absurd (omega (arith, within))
from_least held from (name ∷ names) [] news next moment within looks least = subst (AreFrom moment) (sym looks.0) tt
from_least held from (name ∷ names) (old ∷ olds) [] next moment within looks least = absurd looks
from_least held from (name ∷ names) (old ∷ olds) (new ∷ news) next moment within (own, others, (found, look, moment_is), rest, is) least =
    let both = both_from moment from own others (subst (IsNotAfter moment) is least) in (
      (found, ap (λ (p : Progress). p.ahead) look.place, subst (IsFrom moment) moment_is both.0),
      from_least held (from + 1) names olds news others moment (omega (arith, within)) rest both.1,
    )

-- Each capture was looked at, and none has a frame before the one that was told.
pub told_least : (held : List ℕ → Held) (from : ℕ) (names : List (List ℕ)) (olds news : List Capture) (coming : Coming) → length olds ≤ length names → LooksAll held from names olds news (Some coming) → AreFrom coming.moment news
told_least held from names olds news coming within looks = from_least held from names olds news (Some coming) coming.moment within looks (omega arith)

-- And where none comes next, none has a frame.
pub none_least : (held : List ℕ → Held) (from : ℕ) (names : List (List ℕ)) (olds news : List Capture) (moment : ℕ) → length olds ≤ length names → LooksAll held from names olds news None → AreFrom moment news
none_least held from names olds news moment within looks = from_least held from names olds news None moment within looks tt

-- the frame that was told to come next is lent
abbrev pub LendsTold : Coming → Result Step CaptureFault → Type 0
LendsTold coming (Ok (Next lent)) = lent.moment ≡ coming.moment
LendsTold coming (Ok step) = ⊥
LendsTold coming (Err found) = ⊥

by_shown : (coming : Coming) (found found' : Found) (step : Step) → found' ≡ found → moment_found found ≡ Some coming.moment → Shows step found' → LendsTold coming (Ok step)
by_shown coming found (Whole passed after) (Next lent) same moment shows =
    let e : Some passed.moment ≡ Some coming.moment = ap moment_found same ∙ moment in
    let there : passed.moment ≡ coming.moment = cc in
    sym (ap (λ (f : Frame). f.moment) shows) ∙ there
by_shown coming found (StopsAt at) step same moment shows = absurd (let none : Option ℕ = None in let e : none ≡ Some coming.moment = ap moment_found same ∙ moment in cc)
by_shown coming found (Whole passed after) End same moment shows = absurd shows
by_shown coming found (Whole passed after) (Cut at) same moment shows = absurd shows

by_look : (interface : ℕ) (held held' : Held) (old mid new : Progress) (coming : Coming) (result : Result Step CaptureFault) → LooksAt held old mid (Some coming.moment) → StepsSo interface held' mid new result → LendsTold coming result
by_look interface held held' old mid new coming (Ok step) (found, looks, moment) (found', passes, shows) =
    by_shown coming found found' step (passes.finds.again found (ap (λ (p : Progress). p.ahead) looks.place)) (sym moment) shows
by_look interface held held' old mid new coming (Err fault) (found, looks, moment) (at, fails, same) =
    absurd (let e : Some found ≡ None = sym (ap (λ (p : Progress). p.ahead) looks.place) ∙ fails.unseen in cc)

-- Whatever the shelf is, the step after a look doesn't fail, and lends the frame that was told.
pub told_is_lent : (held held' : List ℕ → Held) (from : ℕ) (names : List (List ℕ)) (olds mids news : List Capture) (coming : Coming) (result : Result Step CaptureFault) → LooksAll held from names olds mids (Some coming)
    → StepsOne held' from coming.interface names mids news result → LendsTold coming result
unfolding LooksAll StepsOne
told_is_lent held held' from [] olds mids news coming result looks steps = absurd steps
told_is_lent held held' from (name ∷ names) [] mids news coming result looks steps = absurd (let e : Some coming ≡ None = looks.1 in cc)
told_is_lent held held' from (name ∷ names) (old ∷ olds) [] news coming result looks steps = absurd looks
told_is_lent held held' from (name ∷ names) (old ∷ olds) (mid ∷ mids) [] coming result looks steps = absurd steps
told_is_lent held held' from (name ∷ names) (old ∷ olds) (mid ∷ mids) (new ∷ news) coming result (own, others, here, rest, is) (inl (mine, step_so, same)) = elim (sooner_is from own others coming is) [
  | inl told ↦ by_look coming.interface (held name) (held' name) (progress_of old) (progress_of mid) (progress_of new) coming result (subst (LooksAt (held name) (progress_of old) (progress_of mid)) told.1 here) step_so
  | inr theirs ↦
      absurd (let behind = told_within held (from + 1) names olds mids coming (subst (λ (next : Option Coming). LooksAll held (from + 1) names olds mids next) theirs rest) in omega (arith, behind.0, mine))
]
told_is_lent held held' from (name ∷ names) (old ∷ olds) (mid ∷ mids) (new ∷ news) coming result (own, others, here, rest, is) (inr (above, same, more)) = elim (sooner_is from own others coming is) [
  | inl told ↦ absurd (omega (arith, above, told.0))
  | inr theirs ↦ told_is_lent held held' (from + 1) names olds mids news coming result (subst (λ (next : Option Coming). LooksAll held (from + 1) names olds mids next) theirs rest) more
]
