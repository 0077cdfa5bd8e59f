-- What a clock in memory told, before and after a moment is given, and by one more call.
use Rattle.std.proofs.Common.{◌≡◌, ℕ, zero, suc, ◌-◌, ◌^◌, ◌<◌, ◌≤◌, true, false, List, [], ◌∷◌, ◌++◌, nat_le, ltb, refl, arith, inl, inr}
use Rattle.std.proofs.lemmas.Bool.{cases_lt, lt-leb, lt-ltb, le-ltb}
use Rattle.std.proofs.lemmas.List.{reverse-append}
use Rattle.rm_edge.specs.Outside.{one_more}
use Rattle.rm_edge.specs.Clock.{Tells}
use Rattle.rm_edge.specs.ListClock.{ClockState, moment_after, told_first, told_by}
use Rattle.rm_edge.specs.declared.memory.clock.Timed.{Timed}

-- a moment that stands for a later call changes nothing of what a call tells
moment_after-added : (moments : List Timed) (timed : Timed) (calls : ℕ) → calls < timed.after → moment_after (moments ++ timed ∷ []) calls ≡ moment_after moments calls
moment_after-added moments timed calls lt =
    let late : nat_le timed.after calls ≡ false = lt-leb timed.after calls lt in
    rw (reverse-append moments (timed ∷ []), late) refl

-- nor of what the calls before it told
pub told_first-added : (moments : List Timed) (timed : Timed) (calls : ℕ) → calls ≤ timed.after → told_first (moments ++ timed ∷ []) calls ≡ told_first moments calls
unfolding told_first
told_first-added moments timed zero le = refl
told_first-added moments timed (suc calls) le =
    rw (told_first-added moments timed calls (omega (arith, le)), moment_after-added moments timed calls (omega (arith, le))) refl

-- one more call tells what stands for it
pub tells-one_more : (clock : ClockState) (moment : ℕ) → moment ≡ moment_after clock.moments clock.calls → Tells (told_by clock) (told_by (record clock { calls = one_more clock.calls })) moment
unfolding told_first
tells-one_more clock moment is =
    elim (cases_lt (one_more clock.calls) (2 ^ 64 - 1)) [
      | inl lt ↦
          let more : one_more clock.calls ≡ suc clock.calls = omega (arith, lt) in
          let now : ltb (suc clock.calls) (2 ^ 64 - 1) ≡ true = lt-ltb (suc clock.calls) (2 ^ 64 - 1) (omega (arith, lt)) in
          let before : ltb clock.calls (2 ^ 64 - 1) ≡ true = lt-ltb clock.calls (2 ^ 64 - 1) (omega (arith, lt)) in
          rw (more, now, before, is) refl
      | inr le ↦
          let end : ltb (one_more clock.calls) (2 ^ 64 - 1) ≡ false = le-ltb (one_more clock.calls) (2 ^ 64 - 1) le in
          rw end tt
    ]
