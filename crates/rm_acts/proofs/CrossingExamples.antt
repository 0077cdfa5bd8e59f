-- What samples come to, worked out by hand from RFC 1757, section 5. Values, and what they come to, stand newest first.
use Rattle.std.proofs.Common.{◌≡◌, ℕ, List, [], ◌∷◌, map, refl}
use Rattle.std.specs.Prelude.{ℤ, pos, negsuc}
use Rattle.rm_acts.specs.Crossings.{Bounds, crossing}
use Rattle.rm_acts.specs.declared.sampled.Sampled.{Sampled}
use Rattle.rm_acts.specs.declared.sampled.Sampled.TheVariants.{Quiet, Rising, Falling}

-- what each of some samples comes to
abbrev each_of : Bounds → List ℤ → List Sampled
each_of bounds [] = []
each_of bounds (value ∷ earlier) = crossing bounds (value ∷ earlier) ∷ each_of bounds earlier

-- what a first sample comes to where the startup alarm is rising, falling, and rising or falling
abbrev first_by : (ℕ → Bounds) → ℤ → List Sampled
first_by bounds value = map (λ startup. crossing (bounds startup) (value ∷ [])) (1 ∷ 2 ∷ 3 ∷ [])

-- rising threshold 10, falling threshold 5
abbrev startup : ℕ → Bounds
startup number = record { startup = pos number; rising = pos 10; falling = pos 5 }

-- A first sample at or above the rising threshold crosses it where the startup alarm is rising, or rising or falling.
high_first : map (first_by startup) (pos 12 ∷ pos 10 ∷ []) ≡ (Rising ∷ Quiet ∷ Rising ∷ []) ∷ (Rising ∷ Quiet ∷ Rising ∷ []) ∷ []
high_first = refl

-- A first sample at or below the falling threshold crosses it where the startup alarm is falling, or rising or falling.
low_first : map (first_by startup) (pos 5 ∷ pos 3 ∷ negsuc 0 ∷ []) ≡ (Quiet ∷ Falling ∷ Falling ∷ []) ∷ (Quiet ∷ Falling ∷ Falling ∷ []) ∷ (Quiet ∷ Falling ∷ Falling ∷ []) ∷ []
low_first = refl

between_first : first_by startup (pos 7) ≡ Quiet ∷ Quiet ∷ Quiet ∷ []
between_first = refl

-- The samples 12, 7, 11, 5 and 10 where the startup alarm is falling: the third crosses, since the second is below the rising
-- threshold and none rose before; the fourth falls; the fifth rises, since the fourth reached the falling threshold.
after_falling : each_of (startup 2) (pos 10 ∷ pos 5 ∷ pos 11 ∷ pos 7 ∷ pos 12 ∷ []) ≡ Rising ∷ Falling ∷ Rising ∷ Quiet ∷ Quiet ∷ []
after_falling = refl

-- Where the first one rises, the third doesn't: no sample between reached the falling threshold.
after_rising : each_of (startup 1) (pos 11 ∷ pos 7 ∷ pos 12 ∷ []) ≡ Quiet ∷ Quiet ∷ Rising ∷ []
after_rising = refl

-- A value that stays above rises once.
stays_above : each_of (startup 1) (pos 13 ∷ pos 12 ∷ []) ≡ Quiet ∷ Rising ∷ []
stays_above = refl

-- A value that stays below falls once, and again only after the rising threshold was reached.
stays_below : each_of (startup 3) (pos 4 ∷ pos 3 ∷ []) ≡ Quiet ∷ Falling ∷ []
stays_below = refl

below_again : each_of (startup 3) (pos 3 ∷ pos 7 ∷ pos 4 ∷ []) ≡ Quiet ∷ Quiet ∷ Falling ∷ []
below_again = refl

below_after_rising : each_of (startup 3) (pos 3 ∷ pos 10 ∷ pos 4 ∷ []) ≡ Falling ∷ Rising ∷ Falling ∷ []
below_after_rising = refl

-- Both thresholds 5.
abbrev equal : ℕ → Bounds
equal number = record { startup = pos number; rising = pos 5; falling = pos 5 }

-- A first sample of 5 would cross both, and rises alone, where the startup alarm is rising or falling.
both_first : first_by equal (pos 5) ≡ Rising ∷ Falling ∷ Rising ∷ []
both_first = refl

-- A 4 behind it doesn't fall, since 5 isn't above the falling threshold. A 6 behind that rises again.
rises_again : each_of (equal 3) (pos 6 ∷ pos 4 ∷ pos 5 ∷ []) ≡ Rising ∷ Quiet ∷ Rising ∷ []
rises_again = refl

-- A 6, then a 5: it falls, and a 5 behind that crosses nothing.
falls_once : each_of (equal 3) (pos 5 ∷ pos 5 ∷ pos 6 ∷ []) ≡ Quiet ∷ Falling ∷ Rising ∷ []
falls_once = refl
