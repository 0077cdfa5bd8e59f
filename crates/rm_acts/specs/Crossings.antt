-- When the samples of an alarm cross its thresholds (RFC 1757, section 5). They are the list of their values, the newest
-- first.
use Rattle.std.specs.Prelude.{◌≡◌, ℤ, pos, int_le, List, [], ◌∷◌, ◌++◌, Bool, true, false, ◌&&◌, ◌||◌, not, if◌then◌else◌}
use Rattle.std.specs.List.{list_any}
use Rattle.std.specs.Ordering.{int_eq}
use Rattle.rm_acts.specs.declared.sampled.Sampled.{Sampled}
use Rattle.rm_acts.specs.declared.sampled.Sampled.TheVariants.{Quiet, Rising, Falling}

-- One of the two thresholds of an alarm: which values reach it, which reach the other one, and whether a first sample of a
-- value may cross it.
pub record Threshold : Type 0 where
  pub reaches : ℤ → Bool
  pub reaches_other : ℤ → Bool
  pub may_begin : ℤ → Bool

-- whether a sample comes to a threshold: the one before hadn't reached it, or it is the first and may cross it
abbrev pub comes_to : Threshold → ℤ → List ℤ → Bool
comes_to threshold value [] = threshold.may_begin value
comes_to threshold value (before ∷ earlier) = not (threshold.reaches before)

-- whether a sample crosses a threshold: it reaches the threshold, comes to it, and no earlier crossing is in force
abbrev pub crosses_from : Threshold → ℤ → List ℤ → (in_force : Bool) → Bool
crosses_from threshold value earlier in_force = threshold.reaches value && (comes_to threshold value earlier && not in_force)

-- whether there was a crossing of a threshold since which no sample reached the other one
abbrev pub is_in_force : Threshold → List ℤ → Bool
is_in_force threshold [] = false
is_in_force threshold (value ∷ earlier) =
    crosses_from threshold value earlier (is_in_force threshold earlier)
    || (not (threshold.reaches_other value) && is_in_force threshold earlier)

-- Whether the newest sample crosses a threshold: it reaches it; the one before didn't, or it is the first one; and between
-- each earlier crossing of the threshold and this sample, a sample reached the other threshold.
abbrev pub crosses : Threshold → List ℤ → Bool
crosses threshold [] = false
crosses threshold (value ∷ earlier) = crosses_from threshold value earlier (is_in_force threshold earlier)

-- between each earlier crossing of a threshold and now a sample reached the other threshold
abbrev pub AreUndone : Threshold → List ℤ → Type 0
AreUndone threshold earlier =
    (newer older : List ℤ) (value : ℤ) → earlier ≡ newer ++ value ∷ older → crosses threshold (value ∷ older) ≡ true
    → list_any threshold.reaches_other newer ≡ true

-- The same in three conditions. A law says that a sample of that value, after those samples, crosses exactly where they hold.
pub record IsCrossing (threshold : Threshold) (value : ℤ) (earlier : List ℤ) : Type 0 where
  pub reaches : threshold.reaches value ≡ true
  pub comes : comes_to threshold value earlier ≡ true
  pub undone : AreUndone threshold earlier

-- the columns of an alarm by which samples cross: alarmStartupAlarm, which is 1 rising, 2 falling or 3 either of them,
-- alarmRisingThreshold and alarmFallingThreshold
pub record Bounds : Type 0 where
  pub startup : ℤ
  pub rising : ℤ
  pub falling : ℤ

-- whether a value is at or above the rising threshold, and whether one is at or below the falling one
abbrev pub is_high : Bounds → ℤ → Bool
is_high bounds value = int_le bounds.rising value

abbrev pub is_low : Bounds → ℤ → Bool
is_low bounds value = int_le value bounds.falling

-- whether the first sample may cross the rising threshold, and whether it may cross the falling one
abbrev pub may_rise_first : Bounds → Bool
may_rise_first bounds = int_eq bounds.startup (pos 1) || int_eq bounds.startup (pos 3)

abbrev pub may_fall_first : Bounds → Bool
may_fall_first bounds = int_eq bounds.startup (pos 2) || int_eq bounds.startup (pos 3)

-- The rising threshold of an alarm, and the falling one. A first sample that would cross both crosses the rising one alone.
abbrev pub rising_of : Bounds → Threshold
rising_of bounds = record {
  reaches = is_high bounds;
  reaches_other = is_low bounds;
  may_begin = λ value. may_rise_first bounds;
}

abbrev pub falling_of : Bounds → Threshold
falling_of bounds = record {
  reaches = is_low bounds;
  reaches_other = is_high bounds;
  may_begin = λ value. may_fall_first bounds && not (may_rise_first bounds && is_high bounds value);
}

-- what the newest sample comes to
abbrev pub crossing : Bounds → List ℤ → Sampled
crossing bounds values =
    if crosses (rising_of bounds) values then Rising
    else if crosses (falling_of bounds) values then Falling
    else Quiet
