-- The least number above another, and what stands behind a number.
use Rattle.std.specs.Prelude.{◌≡◌, ℕ, ◌<◌, List, [], ◌∷◌, Bool, true, false, Option, Some, None, nat_eq, if◌then◌else◌}

-- the least number above one that passes a test, or nothing where there is none
abbrev pub IsNumberAbove : (ℕ → Bool) → ℕ → Option ℕ → Type 0
IsNumberAbove test above None = (n : ℕ) → above < n → test n ≡ false
IsNumberAbove test above (Some found) = (above < found) × (test found ≡ true) × ((n : ℕ) → above < n → n < found → test n ≡ false)

-- what stands behind a number in a list, or another where the number isn't in it
abbrev pub by_number : {A : Type 0} → List (ℕ × A) → (other : A) → ℕ → A
by_number [] other n = other
by_number (first ∷ more) other n = if nat_eq n first.0 then first.1 else by_number more other n
