-- Things that fall due, each at a moment in milliseconds: of a kind, and with a number.
use Rattle.std.specs.Prelude.{◌≡◌, ◌↔◌, ◌⊎◌, ℕ, ◌<◌, ◌≤◌, Option, Some, None}
use Rattle.std.proofs.Common.{inl, inr}
use Rattle.rm_group.specs.declared.due.Due.{Due}
use Rattle.rm_group.specs.declared.due.TheConstants.{SAMPLES}

-- one comes before another, or is it: the moment decides first, then the kind, and then the number
abbrev pub ComesFirst : Due → Due → Type 0
ComesFirst one other =
    (one.moment < other.moment)
    ⊎ ((one.moment ≡ other.moment) × ((one.kind < other.kind) ⊎ ((one.kind ≡ other.kind) × (one.number ≤ other.number))))

-- What ends by itself comes before the samples of its moment, and needs no act. All of it that is due up to a moment has ended.
abbrev pub HaveEnded : (Due → Type 0) → ℕ → Type 0
HaveEnded FallsDue moment = (due : Due) → FallsDue due → due.kind < SAMPLES → moment < due.moment

-- the one that comes first of all that fall due, or nothing where none ever does
abbrev pub IsFirst : (Due → Type 0) → Option Due → Type 0
IsFirst FallsDue None = (one : Due) → FallsDue one → ⊥
IsFirst FallsDue (Some first) = FallsDue first × ((other : Due) → FallsDue other → ComesFirst first other)

-- one of two is the sooner one, or the other where one is missing
abbrev pub IsSooner : (one other result : Option Due) → Type 0
IsSooner None other result = result ≡ other
IsSooner (Some one) None result = result ≡ Some one
IsSooner (Some one) (Some other) result =
    ((result ≡ Some one) × ComesFirst one other) ⊎ ((result ≡ Some other) × ComesFirst other one)

-- where nothing falls due, and of two groups
pub none_ends : {Asked : Type 0} (moment : ℕ) → Asked → Asked ↔ HaveEnded (λ due. ⊥) moment
none_ends moment asked = (λ _ due falls below. absurd falls, λ _. asked)

pub both_end : {One Other : Type 0} (falls others : Due → Type 0) (moment : ℕ) → One ↔ HaveEnded falls moment → Other ↔ HaveEnded others moment → (One × Other) ↔ HaveEnded (λ due. falls due ⊎ others due) moment
both_end {One} {Other} falls others moment one other = (there, back)
  where
    there : One × Other → HaveEnded (λ due. falls due ⊎ others due) moment
    there asked due (inl is) below = one.0 asked.0 due is below
    there asked due (inr is) below = other.0 asked.1 due is below

    back : HaveEnded (λ due. falls due ⊎ others due) moment → One × Other
    back ended = (one.1 (λ due is below. ended due (inl is) below), other.1 (λ due is below. ended due (inr is) below))
