-- There is room for a row, and for no more than were reserved.
use Rattle.std.proofs.Common.{ℕ, ◌<◌, ◌≤◌, Option, Some, None, arith}
use Rattle.std.specs.Prelude.{IfSome}
use Rattle.rm_layers.specs.Capacity.{bounded, application_bound, capacity}

bounded-some : (n : ℕ) (o : Option ℕ) → 0 < n → IfSome o (λ m. 0 < m) → 0 < bounded n o
bounded-some n None some o = some
bounded-some n (Some m) some o = let some_m : 0 < m = o in omega arith

bounded-within : (n : ℕ) (o : Option ℕ) → bounded n o ≤ n
bounded-within n None = omega arith
bounded-within n (Some m) = omega arith

application-some : (o : Option ℕ) → IfSome o (λ m. 32 ≤ m) → IfSome (application_bound o) (λ m. 0 < m)
application-some None o = o
application-some (Some m) o = let enough : 32 ≤ m = o in omega arith

pub capacity-some : (upper : ℕ) (network applications : Option ℕ) → 0 < upper → IfSome network (λ m. 0 < m) → IfSome applications (λ m. 32 ≤ m) → 0 < capacity upper network applications
capacity-some upper network applications some n a = bounded-some (bounded upper network) (application_bound applications) (bounded-some upper network some n) (application-some applications a)

pub capacity-within : (upper : ℕ) (network applications : Option ℕ) → capacity upper network applications ≤ upper
capacity-within upper network applications =
    let first : bounded upper network ≤ upper = bounded-within upper network in
    let second : bounded (bounded upper network) (application_bound applications) ≤ bounded upper network = bounded-within (bounded upper network) (application_bound applications) in
    omega arith
