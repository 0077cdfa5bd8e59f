-- One frame more.
use Rattle.std.proofs.Common.{◌≡◌, ℕ, ◌+◌, ◌*◌, ◌/◌, List, ◌∷◌, ◌++◌, refl, ap, ◌∙◌, subst, add-one, arith}
use Rattle.std.specs.Str.{bytes_eq}
use Rattle.rm_evicting.specs.Mention.{refers}
use Rattle.million_references.specs.declared.load.TheConstants.{FIRST_MOMENT}
use Rattle.million_references.specs.Times.{once}
use Rattle.million_references.specs.Loaded.{Held, IsHeld}
use Rattle.million_references.specs.Load.{next, number, source_in, destination_in, tick, host_references, pair_references}

pub next_drawn : (i before drawn : ℕ) → before ≡ number i → drawn ≡ next before → drawn ≡ number (i + 1)
next_drawn i before drawn is e = rw (add-one i) (e ∙ ap next is)

pub next_tick : (i : ℕ) → (FIRST_MOMENT + i + 1) / 10 ≡ tick (i + 1)
next_tick i = let moment : FIRST_MOMENT + i + 1 ≡ FIRST_MOMENT + (i + 1) = omega arith in ap (λ n. n / 10) moment

module _ (i room drawn stamp t : ℕ) (d : drawn ≡ number (i + 1)) (at : t ≡ tick (i + 1)) (held : Held (List ℕ)) where
  pub next_hosts : (source destination : List ℕ) → source ≡ source_in drawn → destination ≡ destination_in drawn → stamp ≡ 2 * i
      → IsHeld bytes_eq room (refers destination (stamp + 1) t once ∷ (refers source stamp t once ∷ host_references i)) held
      → IsHeld bytes_eq room (host_references (i + 1)) held
  next_hosts source destination from to stamped h =
      let same : refers destination (stamp + 1) t once ∷ (refers source stamp t once ∷ host_references i) ≡ host_references (i + 1) = rw (from, to, stamped, at, d, add-one i) refl in
      subst (λ references. IsHeld bytes_eq room references held) same h

  pub next_pairs : (pair : List ℕ) → pair ≡ source_in drawn ++ destination_in drawn → stamp ≡ i
      → IsHeld bytes_eq room (refers pair stamp t once ∷ pair_references i) held → IsHeld bytes_eq room (pair_references (i + 1)) held
  next_pairs pair is stamped h =
      let same : refers pair stamp t once ∷ pair_references i ≡ pair_references (i + 1) = rw (is, stamped, at, d, add-one i) refl in
      subst (λ references. IsHeld bytes_eq room references held) same h
