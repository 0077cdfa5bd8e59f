-- Bindings that were read so far of their list.
use Rattle.std.proofs.Common.{◌≡◌, ◌+◌, ◌≤◌, ◌<◌, ℕ, List, [], ◌∷◌, ◌++◌, length, is_some, true, false, refl, sym, ap, subst, inl, inr, arith, append_assoc}
use Rattle.std.specs.Prelude.{slice_get}
use Rattle.std.proofs.lemmas.List.{append-nil, length-append}
use Rattle.std.proofs.lemmas.Bool.{cases_lt}
use Rattle.rm_pdu.specs.Message.{Binding}
use Rattle.rm_pdu.specs.Spells.{AreBindings}
use Rattle.rm_pdu.specs.Placed.{IsPlaced, AreKept}
use Rattle.rm_pdu.specs.Reading.{OneBinding, AllBindings}
use Rattle.rm_pdu.specs.declared.places.Offsets.{Offsets}
use Rattle.rm_pdu.proofs.PlacedLemmas.{placed_more, placed_enough}

pub record InList (bytes first left : List ℕ) (offsets : List Offsets) (count : ℕ) : Type 0 where
  pub read : List Binding
  pub goes : (more : List Binding) → AreBindings left more → AreBindings first (read ++ more)
  pub count_is : count ≡ length read
  pub kept : AreKept bytes offsets read

pub list_begins : (bytes first : List ℕ) (offsets : List Offsets) → offsets ≡ [] → InList bytes first first offsets 0
list_begins bytes first offsets none = record { read = []; goes = λ more are. are; count_is = refl; kept = rw none (refl, tt) }

kept_more : (bytes : List ℕ) (old new : List Offsets) (read : List Binding) (offsets : Offsets) (binding : Binding) → AreKept bytes old read → IsPlaced bytes offsets binding
    → (length old < 128 → new ≡ old ++ offsets ∷ []) → (128 ≤ length old → new ≡ old) → AreKept bytes new (read ++ binding ∷ [])
kept_more bytes old new read offsets binding kept placed room full =
    elim (cases_lt (length old) 128) [
      | inl few ↦
          let same : length old ≡ length read = omega (arith, kept.0) in
          let is = room few in (
            omega (arith, same, ap length is, length-append old (offsets ∷ []), length-append read (binding ∷ [])),
            rw is (placed_more bytes old read offsets binding same kept.1 placed),
          )
      | inr enough ↦
          let is = full enough in (
            omega (arith, kept.0, ap length is, length-append read (binding ∷ [])),
            rw is (placed_enough bytes old read (binding ∷ []) kept.1),
          )
    ]

pub list_more : (bytes first left rest : List ℕ) (old new : List Offsets) (count : ℕ) (offsets : Offsets) → InList bytes first left old count → OneBinding bytes offsets rest left
    → (length old < 128 → new ≡ old ++ offsets ∷ []) → (128 ≤ length old → new ≡ old) → InList bytes first rest new (count + 1)
list_more bytes first left rest old new count offsets list one room full = record {
  read = list.read ++ one.0 ∷ [];
  goes = λ more are. subst (λ (bs : List Binding). AreBindings first bs) (sym (append_assoc list.read (one.0 ∷ []) more)) (list.goes (one.0 ∷ more) (one.1, rest, one.2, one.3, are));
  count_is = omega (arith, list.count_is, length-append list.read (one.0 ∷ []));
  kept = kept_more bytes old new list.read offsets one.0 list.kept one.4 room full;
}

pub list_ends : (bytes first left : List ℕ) (offsets : List Offsets) (count : ℕ) → InList bytes first left offsets count → left ≡ [] → AllBindings bytes offsets count first
list_ends bytes first left offsets count list none =
    (list.read, subst (λ (bs : List Binding). AreBindings first bs) (append-nil list.read) (list.goes [] none), list.count_is, list.kept)

-- an octet comes next exactly where some are left
pub comes_some : (left : List ℕ) → is_some (slice_get left 0) ≡ true → left ≡ [] → ⊥
comes_some [] is none = absurd cc
comes_some (octet ∷ more) is none = absurd cc

pub comes_none : (left : List ℕ) → is_some (slice_get left 0) ≡ false → left ≡ []
comes_none [] is = refl
comes_none (octet ∷ more) is = absurd cc
