-- Where the bindings of a message stand.
use Rattle.std.specs.Prelude.{◌≡◌, ℕ, List, [], ◌∷◌, length, drop, min}
use Rattle.rm_val.specs.Val.{name}
use Rattle.rm_ber.specs.Grammar.{ValueFirst}
use Rattle.rm_pdu.specs.Message.{Binding}
use Rattle.rm_pdu.specs.declared.places.Offsets.{Offsets}

-- the name and the value of the binding stand at these offsets
abbrev pub IsPlaced : List ℕ → Offsets → Binding → Type 0
IsPlaced bytes offsets binding = (rest more : List ℕ)
    × ValueFirst (name binding.name) rest (drop offsets.name bytes) × ValueFirst binding.value more (drop offsets.value bytes)

-- each of the first bindings stands at its offsets
abbrev pub ArePlaced : List ℕ → List Offsets → List Binding → Type 0
ArePlaced bytes [] bindings = Unit {0}
ArePlaced bytes (offsets ∷ others) [] = ⊥
ArePlaced bytes (offsets ∷ others) (binding ∷ more) = IsPlaced bytes offsets binding × ArePlaced bytes others more

-- the places of the first 128 bindings are kept
abbrev pub AreKept : List ℕ → List Offsets → List Binding → Type 0
AreKept bytes offsets bindings = (length offsets ≡ min 128 (length bindings)) × ArePlaced bytes offsets bindings
