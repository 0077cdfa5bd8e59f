-- Keys that are those of others, each reversed.
use Rattle.std.specs.Prelude.{◌≡◌, Bool, List}
use Rattle.std.specs.List.{list_any}

-- a key is among them where its reversed one is among the others, as `AreReversed` of rm_order says without a test of keys
abbrev pub AreFoundReversed : {K : Type 0} → (K → K → Bool) → (K → K) → (ordered keys : List K) → Type 0
AreFoundReversed eq to ordered keys = (key : _) → list_any (eq key) ordered ≡ list_any (eq (to key)) keys
