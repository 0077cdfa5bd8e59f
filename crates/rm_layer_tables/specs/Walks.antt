-- Where walks of the tables of the network and application layer go on, by what they have reached.
use Rattle.std.specs.Prelude.{ℕ, drop, Option, Some, None}
use Rattle.std.specs.Option.{option_map}
use Rattle.rm_walk_places.specs.declared.places.Reached.{Reached}
use Rattle.rm_layer_tables.specs.Indexes.{KeyForm}

module _ {K : Type 0} (form : KeyForm K) where
  -- the key above which a walk of network rows goes on, behind the local index of ip
  abbrev pub key_from : Option Reached → Option K
  key_from None = None
  key_from (Some reached) = form.key_of (drop 1 reached.numbers)

  -- and with it the protocol above which a walk of application rows does, if not from the first one on
  abbrev pub application_from : Option Reached → Option (K × Option ℕ)
  application_from None = None
  application_from (Some reached) = option_map (λ key. (key, reached.protocol)) (form.key_of (drop 1 reached.numbers))
