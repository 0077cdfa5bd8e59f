-- That protocols are in slots apart is a fact.
use Rattle.std.specs.Prelude.{[], ◌∷◌, Some, None}
use Rattle.std.proofs.Props.{props}
use Rattle.rm_layers.specs.Applications.{Slots, AreApart}

pub apart_prop : (slots : Slots) → IsProp (AreApart slots)
apart_prop [] = hlevel props
apart_prop (None ∷ slots) = apart_prop slots
apart_prop (Some protocol ∷ slots) = hlevel (props, apart_prop slots)
