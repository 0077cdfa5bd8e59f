-- The interfaces, and the frames that a data source names.
use Rattle.std.specs.Prelude.{ℕ, zero, suc, List, [], ◌∷◌, ◌++◌, Bool, false, filter}
use Rattle.std.specs.List.{list_any}
use Rattle.std.specs.Str.{bytes_eq}
use Rattle.rm_val.specs.Val.{Val, name}
use Rattle.rm_model.specs.Journal.{Frame}
use Rattle.rm_model.specs.declared.interface.TheConstants.{INTERFACES}

-- the name of ifIndex of an interface (RFC 1213), by which a data source names it
abbrev pub interface_name : ℕ → List ℕ
interface_name number = (1 ∷ 3 ∷ 6 ∷ 1 ∷ 2 ∷ 1 ∷ 2 ∷ 2 ∷ 1 ∷ 1 ∷ []) ++ number ∷ []

-- whether a data source is the interface with that number
abbrev pub is_interface : Val → ℕ → Bool
is_interface (name numbers) number = bytes_eq numbers (interface_name number)
is_interface other number = false

-- the numbers from 1 to that one
abbrev pub up_to : ℕ → List ℕ
up_to zero = []
up_to (suc n) = up_to n ++ suc n ∷ []

-- the numbers of the interfaces that the probe can have, whatever it was set to: how a Set is judged depends on no settings
abbrev pub interfaces : List ℕ
interfaces = up_to INTERFACES

-- whether a value is the data source of one of them
abbrev pub is_source : Val → Bool
is_source value = list_any (is_interface value) interfaces

-- the frames of the interface that a data source names
abbrev pub frames_of : Val → List Frame → List Frame
frames_of source frames = filter (λ frame. is_interface source frame.interface) frames
