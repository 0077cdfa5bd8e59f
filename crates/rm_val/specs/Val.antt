-- Values without references, as journals and messages hold them.
use Rattle.std.specs.Prelude.{ℕ, ℤ, List}
use Rattle.rm_val.specs.declared.value.Value.{Value}
use Rattle.rm_val.specs.declared.value.Value.TheVariants.{Int, Octets, Null, Name, Ip, Counter, Gauge, Ticks, Opaque, Big, NoObject, NoInstance, EndOfView}

-- a value, by what it shows
pub data Val : Type 0 where
  int : ℤ → Val
  octets : List ℕ → Val
  null : Val
  name : List ℕ → Val
  ip : List ℕ → Val
  counter : ℕ → Val
  gauge : ℕ → Val
  ticks : ℕ → Val
  opaque_octets : List ℕ → Val
  big : ℕ → Val
  no_object : Val
  no_instance : Val
  end_of_view : Val

-- what a value of the code shows
abbrev pub val_of : Value → Val
val_of (Int z) = int z
val_of (Octets bytes) = octets bytes.now
val_of Null = null
val_of (Name numbers) = name numbers
val_of (Ip bytes) = ip bytes
val_of (Counter n) = counter n
val_of (Gauge n) = gauge n
val_of (Ticks n) = ticks n
val_of (Opaque bytes) = opaque_octets bytes.now
val_of (Big n) = big n
val_of NoObject = no_object
val_of NoInstance = no_instance
val_of EndOfView = end_of_view
