-- What a column is set to by a value that it takes, by the kind of its values.
use Rattle.std.specs.Prelude.{ℕ, ℤ, find, unwrap_or}
use Rattle.rm_val.specs.Val.{Val, int}
pub use Rattle.rm_val.specs.Contents.{octets_in, natural_in, number_of, name_of}
use Rattle.rm_model.specs.Interfaces.{is_interface, interfaces}

-- a number, 0 where it is negative
abbrev pub natural_of : ℤ → ℕ
natural_of number = natural_in (int number)

-- the number of the interface that a data source names, 0 where it names none
abbrev pub interface_in : Val → ℕ
interface_in value = unwrap_or (find (λ number. is_interface value number) interfaces) 0
