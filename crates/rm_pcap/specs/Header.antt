-- The file header of a capture in the classic pcap format: 24 octets with a magic number, the version, three numbers
-- that are ignored, and the link type.
use Rattle.std.specs.Prelude.{ℕ, Bool, ◌==◌, ◌&&◌, nat_le, if◌then◌else◌, List, length, drop, Option, Some, None, Result, Ok, Err}
use Rattle.byteorder.specs.Endian.{big_number, little_number}
use Rattle.rm_pcap.specs.declared.form.Order.{Order}
use Rattle.rm_pcap.specs.declared.form.Order.TheVariants.{HighestFirst, LowestFirst}
use Rattle.rm_pcap.specs.declared.form.TimeUnit.{TimeUnit}
use Rattle.rm_pcap.specs.declared.form.TimeUnit.TheVariants.{Microseconds, Nanoseconds}
use Rattle.rm_pcap.specs.declared.form.Form.{Form}
use Rattle.rm_pcap.specs.declared.fault.PcapFault.{PcapFault}
use Rattle.rm_pcap.specs.declared.fault.PcapFault.TheVariants.{Magic, Version, LinkType}

-- the number in n octets from a place on
unfoldable pub number_at : Order → ℕ → ℕ → List ℕ → ℕ
number_at HighestFirst n at bytes = big_number n (drop at bytes)
number_at LowestFirst n at bytes = little_number n (drop at bytes)

-- what the fractions count, by the magic number
abbrev pub unit_of : ℕ → Option TimeUnit
unit_of magic =
    if magic == 0xa1b2c3d4 then Some Microseconds
    else if magic == 0xa1b23c4d then Some Nanoseconds
    else None

-- the form of a capture whose magic number is read in an octet order
abbrev pub form_in : Order → Option TimeUnit → Option Form
form_in order (Some unit) = Some (record { order = order; unit = unit })
form_in order None = None

-- the first of two forms, if there is one
abbrev pub first_of : Option Form → Option Form → Option Form
first_of (Some form) other = Some form
first_of None other = other

-- the form by the magic number at the front, which reads as one of the two in the octet order of the whole file
unfoldable pub form_of : List ℕ → Option Form
form_of bytes =
    if nat_le 4 (length bytes)
    then first_of (form_in HighestFirst (unit_of (number_at HighestFirst 4 0 bytes))) (form_in LowestFirst (unit_of (number_at LowestFirst 4 0 bytes)))
    else None

-- major version 2, minor version 4
unfoldable pub has_version : Form → List ℕ → Bool
has_version form bytes = nat_le 8 (length bytes) && number_at form.order 2 4 bytes == 2 && number_at form.order 2 6 bytes == 4

-- link type 1, Ethernet
unfoldable pub has_link_type : Form → List ℕ → Bool
has_link_type form bytes = nat_le 24 (length bytes) && number_at form.order 4 20 bytes == 1

-- the form of a whole file header, or its first fault in the order of its octets
abbrev pub header_with : Option Form → List ℕ → Result Form PcapFault
header_with None bytes = Err Magic
header_with (Some form) bytes =
    if has_version form bytes then (if has_link_type form bytes then Ok form else Err LinkType) else Err Version

-- the form that a file's header tells, or the first fault of the header
unfoldable pub header_of : List ℕ → Result Form PcapFault
header_of bytes = header_with (form_of bytes) bytes
