-- What octets are tested by.
use Rattle.std.specs.Prelude.{ℕ, ◌%◌, List}
use Rattle.rm_acts.specs.Bits.{Bits, first_or}
use Rattle.rm_match.specs.declared.octet_test.OctetTest.{OctetTest}
use Rattle.rm_match.specs.declared.status_test.StatusTest.{StatusTest}

-- the test of one octet
abbrev pub bits_of : OctetTest → Bits
bits_of test = record { wanted = test.wanted; mask = test.mask; not_mask = test.not_mask }

-- the test of an octet that is wanted, by what the masks have from there on
abbrev pub bits_at : (wanted : ℕ) → (mask not_mask : List ℕ) → Bits
bits_at wanted mask not_mask = record { wanted = wanted; mask = first_or 255 mask; not_mask = first_or 0 not_mask }

-- the test of a status: of each number its three lowest bits count
abbrev pub status_bits : StatusTest → Bits
status_bits test = record { wanted = test.status % 8; mask = test.mask % 8; not_mask = test.not_mask % 8 }
