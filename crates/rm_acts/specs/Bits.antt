-- The bit test of a filter (RFC 1757, section 5): octets against data, a mask and a not-mask.
use Rattle.std.specs.Prelude.{ℕ, List, [], ◌∷◌, Bool, true, false, ◌&&◌, ◌||◌, not, ◌==◌, bit_and, bit_xor}
use Rattle.std.specs.List.{list_any}

-- what one octet is tested by
pub record Bits : Type 0 where
  pub wanted : ℕ
  pub mask : ℕ
  pub not_mask : ℕ

-- of the mask's bits those that aren't the not-mask's, each of which has to equal the data's
abbrev pub equal_bits : Bits → ℕ
equal_bits bits = bit_xor bits.mask (bit_and bits.mask bits.not_mask)

-- those that are, of which one has to differ
abbrev pub other_bits : Bits → ℕ
other_bits bits = bit_and bits.mask bits.not_mask

-- whether an octet has the data's bits where it has to
abbrev pub equals : Bits → ℕ → Bool
equals bits octet = bit_and (bit_xor octet bits.wanted) (equal_bits bits) == 0

-- whether one of its bits has to differ, and whether one does
abbrev pub asks_difference : Bits → Bool
asks_difference bits = not (other_bits bits == 0)

abbrev pub differs : Bits → ℕ → Bool
differs bits octet = not (bit_and (bit_xor octet bits.wanted) (other_bits bits) == 0)

-- whether there are octets enough, and each has the data's bits where it has to
abbrev pub all_equal : List Bits → List ℕ → Bool
all_equal [] octets = true
all_equal (bits ∷ more) [] = false
all_equal (bits ∷ more) (octet ∷ octets) = equals bits octet && all_equal more octets

-- whether a bit of one of them differs that may
abbrev pub any_differs : List Bits → List ℕ → Bool
any_differs [] octets = false
any_differs (bits ∷ more) [] = false
any_differs (bits ∷ more) (octet ∷ octets) = differs bits octet || any_differs more octets

-- Whether octets pass: those that have to equal the data's do, and where there are bits of which one has to differ, one does.
abbrev pub pass : List Bits → List ℕ → Bool
pass test octets = all_equal test octets && (not (list_any asks_difference test) || any_differs test octets)

-- the first of some octets, or another one where there is none, and those behind it
abbrev pub first_or : ℕ → List ℕ → ℕ
first_or other [] = other
first_or other (octet ∷ octets) = octet

abbrev pub behind_first : List ℕ → List ℕ
behind_first [] = []
behind_first (octet ∷ octets) = octets

-- The test by data, a mask and a not-mask: a mask that is shorter than the data goes on with ones, a not-mask with zeros, and
-- what is longer is cut.
abbrev pub test_of : (wanted mask not_mask : List ℕ) → List Bits
test_of [] mask not_mask = []
test_of (octet ∷ octets) mask not_mask =
    record { wanted = octet; mask = first_or 255 mask; not_mask = first_or 0 not_mask }
    ∷ test_of octets (behind_first mask) (behind_first not_mask)
