-- Worked examples of the definitions: those of X.690, and what openssl writes of the same numbers and names.
use Rattle.std.proofs.Common.{◌≡◌, ◌-◌, ◌^◌, pos, negsuc, [], ◌∷◌, refl}
use Rattle.rm_ber.specs.Element.{length_octets, integer_octets, number_octets, name_octets}

lengths :
    (length_octets 38 ≡ 0x26 ∷ []) × (length_octets 127 ≡ 0x7f ∷ []) × (length_octets 128 ≡ 0x81 ∷ 0x80 ∷ [])
    × (length_octets 201 ≡ 0x81 ∷ 0xc9 ∷ []) × (length_octets 256 ≡ 0x82 ∷ 1 ∷ 0 ∷ [])
    × (length_octets 65536 ≡ 0x83 ∷ 1 ∷ 0 ∷ 0 ∷ []) × (length_octets 16777216 ≡ 0x84 ∷ 1 ∷ 0 ∷ 0 ∷ 0 ∷ [])
lengths = (refl, refl, refl, refl, refl, refl, refl)

integers :
    (integer_octets (pos 0) ≡ 0 ∷ []) × (integer_octets (pos 127) ≡ 0x7f ∷ []) × (integer_octets (pos 128) ≡ 0 ∷ 0x80 ∷ [])
    × (integer_octets (pos 256) ≡ 1 ∷ 0 ∷ []) × (integer_octets (negsuc 127) ≡ 0x80 ∷ []) × (integer_octets (negsuc 128) ≡ 0xff ∷ 0x7f ∷ [])
    × (integer_octets (pos 2147483647) ≡ 0x7f ∷ 0xff ∷ 0xff ∷ 0xff ∷ []) × (integer_octets (negsuc 2147483647) ≡ 0x80 ∷ 0 ∷ 0 ∷ 0 ∷ [])
unfolding integer_octets
integers = (refl, refl, refl, refl, refl, refl, refl, refl)

numbers :
    (number_octets 0 ≡ 0 ∷ []) × (number_octets 255 ≡ 0 ∷ 0xff ∷ []) × (number_octets 2147483648 ≡ 0 ∷ 0x80 ∷ 0 ∷ 0 ∷ 0 ∷ [])
    × (number_octets (2 ^ 32 - 1) ≡ 0 ∷ 0xff ∷ 0xff ∷ 0xff ∷ 0xff ∷ [])
    × (number_octets (2 ^ 63 - 1) ≡ 0x7f ∷ 0xff ∷ 0xff ∷ 0xff ∷ 0xff ∷ 0xff ∷ 0xff ∷ 0xff ∷ [])
    × (number_octets (2 ^ 64 - 1) ≡ 0 ∷ 0xff ∷ 0xff ∷ 0xff ∷ 0xff ∷ 0xff ∷ 0xff ∷ 0xff ∷ 0xff ∷ [])
unfolding number_octets
numbers = (refl, refl, refl, refl, refl, refl)

-- 2.100.3, 1.3.16384.2097152.268435456 and 1.3.6.1.4.1.4294967295
names :
    (name_octets (2 ∷ 100 ∷ 3 ∷ []) ≡ 0x81 ∷ 0x34 ∷ 0x03 ∷ [])
    × (name_octets (1 ∷ 3 ∷ 16384 ∷ 2097152 ∷ 268435456 ∷ []) ≡ 0x2b ∷ 0x81 ∷ 0x80 ∷ 0 ∷ 0x81 ∷ 0x80 ∷ 0x80 ∷ 0 ∷ 0x81 ∷ 0x80 ∷ 0x80 ∷ 0x80 ∷ 0 ∷ [])
    × (name_octets (1 ∷ 3 ∷ 6 ∷ 1 ∷ 4 ∷ 1 ∷ 4294967295 ∷ []) ≡ 0x2b ∷ 6 ∷ 1 ∷ 4 ∷ 1 ∷ 0x8f ∷ 0xff ∷ 0xff ∷ 0xff ∷ 0x7f ∷ [])
unfolding name_octets
names = (refl, refl, refl)
