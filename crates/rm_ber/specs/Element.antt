-- The octets of an element (X.690, 8.1.3, 8.3 and 8.19; RFC 1905, section 3): each length and each integer in the fewest octets.
use Rattle.std.specs.Prelude.{ℕ, zero, suc, ◌+◌, ◌*◌, ◌/◌, ◌%◌, ◌^◌, ℤ, pos, negsuc, nat_lt, nat_le, ◌&&◌, if◌then◌else◌, List, [], ◌∷◌, ◌++◌, length, flat_map, Option, Some, None}
use Rattle.std.specs.Int.{w64, cast_unsigned}
use Rattle.byteorder.specs.Endian.{big_bytes, big_number, twos_complement}
use Rattle.rm_val.specs.Val.{Val, int, octets, null, name, ip, counter, gauge, ticks, opaque_octets, big, no_object, no_instance, end_of_view}

-- one octet below 128, else the count of the octets that follow, with its high bit set, and then these
abbrev pub length_octets : ℕ → List ℕ
length_octets n =
    if nat_lt n 128 then n ∷ []
    else if nat_lt n (2 ^ 8) then 0x81 ∷ big_bytes 1 n
    else if nat_lt n (2 ^ 16) then 0x82 ∷ big_bytes 2 n
    else if nat_lt n (2 ^ 24) then 0x83 ∷ big_bytes 3 n
    else 0x84 ∷ big_bytes 4 n

-- a tag, the length of the content, and the content
unfoldable pub element : ℕ → List ℕ → List ℕ
element tag content = tag ∷ length_octets (length content) ++ content

-- how many octets hold n below a sign bit, for n below 2 ^ 64
abbrev pub number_size : ℕ → ℕ
number_size n =
    if nat_lt n (2 ^ 7) then 1
    else if nat_lt n (2 ^ 15) then 2
    else if nat_lt n (2 ^ 23) then 3
    else if nat_lt n (2 ^ 31) then 4
    else if nat_lt n (2 ^ 39) then 5
    else if nat_lt n (2 ^ 47) then 6
    else if nat_lt n (2 ^ 55) then 7
    else if nat_lt n (2 ^ 63) then 8
    else 9

-- an unsigned number in two's complement, so that its sign bit is 0
unfoldable pub number_octets : ℕ → List ℕ
number_octets n = big_bytes (number_size n) n

-- n and -(n + 1) take as many octets, since each has the other's bits turned over
abbrev pub integer_size : ℤ → ℕ
integer_size (pos n) = number_size n
integer_size (negsuc n) = number_size n

-- a signed number of at most 64 bits in two's complement
unfoldable pub integer_octets : ℤ → List ℕ
integer_octets z = big_bytes (integer_size z) (cast_unsigned w64 z)

-- the number that 1 to 8 octets of two's complement give, where it has 32 bits at most
abbrev pub integer_of : List ℕ → Option ℤ
integer_of content =
    let count = length content in
    let number = twos_complement count (big_number count content) in
    if nat_lt 0 count && nat_le count 8 && nat_le (integer_size number) 4 then Some number else None

-- how many digits of base 128 n has above the lowest, for n below 2 ^ 35
abbrev pub higher_groups : ℕ → ℕ
higher_groups n =
    if nat_lt n (2 ^ 7) then 0
    else if nat_lt n (2 ^ 14) then 1
    else if nat_lt n (2 ^ 21) then 2
    else if nat_lt n (2 ^ 28) then 3
    else 4

-- k digits of base 128 above the lowest, the highest first, each with the high bit set
abbrev pub marked_groups : ℕ → ℕ → List ℕ
marked_groups zero n = []
marked_groups (suc k) n = (128 + n / 128 ^ suc k % 128) ∷ marked_groups k n

-- a number of a name in base 128, with the high bit set in all octets but the last
abbrev pub group_octets : ℕ → List ℕ
group_octets n = marked_groups (higher_groups n) n ++ (n % 128) ∷ []

-- the groups of a name, of which the first joins its first two numbers
unfoldable pub name_octets : List ℕ → List ℕ
name_octets [] = []
name_octets (a ∷ []) = group_octets (40 * a)
name_octets (a ∷ b ∷ more) = group_octets (40 * a + b) ++ flat_map group_octets more

-- the element of a value
abbrev pub value_element : Val → List ℕ
value_element (int z) = element 0x02 (integer_octets z)
value_element (octets bytes) = element 0x04 bytes
value_element null = element 0x05 []
value_element (name numbers) = element 0x06 (name_octets numbers)
value_element (ip bytes) = element 0x40 bytes
value_element (counter n) = element 0x41 (number_octets n)
value_element (gauge n) = element 0x42 (number_octets n)
value_element (ticks n) = element 0x43 (number_octets n)
value_element (opaque_octets bytes) = element 0x44 bytes
value_element (big n) = element 0x46 (number_octets n)
value_element no_object = element 0x80 []
value_element no_instance = element 0x81 []
value_element end_of_view = element 0x82 []
