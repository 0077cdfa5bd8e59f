-- The octets that are accepted as elements (X.690, 8.1, 8.3 and 8.19; RFC 1905, section 3). A length and an
-- integer may take more octets than are needed.
use Rattle.std.specs.Prelude.{◌≡◌, ◌⊎◌, ◌≤◌, ◌<◌, ℕ, ◌+◌, ◌-◌, ◌*◌, ◌%◌, ◌^◌, ℤ, FitsSigned, nat_lt, if◌then◌else◌, List, [], ◌∷◌, ◌++◌, length, slice_index, All}
use Rattle.std.specs.Int.{w32}
use Rattle.byteorder.specs.Endian.{big_number, twos_complement}
use Rattle.rm_val.specs.Val.{Val, int, octets, null, name, ip, counter, gauge, ticks, opaque_octets, big, no_object, no_instance, end_of_view}

-- the octets are a length: one below 0x80, or 0x81 to 0x84 and 1 to 4 octets with the number, the highest first
abbrev pub IsLength : List ℕ → ℕ → Type 0
IsLength [] n = ⊥
IsLength (first ∷ more) n =
    ((more ≡ []) × (first < 0x80) × (n ≡ first))
    ⊎ ((1 ≤ length more) × (length more ≤ 4) × (first ≡ 0x80 + length more) × (n ≡ big_number (length more) more))

-- the octets are an element: a tag, a length, and as many octets of content
pub record IsElement (tag : ℕ) (content element : List ℕ) : Type 0 where
  pub count : List ℕ
  pub is_length : IsLength count (length content)
  pub is : element ≡ tag ∷ count ++ content

-- an element stands at the front of the octets, and then the rest of them
pub record StandsFirst (tag : ℕ) (content rest bytes : List ℕ) : Type 0 where
  pub element : List ℕ
  pub is_element : IsElement tag content element
  pub is : bytes ≡ element ++ rest

-- 1 to 8 octets of two's complement, of a number of 32 bits
pub record IsInteger (content : List ℕ) (z : ℤ) : Type 0 where
  pub some : 1 ≤ length content
  pub most : length content ≤ 8
  pub number : z ≡ twos_complement (length content) (big_number (length content) content)
  pub fits : FitsSigned w32 z

-- some octets of two's complement whose sign bit is 0, of a number below a limit
pub record IsUnsigned (most limit : ℕ) (content : List ℕ) (n : ℕ) : Type 0 where
  pub some : 1 ≤ length content
  pub few : length content ≤ most
  pub sign : slice_index content 0 < 0x80
  pub number : n ≡ big_number (length content) content
  pub below : n < limit

-- the number in base 128 that goes on with the low seven bits of each octet
abbrev pub base_128 : ℕ → List ℕ → ℕ
base_128 n [] = n
base_128 n (octet ∷ more) = base_128 (128 * n + octet % 128) more

-- a number of a name: octets from 0x80 on and a last one below it, of which the first isn't 0x80
pub record IsGroup (group : List ℕ) (n : ℕ) : Type 0 where
  pub front : List ℕ
  pub last : ℕ
  pub is : group ≡ front ++ last ∷ []
  pub marked : All (λ octet. 0x80 ≤ octet) front
  pub ends : last < 0x80
  pub fewest : slice_index group 0 ≡ 0x80 → ⊥
  pub number : n ≡ base_128 0 group
  pub below : n < 2 ^ 32

-- groups, one after the other
abbrev pub AreGroups : List ℕ → List ℕ → Type 0
AreGroups content [] = content ≡ []
AreGroups content (n ∷ more) = (group rest : List ℕ) × IsGroup group n × (content ≡ group ++ rest) × AreGroups rest more

-- the first number of a name is 0, 1 or 2, and the first group has it and the second number
abbrev pub numbers_of : List ℕ → List ℕ
numbers_of [] = []
numbers_of (first ∷ more) =
    if nat_lt first 40 then 0 ∷ first ∷ more
    else if nat_lt first 80 then 1 ∷ (first - 40) ∷ more
    else 2 ∷ (first - 80) ∷ more

-- at least one group, of a name of at most 128 numbers
pub record IsName (content numbers : List ℕ) : Type 0 where
  pub groups : List ℕ
  pub are_groups : AreGroups content groups
  pub some : 1 ≤ length groups
  pub is : numbers ≡ numbers_of groups
  pub few : length numbers ≤ 128

-- the content of an element with that tag is the value
abbrev pub IsValue : ℕ → List ℕ → Val → Type 0
IsValue tag content (int z) = (tag ≡ 0x02) × IsInteger content z
IsValue tag content (octets bytes) = (tag ≡ 0x04) × (content ≡ bytes)
IsValue tag content null = (tag ≡ 0x05) × (content ≡ [])
IsValue tag content (name numbers) = (tag ≡ 0x06) × IsName content numbers
IsValue tag content (ip bytes) = (tag ≡ 0x40) × (content ≡ bytes) × (length bytes ≡ 4)
IsValue tag content (counter n) = (tag ≡ 0x41) × IsUnsigned 8 (2 ^ 32) content n
IsValue tag content (gauge n) = (tag ≡ 0x42) × IsUnsigned 8 (2 ^ 32) content n
IsValue tag content (ticks n) = (tag ≡ 0x43) × IsUnsigned 8 (2 ^ 32) content n
IsValue tag content (opaque_octets bytes) = (tag ≡ 0x44) × (content ≡ bytes)
IsValue tag content (big n) = (tag ≡ 0x46) × IsUnsigned 9 (2 ^ 64) content n
IsValue tag content no_object = (tag ≡ 0x80) × (content ≡ [])
IsValue tag content no_instance = (tag ≡ 0x81) × (content ≡ [])
IsValue tag content end_of_view = (tag ≡ 0x82) × (content ≡ [])

-- a value's element stands at the front of the octets, and then the rest
pub record ValueFirst (v : Val) (rest bytes : List ℕ) : Type 0 where
  pub tag : ℕ
  pub content : List ℕ
  pub stands : StandsFirst tag content rest bytes
  pub is_value : IsValue tag content v

-- what is left to read of a slice: the offset in it of the first octet left, and the octets left
pub record Left : Type 0 where
  pub at : ℕ
  pub left : List ℕ

-- the offset at which what is left ends
abbrev pub end_of : Left → ℕ
end_of r = r.at + length r.left
