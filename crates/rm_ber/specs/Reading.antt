-- What octets begin with, as functions of the octets. What these find is what the grammar accepts.
use Rattle.std.specs.Prelude.{◌≡◌, ℕ, zero, suc, ◌+◌, ◌-◌, ◌*◌, ◌%◌, ◌^◌, nat_lt, nat_le, ◌==◌, ◌&&◌, if◌then◌else◌, List, [], ◌∷◌, ◌++◌, length, take, drop, slice_index, Option, Some, None, option_map}
use Rattle.byteorder.specs.Endian.{big_number}
use Rattle.rm_val.specs.Val.{Val, int, octets, null, name, ip, counter, gauge, ticks, opaque_octets, big, no_object, no_instance, end_of_view}
use Rattle.rm_ber.specs.declared.reader.parts.Element.{Element}
use Rattle.rm_ber.specs.Element.{integer_of}
use Rattle.rm_ber.specs.Grammar.{numbers_of}

-- the number of a length, and the octets after it
unfoldable pub length_at : List ℕ → Option (ℕ × List ℕ)
length_at [] = None
length_at (first ∷ more) =
    if nat_lt first 0x80 then Some (first, more)
    else if nat_lt 0x80 first && nat_le first 0x84 && nat_le (first - 0x80) (length more)
    then Some (big_number (first - 0x80) (take (first - 0x80) more), drop (first - 0x80) more)
    else None

-- an element's tag and content, and the octets after it
pub record Parts : Type 0 where
  pub tag : ℕ
  pub content : List ℕ
  pub rest : List ℕ

-- the element that stands first, given its tag and what follows its length
abbrev pub parts_from : ℕ → Option (ℕ × List ℕ) → Option Parts
parts_from tag None = None
parts_from tag (Some counted) =
    if nat_le counted.0 (length counted.1)
    then Some (record { tag = tag; content = take counted.0 counted.1; rest = drop counted.0 counted.1 })
    else None

-- the element that stands first
unfoldable pub element_at : List ℕ → Option Parts
element_at [] = None
element_at (tag ∷ more) = parts_from tag (length_at more)

-- what the code finds is this
abbrev pub Finds : Option Element → Option Parts → Type 0
Finds None parts = parts ≡ None
Finds (Some e) parts = parts ≡ Some (record { tag = e.tag; content = e.content.now; rest = e.rest.now })

-- the number of 1 to most octets of two's complement whose sign bit is 0
abbrev pub unsigned_of : ℕ → List ℕ → Option ℕ
unsigned_of most content =
    if nat_le 1 (length content) && nat_le (length content) most && nat_lt (slice_index content 0) 0x80
    then Some (big_number (length content) content)
    else None

-- a number below a limit
abbrev pub below : ℕ → Option ℕ → Option ℕ
below limit None = None
below limit (Some n) = if nat_lt n limit then Some n else None

-- that number, if it is below the limit
unfoldable pub unsigned_in : ℕ → ℕ → List ℕ → Option ℕ
unsigned_in most limit content = below limit (unsigned_of most content)

-- the number in base 128 that goes on with the low seven bits of each octet up to the first below 0x80, where it
-- stays below 2 ^ 32, and the octets after it
abbrev pub group_from : ℕ → List ℕ → Option (ℕ × List ℕ)
group_from n [] = None
group_from n (octet ∷ more) =
    if nat_lt n (2 ^ 25)
    then (if nat_lt octet 0x80 then Some (128 * n + octet % 128, more) else group_from (128 * n + octet % 128) more)
    else None

-- the number of a name that stands first, and the octets after it
unfoldable pub group_at : List ℕ → Option (ℕ × List ℕ)
group_at bytes = if slice_index bytes 0 == 0x80 then None else group_from 0 bytes

-- the number of the group that stands first, and those of the octets after it
abbrev pub after_group : (List ℕ → Option (List ℕ)) → Option (ℕ × List ℕ) → Option (List ℕ)
after_group numbers_in None = None
after_group numbers_in (Some group) = option_map (λ numbers. group.0 ∷ numbers) (numbers_in group.1)

-- the numbers of the groups, one after the other, where there are at most so many
unfoldable pub groups_within : ℕ → List ℕ → Option (List ℕ)
groups_within most [] = Some []
groups_within zero (octet ∷ more) = None
groups_within (suc most) (octet ∷ more) = after_group (groups_within most) (group_at (octet ∷ more))

-- these numbers and those, if a name has room for all of them
abbrev pub extended : List ℕ → Option (List ℕ) → Option (List ℕ)
extended front None = None
extended front (Some numbers) = if nat_le (length (front ++ numbers)) 128 then Some (front ++ numbers) else None

-- the numbers of a name, given its first group and the octets after it
abbrev pub name_from : Option (ℕ × List ℕ) → Option (List ℕ)
name_from None = None
name_from (Some group) = extended (numbers_of (group.0 ∷ [])) (groups_within (length group.1) group.1)

-- the numbers of a name
unfoldable pub name_in : List ℕ → Option (List ℕ)
name_in content = name_from (group_at content)

-- the value of a kind that has no content
unfoldable pub empty_in : ℕ → List ℕ → Option Val
empty_in tag (octet ∷ more) = None
empty_in tag [] =
    if tag == 0x05 then Some null
    else if tag == 0x80 then Some no_object
    else if tag == 0x81 then Some no_instance
    else if tag == 0x82 then Some end_of_view
    else None

-- the value of an element with that tag and content
unfoldable pub value_in : ℕ → List ℕ → Option Val
value_in tag content =
    if tag == 0x02 then option_map int (integer_of content)
    else if tag == 0x04 then Some (octets content)
    else if tag == 0x06 then option_map name (name_in content)
    else if tag == 0x40 then (if length content == 4 then Some (ip content) else None)
    else if tag == 0x41 then option_map counter (unsigned_in 8 (2 ^ 32) content)
    else if tag == 0x42 then option_map gauge (unsigned_in 8 (2 ^ 32) content)
    else if tag == 0x43 then option_map ticks (unsigned_in 8 (2 ^ 32) content)
    else if tag == 0x44 then Some (opaque_octets content)
    else if tag == 0x46 then option_map big (unsigned_in 9 (2 ^ 64) content)
    else empty_in tag content
