-- The canonical octets of values are accepted, and are the fewest; no others as few are.
use Rattle.std.proofs.Common.{◌≡◌, ℕ, ◌+◌, ◌^◌, ◌<◌, ◌≤◌, List, [], ◌++◌, length, All, length-append, refl, subst, Result, Ok, Err, IsOk, OnOk, ◌↔◌, arith}
use Rattle.rm_val.specs.Val.{Val, int, octets, null, name, ip, counter, gauge, ticks, opaque_octets, big, no_object, no_instance, end_of_view}
use Rattle.rm_val.specs.Spellable.{HasSpelling}
use Rattle.rm_ber.specs.Element.{length_octets, element, integer_octets, number_octets, name_octets, value_element}
use Rattle.rm_ber.specs.Grammar.{StandsFirst, IsUnsigned, IsValue, ValueFirst}
use Rattle.rm_ber.specs.Canonical.{HasLength, IsInRange, IsAccepted, AreFewest}
use Rattle.rm_ber.proofs.ElementLemmas.{integer_octets-short}
use Rattle.rm_ber.proofs.CanonicalLengths.{themselves, element_first, content_octets, element-fewest}
use Rattle.rm_ber.proofs.CanonicalNames.{is_name, name_octets-short, name-fewest}
use Rattle.rm_ber.proofs.CanonicalNumbers.{is_integer, is_unsigned_32, is_unsigned_64, unsigned_32-fewest, unsigned_64-fewest, integer-fewest}

-- an element is accepted as the value that its content is
content_first : (v : Val) (tag : ℕ) (content rest : List ℕ) → length content ≤ 4294967295 → IsValue tag content v → ValueFirst v rest (element tag content ++ rest)
content_first v tag content rest short is = record { tag = tag; content = content; stands = element_first tag content rest short; is_value = is }

unsigned_short : (most limit : ℕ) (content : List ℕ) (n : ℕ) → most ≤ 9 → IsUnsigned most limit content n → length content ≤ 4294967295
unsigned_short most limit content n low is = let few = is.few in omega arith

number_first : (v : Val) (tag n : ℕ) (rest : List ℕ) → (IsUnsigned 8 (2 ^ 32) (number_octets n) n → IsValue tag (number_octets n) v) → n < 2 ^ 32
    → ValueFirst v rest (element tag (number_octets n) ++ rest)
number_first v tag n rest is below =
    let content = is_unsigned_32 n below in
    content_first v tag (number_octets n) rest (unsigned_short 8 (2 ^ 32) (number_octets n) n (omega arith) content) (is content)

pub value_first : (v : Val) (rest : List ℕ) → HasSpelling v → HasLength v → IsInRange v → ValueFirst v rest (value_element v ++ rest)
value_first (int z) rest spells short fits =
    let most = integer_octets-short z fits in
    content_first (int z) 0x02 (integer_octets z) rest (omega arith) (refl, is_integer z fits)
value_first (octets bytes) rest spells short fits = content_first (octets bytes) 0x04 bytes rest short (refl, refl)
value_first null rest spells short fits = content_first null 0x05 [] rest (omega arith) (refl, refl)
value_first (name numbers) rest spells short fits =
    let most = name_octets-short numbers spells fits.1 in
    content_first (name numbers) 0x06 (name_octets numbers) rest (omega arith) (refl, is_name numbers spells fits.0 fits.1)
value_first (ip bytes) rest spells short fits =
    content_first (ip bytes) 0x40 bytes rest (omega arith) (refl, refl, fits)
value_first (counter n) rest spells short fits = number_first (counter n) 0x41 n rest (λ is. (refl, is)) fits
value_first (gauge n) rest spells short fits = number_first (gauge n) 0x42 n rest (λ is. (refl, is)) fits
value_first (ticks n) rest spells short fits = number_first (ticks n) 0x43 n rest (λ is. (refl, is)) fits
value_first (opaque_octets bytes) rest spells short fits = content_first (opaque_octets bytes) 0x44 bytes rest short (refl, refl)
value_first (big n) rest spells short fits =
    let content = is_unsigned_64 n fits in
    content_first (big n) 0x46 (number_octets n) rest (unsigned_short 9 (2 ^ 64) (number_octets n) n (omega arith) content) (refl, content)
value_first no_object rest spells short fits = content_first no_object 0x80 [] rest (omega arith) (refl, refl)
value_first no_instance rest spells short fits = content_first no_instance 0x81 [] rest (omega arith) (refl, refl)
value_first end_of_view rest spells short fits = content_first end_of_view 0x82 [] rest (omega arith) (refl, refl)

-- no element has fewer octets that is accepted with the same tag, and whose content hasn't
same_tag : (tag accepted : ℕ) (content rest bytes canonical : List ℕ) → StandsFirst accepted content rest bytes → All (λ o. o < 256) bytes → accepted ≡ tag → AreFewest canonical content
    → AreFewest (element tag canonical ++ rest) bytes
same_tag tag accepted content rest bytes canonical stands are is fewest =
    element-fewest tag content rest bytes canonical (subst (λ (t : ℕ). StandsFirst t content rest bytes) is stands) are fewest

fewest_of : (v : Val) (tag : ℕ) (content rest bytes : List ℕ) → StandsFirst tag content rest bytes → All (λ o. o < 256) bytes → All (λ o. o < 256) content → IsValue tag content v
    → AreFewest (value_element v ++ rest) bytes
fewest_of (int z) tag content rest bytes stands are inner is =
    same_tag 0x02 tag content rest bytes (integer_octets z) stands are is.0 (integer-fewest content z is.1 inner)
fewest_of (octets o) tag content rest bytes stands are inner is = same_tag 0x04 tag content rest bytes o stands are is.0 (themselves o content is.1)
fewest_of null tag content rest bytes stands are inner is = same_tag 0x05 tag content rest bytes [] stands are is.0 (themselves [] content is.1)
fewest_of (name numbers) tag content rest bytes stands are inner is =
    same_tag 0x06 tag content rest bytes (name_octets numbers) stands are is.0 (name-fewest content numbers is.1 inner)
fewest_of (ip o) tag content rest bytes stands are inner is = same_tag 0x40 tag content rest bytes o stands are is.0 (themselves o content is.1)
fewest_of (counter n) tag content rest bytes stands are inner is =
    same_tag 0x41 tag content rest bytes (number_octets n) stands are is.0 (unsigned_32-fewest content n is.1 inner)
fewest_of (gauge n) tag content rest bytes stands are inner is =
    same_tag 0x42 tag content rest bytes (number_octets n) stands are is.0 (unsigned_32-fewest content n is.1 inner)
fewest_of (ticks n) tag content rest bytes stands are inner is =
    same_tag 0x43 tag content rest bytes (number_octets n) stands are is.0 (unsigned_32-fewest content n is.1 inner)
fewest_of (opaque_octets o) tag content rest bytes stands are inner is = same_tag 0x44 tag content rest bytes o stands are is.0 (themselves o content is.1)
fewest_of (big n) tag content rest bytes stands are inner is =
    same_tag 0x46 tag content rest bytes (number_octets n) stands are is.0 (unsigned_64-fewest content n is.1 inner)
fewest_of no_object tag content rest bytes stands are inner is = same_tag 0x80 tag content rest bytes [] stands are is.0 (themselves [] content is.1)
fewest_of no_instance tag content rest bytes stands are inner is = same_tag 0x81 tag content rest bytes [] stands are is.0 (themselves [] content is.1)
fewest_of end_of_view tag content rest bytes stands are inner is = same_tag 0x82 tag content rest bytes [] stands are is.0 (themselves [] content is.1)

-- octets that are accepted as a value are no fewer than the canonical ones, and are these where they are as many
pub fewest : (v : Val) (rest bytes : List ℕ) → ValueFirst v rest bytes → All (λ o. o < 256) bytes → AreFewest (value_element v ++ rest) bytes
fewest v rest bytes first are =
    fewest_of v first.tag first.content rest bytes first.stands are (content_octets first.tag first.content rest bytes first.stands are) first.is_value

-- a value whose element fits has a length
has_length : (v : Val) → length (value_element v) ≤ 1472 → HasLength v
unfolding element
has_length (octets o) room = let parts = length-append (length_octets (length o)) o in omega arith
has_length (opaque_octets o) room = let parts = length-append (length_octets (length o)) o in omega arith
has_length v room = tt

-- what was put is accepted
pub once_put : {T E : Type 0} (r : Result T E) (v : Val) (old : List ℕ) → HasSpelling v → IsInRange v → (IsOk r ↔ (length old + length (value_element v) ≤ 1472)) → OnOk r (IsAccepted v)
once_put (Ok u) v old spells fits room =
    λ rest. let few = room.0 refl in value_first v rest spells (has_length v (omega arith)) fits
once_put (Err e) v old spells fits room = tt
