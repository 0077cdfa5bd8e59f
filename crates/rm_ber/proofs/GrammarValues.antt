-- The value that the functions find is the one that the grammar accepts.
use Rattle.std.proofs.Common.{◌≡◌, ℕ, ◌^◌, ◌<◌, ◌≤◌, ◌⊎◌, inl, inr, ℤ, pos, negsuc, FitsSigned, cond, List, [], ◌∷◌, length, slice_index, Option, Some, None, refl, sym, ap, ◌∙◌, subst, arith}
use Rattle.std.specs.Prelude.{nat_lt, nat_le, ◌==◌, ◌&&◌, option_map}
use Rattle.std.specs.Int.{w32}
use Rattle.std.proofs.lemmas.Bool.{and_parts, and_from, ltb-true, leb-true, eqb-true, lt-ltb, le-leb}
use Rattle.std.proofs.lemmas.Bool.Decides.{nat_tests}
use Rattle.std.proofs.lemmas.Option.{none-some, same_Some, cond_some}
use Rattle.byteorder.specs.Endian.{big_number, twos_complement}
use Rattle.rm_val.specs.Val.{Val, int, octets, null, name, ip, counter, gauge, ticks, opaque_octets, big, no_object, no_instance, end_of_view}
use Rattle.rm_ber.specs.Element.{number_size, integer_size, integer_of}
use Rattle.rm_ber.specs.Grammar.{StandsFirst, IsInteger, IsUnsigned, IsValue, ValueFirst}
use Rattle.rm_ber.specs.Reading.{unsigned_of, below, unsigned_in, name_in, empty_in, value_in}
use Rattle.rm_ber.proofs.GrammarElements.{chosen, element_once, element_or_none}
use Rattle.rm_ber.proofs.GrammarNames.{name_found, name_finds}

-- 4 octets hold a number below 2 ^ 31 with its sign bit
size_below : (n : ℕ) → number_size n ≤ 4 → n < 2 ^ 31
size_below n h = grind (arith, nat_tests)

below_size : (n : ℕ) → n < 2 ^ 31 → number_size n ≤ 4
below_size n h = grind (arith, nat_tests)

size_fits : (z : ℤ) → integer_size z ≤ 4 → FitsSigned w32 z
size_fits (pos n) h = record { sfits = size_below n h }
size_fits (negsuc n) h = record { sfits = size_below n h }

fits_size : (z : ℤ) → FitsSigned w32 z → integer_size z ≤ 4
fits_size (pos n) fits = below_size n fits.sfits
fits_size (negsuc n) fits = below_size n fits.sfits

-- what is found as an integer is one
pub integer_found : (content : List ℕ) (z : ℤ) → integer_of content ≡ Some z → IsInteger content z
integer_found content z e =
    let count = length content in
    let number = twos_complement count (big_number count content) in
    let parts = cond_some (nat_lt 0 count && nat_le count 8 && nat_le (integer_size number) 4) number z e in
    let tests = and_parts (nat_lt 0 count && nat_le count 8) (nat_le (integer_size number) 4) parts.0 in
    let ends = and_parts (nat_lt 0 count) (nat_le count 8) tests.0 in
    record {
      some = ltb-true 0 count ends.0;
      most = leb-true count 8 ends.1;
      number = sym parts.1;
      fits = subst (FitsSigned w32) parts.1 (size_fits number (leb-true (integer_size number) 4 tests.1));
    }

-- an integer is found
pub integer_finds : (content : List ℕ) (z : ℤ) → IsInteger content z → integer_of content ≡ Some z
integer_finds content z h =
    let count = length content in
    let number = twos_complement count (big_number count content) in
    let size : integer_size number ≤ 4 = fits_size number (subst (FitsSigned w32) h.number h.fits) in
    let tests = and_from (nat_lt 0 count && nat_le count 8) (nat_le (integer_size number) 4) (and_from (nat_lt 0 count) (nat_le count 8) (lt-ltb 0 count h.some) (le-leb count 8 h.most)) (le-leb (integer_size number) 4 size) in
    let found : integer_of content ≡ Some number = rw tests refl in
    found ∙ ap Some (sym h.number)

-- what is found as an unsigned number is one
unsigned_found : (most limit : ℕ) (content : List ℕ) (n : ℕ) → unsigned_in most limit content ≡ Some n → IsUnsigned most limit content n
unfolding unsigned_in
unsigned_found most limit content n e =
    let count = length content in
    let number = big_number count content in
    let test = nat_le 1 count && nat_le count most && nat_lt (slice_index content 0) 0x80 in
    (elim (unsigned_of most content) as (λ o. unsigned_of most content ≡ o → below limit o ≡ Some n → IsUnsigned most limit content n) [
      | None ↦ λ none broken. absurd (none-some n broken)
      | Some m ↦ λ found under.
          let parts = cond_some test number m found in
          let tests = and_parts (nat_le 1 count && nat_le count most) (nat_lt (slice_index content 0) 0x80) parts.0 in
          let ends = and_parts (nat_le 1 count) (nat_le count most) tests.0 in
          let last = cond_some (nat_lt m limit) m n under in
          record {
            some = leb-true 1 count ends.0;
            few = leb-true count most ends.1;
            sign = ltb-true (slice_index content 0) 0x80 tests.1;
            number = sym last.1 ∙ sym parts.1;
            below = subst (λ k. k < limit) last.1 (ltb-true m limit last.0);
          }
    ]) refl e

-- an unsigned number is found
unsigned_finds : (most limit : ℕ) (content : List ℕ) (n : ℕ) → IsUnsigned most limit content n → unsigned_in most limit content ≡ Some n
unfolding unsigned_in
unsigned_finds most limit content n h =
    let count = length content in
    let tests = and_from (nat_le 1 count && nat_le count most) (nat_lt (slice_index content 0) 0x80) (and_from (nat_le 1 count) (nat_le count most) (le-leb 1 count h.some) (le-leb count most h.few)) (lt-ltb (slice_index content 0) 0x80 h.sign) in
    let found : unsigned_of most content ≡ Some (big_number count content) = rw tests refl in
    let under : below limit (Some n) ≡ Some n = rw (lt-ltb n limit h.below) refl in
    ap (below limit) (found ∙ ap Some (sym h.number)) ∙ under

-- what was mapped
map_some : {A B : Type 0} (f : A → B) (o : Option A) (y : B) → option_map f o ≡ Some y → (x : A) × (o ≡ Some x) × (f x ≡ y)
map_some f None y e = absurd (none-some y e)
map_some f (Some x) y e = (x, refl, same_Some (f x) y e)

-- the tag is this one, or the tests go on
step : (P : Type 0) (tag k : ℕ) (this others : Option Val) (v : Val) → cond (tag == k) this others ≡ Some v → (tag ≡ k → this ≡ Some v → P) → (others ≡ Some v → P) → P
step P tag k this others v e here there = elim (chosen (tag == k) this others (Some v) e) [
  | inl is ↦ here (eqb-true tag k is.0) is.1
  | inr other ↦ there other.1
]

empty_found : (tag : ℕ) (content : List ℕ) (v : Val) → empty_in tag content ≡ Some v → IsValue tag content v
unfolding empty_in
empty_found tag (octet ∷ more) v e = absurd (none-some v e)
empty_found tag [] v e =
    let P : Type 0 = IsValue tag [] v in
    let given = λ (w : Val) (this : Some w ≡ Some v). same_Some w v this in
    step P tag 0x05 _ _ v e (λ is this. subst (IsValue tag []) (given null this) (is, refl)) (λ e.
    step P tag 0x80 _ _ v e (λ is this. subst (IsValue tag []) (given no_object this) (is, refl)) (λ e.
    step P tag 0x81 _ _ v e (λ is this. subst (IsValue tag []) (given no_instance this) (is, refl)) (λ e.
    step P tag 0x82 _ _ v e (λ is this. subst (IsValue tag []) (given end_of_view this) (is, refl)) (λ e. absurd (none-some v e)))))

-- what is found as a value is one
pub value_found : (tag : ℕ) (content : List ℕ) (v : Val) → value_in tag content ≡ Some v → IsValue tag content v
unfolding value_in
value_found tag content v e =
    let P : Type 0 = IsValue tag content v in
    step P tag 0x02 _ _ v e (λ is this. let m = map_some int _ v this in subst (IsValue tag content) m.2 (is, integer_found content m.0 m.1)) (λ e.
    step P tag 0x04 _ _ v e (λ is this. subst (IsValue tag content) (same_Some (octets content) v this) (is, refl)) (λ e.
    step P tag 0x06 _ _ v e (λ is this. let m = map_some name _ v this in subst (IsValue tag content) m.2 (is, name_found content m.0 m.1)) (λ e.
    step P tag 0x40 _ _ v e (λ is this. let four = cond_some (length content == 4) (ip content) v this in subst (IsValue tag content) four.1 (is, refl, eqb-true (length content) 4 four.0)) (λ e.
    step P tag 0x41 _ _ v e (λ is this. let m = map_some counter _ v this in subst (IsValue tag content) m.2 (is, unsigned_found 8 (2 ^ 32) content m.0 m.1)) (λ e.
    step P tag 0x42 _ _ v e (λ is this. let m = map_some gauge _ v this in subst (IsValue tag content) m.2 (is, unsigned_found 8 (2 ^ 32) content m.0 m.1)) (λ e.
    step P tag 0x43 _ _ v e (λ is this. let m = map_some ticks _ v this in subst (IsValue tag content) m.2 (is, unsigned_found 8 (2 ^ 32) content m.0 m.1)) (λ e.
    step P tag 0x44 _ _ v e (λ is this. subst (IsValue tag content) (same_Some (opaque_octets content) v this) (is, refl)) (λ e.
    step P tag 0x46 _ _ v e (λ is this. let m = map_some big _ v this in subst (IsValue tag content) m.2 (is, unsigned_found 9 (2 ^ 64) content m.0 m.1)) (λ e.
    empty_found tag content v e)))))))))

-- a value is found
pub value_finds : (tag : ℕ) (content : List ℕ) (v : Val) → IsValue tag content v → value_in tag content ≡ Some v
unfolding value_in empty_in
value_finds tag content (int z) h = rw (h.0, integer_finds content z h.1) refl
value_finds tag content (octets bytes) h = rw (h.0, h.1) refl
value_finds tag content null h = rw (h.0, h.1) refl
value_finds tag content (name numbers) h = rw (h.0, name_finds content numbers h.1) refl
value_finds tag content (ip bytes) h = rw (h.0, h.1, h.2) refl
value_finds tag content (counter n) h = rw (h.0, unsigned_finds 8 (2 ^ 32) content n h.1) refl
value_finds tag content (gauge n) h = rw (h.0, unsigned_finds 8 (2 ^ 32) content n h.1) refl
value_finds tag content (ticks n) h = rw (h.0, unsigned_finds 8 (2 ^ 32) content n h.1) refl
value_finds tag content (opaque_octets bytes) h = rw (h.0, h.1) refl
value_finds tag content (big n) h = rw (h.0, unsigned_finds 9 (2 ^ 64) content n h.1) refl
value_finds tag content no_object h = rw (h.0, h.1) refl
value_finds tag content no_instance h = rw (h.0, h.1) refl
value_finds tag content end_of_view h = rw (h.0, h.1) refl

-- at most one value stands first, with one rest
pub value_once : (v w : Val) (rest other_rest bytes : List ℕ) → ValueFirst v rest bytes → ValueFirst w other_rest bytes → (v ≡ w) × (rest ≡ other_rest)
value_once v w rest other_rest bytes h k =
    let same = element_once h.tag k.tag h.content k.content rest other_rest bytes h.stands k.stands in
    let found : value_in h.tag h.content ≡ Some w = ap (λ t. value_in t h.content) same.0 ∙ ap (value_in k.tag) same.1 ∙ value_finds k.tag k.content w k.is_value in
    (same_Some v w (sym (value_finds h.tag h.content v h.is_value) ∙ found), same.2)

-- the value of the element that stands first, or none
value_of_first : (tag : ℕ) (content rest bytes : List ℕ) → StandsFirst tag content rest bytes → (found : Option Val) → value_in tag content ≡ found
    → ((v : Val) × (rest : List ℕ) × ValueFirst v rest bytes) ⊎ ((v : Val) (rest : List ℕ) → ValueFirst v rest bytes → ⊥)
value_of_first tag content rest bytes first None is = inr (λ v other second.
    let same = element_once tag second.tag content second.content rest other bytes first second.stands in
    none-some v (sym is ∙ ap (λ t. value_in t content) same.0 ∙ ap (value_in second.tag) same.1 ∙ value_finds second.tag second.content v second.is_value))
value_of_first tag content rest bytes first (Some v) is = inl (v, rest, record { tag = tag; content = content; stands = first; is_value = value_found tag content v is })

-- a value stands first, or none does
pub value_or_none : (bytes : List ℕ) → ((v : Val) × (rest : List ℕ) × ValueFirst v rest bytes) ⊎ ((v : Val) (rest : List ℕ) → ValueFirst v rest bytes → ⊥)
value_or_none bytes = elim (element_or_none bytes) [
  | inl e ↦ value_of_first e.0 e.1 e.2 bytes e.3 (value_in e.0 e.1) refl
  | inr none ↦ inr (λ v rest first. none first.tag first.content rest first.stands)
]

-- an element with that tag stands first, whose content reads as that
abbrev pub ReadsFirst : {A : Type 0} → ℕ → (List ℕ → Option A) → A → List ℕ → List ℕ → Type 0
ReadsFirst tag read value rest bytes = (content : List ℕ) × StandsFirst tag content rest bytes × (read content ≡ Some value)

-- what an element's content reads as is what is read first
pub reads_once : {A : Type 0} (tag : ℕ) (read : List ℕ → Option A) (found : Option A) (value : A) (content rest other_rest bytes : List ℕ)
    → StandsFirst tag content rest bytes → found ≡ read content → ReadsFirst tag read value other_rest bytes → (found ≡ Some value) × (rest ≡ other_rest)
reads_once tag read found value content rest other_rest bytes stands is reads =
    let same = element_once tag tag content reads.0 rest other_rest bytes stands reads.1 in
    (is ∙ ap read same.1 ∙ reads.2, same.2)

pub reads_none : {A : Type 0} (tag : ℕ) (read : List ℕ → Option A) (value : A) (content rest other_rest bytes : List ℕ)
    → StandsFirst tag content rest bytes → None ≡ read content → ReadsFirst tag read value other_rest bytes → ⊥
reads_none tag read value content rest other_rest bytes stands is reads = none-some value (reads_once tag read None value content rest other_rest bytes stands is reads).0

-- an INTEGER's element
pub int_parts : (z : ℤ) (rest bytes : List ℕ) → ValueFirst (int z) rest bytes → ReadsFirst 0x02 integer_of z rest bytes
int_parts z rest bytes h =
    (h.content, subst (λ t. StandsFirst t h.content rest bytes) h.is_value.0 h.stands, integer_finds h.content z h.is_value.1)

-- an OCTET STRING's element
pub octets_parts : (content rest bytes : List ℕ) → ValueFirst (octets content) rest bytes → StandsFirst 0x04 content rest bytes
octets_parts content rest bytes h =
    subst (λ t. StandsFirst t content rest bytes) h.is_value.0 (subst (λ xs. StandsFirst h.tag xs rest bytes) h.is_value.1 h.stands)

-- an OBJECT IDENTIFIER's element
pub name_parts : (numbers rest bytes : List ℕ) → ValueFirst (name numbers) rest bytes → ReadsFirst 0x06 name_in numbers rest bytes
name_parts numbers rest bytes h =
    (h.content, subst (λ t. StandsFirst t h.content rest bytes) h.is_value.0 h.stands, name_finds h.content numbers h.is_value.1)

-- the value of an element that stands first does
pub value_stands : (tag : ℕ) (content rest bytes : List ℕ) (v : Val) → StandsFirst tag content rest bytes → value_in tag content ≡ Some v → ValueFirst v rest bytes
value_stands tag content rest bytes v h e = record { tag = tag; content = content; stands = h; is_value = value_found tag content v e }

-- the name of an OBJECT IDENTIFIER that stands first does
pub name_stands : (content rest bytes numbers : List ℕ) → StandsFirst 0x06 content rest bytes → name_in content ≡ Some numbers → ValueFirst (name numbers) rest bytes
name_stands content rest bytes numbers h e = record { tag = 0x06; content = content; stands = h; is_value = (refl, name_found content numbers e) }
