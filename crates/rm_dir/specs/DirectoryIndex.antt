-- The indexes of protocolDirTable (RFC 2021): the identifier of a protocol, in four octets for each layer, and its parameters, in one octet for each
-- layer, both with their counts (RFC 2074, section 3).
use Rattle.std.proofs.Common.{◌≡◌, ℕ, ◌+◌, ◌*◌, ◌/◌, ◌%◌, ◌^◌, ◌<◌, ◌≤◌, List, [], ◌∷◌, length, get_or, Bool, true, false, cond, ◌&&◌, nat_eq, nat_le, nat_lt, Option, Some, None, refl, sym, ap, subst, ◌∙◌, arith}
use Rattle.std.specs.Prelude.{if◌then◌else◌}
use Rattle.std.specs.Str.{bytes_eq}
use Rattle.std.specs.Ordering.{nat_cmp, ordering_then}
use Rattle.std.specs.declared.cmp.Ordering.TheVariants.{Less, Equal, Greater}
use Rattle.std.specs.Cmp.Lexicographic.{slice_cmp}
use Rattle.std.proofs.lemmas.Bool.Decides.{nat_tests}
use Rattle.std.proofs.lemmas.Nat.{div-add-mod', mod_below}
use Rattle.std.proofs.lemmas.Option.{none-some, same_Some}
use Rattle.std.proofs.lemmas.Slice.Eq.{bytes_eq-Decides}
use Rattle.rm_model.specs.Indexing.{Indexing, IsIndexing}
use Rattle.rm_model.specs.Names.{Below}
use Rattle.rm_path.specs.declared.identifier.ProtocolIdentifier.{ProtocolIdentifier}
use Rattle.rm_path.specs.declared.identifier.ProtocolIdentifier.TheVariants.{Ether2, Ether, Ip, Tcp, Udp}
use Rattle.rm_path.specs.Identifier.{number_of, identified, IsInRange}
use Rattle.rm_path.proofs.Identifiers.{of_number as of_its_number, same_number}

-- a number of sixteen bits as the four octets of a layer, before some others
abbrev pub layer : ℕ → List ℕ → List ℕ
layer number above = 0 ∷ 0 ∷ number / 256 ∷ number % 256 ∷ above

-- the index of a protocol's row: ether2 is 0.0.0.1, and no parameter is other than 0
abbrev pub index_with : ProtocolIdentifier → List ℕ
index_with Ether2 = 4 ∷ 0 ∷ 0 ∷ 0 ∷ 1 ∷ 1 ∷ 0 ∷ []
index_with (Ether type) = 8 ∷ 0 ∷ 0 ∷ 0 ∷ 1 ∷ layer type (2 ∷ 0 ∷ 0 ∷ [])
index_with (Ip protocol) = 12 ∷ 0 ∷ 0 ∷ 0 ∷ 1 ∷ 0 ∷ 0 ∷ 8 ∷ 0 ∷ 0 ∷ 0 ∷ 0 ∷ protocol ∷ 3 ∷ 0 ∷ 0 ∷ 0 ∷ []
index_with (Tcp port) = 16 ∷ 0 ∷ 0 ∷ 0 ∷ 1 ∷ 0 ∷ 0 ∷ 8 ∷ 0 ∷ 0 ∷ 0 ∷ 0 ∷ 6 ∷ layer port (4 ∷ 0 ∷ 0 ∷ 0 ∷ 0 ∷ [])
index_with (Udp port) = 16 ∷ 0 ∷ 0 ∷ 0 ∷ 1 ∷ 0 ∷ 0 ∷ 8 ∷ 0 ∷ 0 ∷ 0 ∷ 0 ∷ 17 ∷ layer port (4 ∷ 0 ∷ 0 ∷ 0 ∷ 0 ∷ [])

-- which protocols can have a row: ether2, the types of Ethernet, the protocols of IP, and the ports of TCP and UDP but 0
abbrev pub may_have_row : ProtocolIdentifier → Bool
may_have_row Ether2 = true
may_have_row (Ether type) = nat_le 1536 type && nat_le type 65535
may_have_row (Ip protocol) = nat_le protocol 255
may_have_row (Tcp port) = nat_le 1 port && nat_le port 65535
may_have_row (Udp port) = nat_le 1 port && nat_le port 65535

-- whether a number is that of a protocol that can have a row
abbrev pub is_directory_row : ℕ → Bool
is_directory_row number = nat_eq (number_of (identified number)) number && may_have_row (identified number)

-- the only protocol whose row some numbers can be the index of
abbrev pub indexed : List ℕ → ProtocolIdentifier
indexed index =
    if nat_eq (length index) 7 then Ether2
    else if nat_eq (length index) 12 then Ether (get_or index 7 0 * 256 + get_or index 8 0)
    else if nat_eq (length index) 17 then Ip (get_or index 12 0)
    else if nat_eq (length index) 22
    then (if nat_eq (get_or index 12 0) 6 then Tcp (get_or index 15 0 * 256 + get_or index 16 0) else Udp (get_or index 15 0 * 256 + get_or index 16 0))
    else Udp 0

-- the number of a protocol, where some numbers are the index of its row
abbrev pub number_if : ProtocolIdentifier → List ℕ → Option ℕ
number_if protocol index = if may_have_row protocol && bytes_eq (index_with protocol) index then Some (number_of protocol) else None

-- the protocol whose row has a number, and the one whose row some numbers are the index of
abbrev pub row_protocol : ℕ → Option ProtocolIdentifier
row_protocol number = if is_directory_row number then Some (identified number) else None

abbrev pub protocol_of : List ℕ → Option ProtocolIdentifier
protocol_of index = if may_have_row (indexed index) && bytes_eq (index_with (indexed index)) index then Some (indexed index) else None

-- the index of a row, by the number of its protocol; any other number is that of itself alone, which is no row's index
abbrev pub directory_index : ℕ → List ℕ
directory_index number = if is_directory_row number then index_with (identified number) else number ∷ []

abbrev pub directory_number : List ℕ → Option ℕ
directory_number [] = None
directory_number (number ∷ []) = if is_directory_row number then None else Some number
directory_number (first ∷ second ∷ more) = number_if (indexed (first ∷ second ∷ more)) (first ∷ second ∷ more)

abbrev pub directory_indexing : Indexing
directory_indexing = record { index_of = directory_index; number_of = directory_number; is_row = is_directory_row; longest = 22 }

both : (a b : Bool) → (a && b) ≡ true → (a ≡ true) × (b ≡ true)
both true b is = (refl, is)
both false b is = absurd (cc)

equal : (m n : ℕ) → nat_eq m n ≡ true → m ≡ n
equal m n is = grind (arith, nat_tests)

-- the number of a protocol that may have a row has no more bits than it may have
in_range : (protocol : ProtocolIdentifier) → may_have_row protocol ≡ true → IsInRange protocol
in_range Ether2 may = tt
in_range (Ether type) may = let parts = both (nat_le 1536 type) (nat_le type 65535) may in grind (arith, nat_tests)
in_range (Ip protocol) may = grind (arith, nat_tests)
in_range (Tcp port) may = let parts = both (nat_le 1 port) (nat_le port 65535) may in grind (arith, nat_tests)
in_range (Udp port) may = let parts = both (nat_le 1 port) (nat_le port 65535) may in grind (arith, nat_tests)

-- a protocol that can have a row is the one with its number
pub of_number : (protocol : ProtocolIdentifier) → may_have_row protocol ≡ true → identified (number_of protocol) ≡ protocol
of_number protocol may = of_its_number protocol (in_range protocol may)

-- protocols that can have rows are one where their numbers are
pub same_protocol : (one other : ProtocolIdentifier) → may_have_row one ≡ true → may_have_row other ≡ true → number_of one ≡ number_of other → one ≡ other
same_protocol one other may also = same_number one other (in_range one may) (in_range other also)

itself : (n : ℕ) → nat_eq n n ≡ true
itself n = grind (arith, nat_tests)

-- the number of a protocol that can have a row is that of a row
pub row_of : (protocol : ProtocolIdentifier) → may_have_row protocol ≡ true → is_directory_row (number_of protocol) ≡ true
row_of protocol may = rw (of_number protocol may, itself (number_of protocol)) may

directory_forth : (index : List ℕ) (n : ℕ) → directory_number index ≡ Some n → directory_index n ≡ index
directory_forth [] n is = absurd (cc)
directory_forth (number ∷ []) n is = elim (is_directory_row number) as (λ t. is_directory_row number ≡ t → cond t None (Some number) ≡ Some n → directory_index n ≡ number ∷ []) [
  | true ↦ λ _ none. absurd (none-some n none)
  | false ↦ λ e same. subst (λ k. directory_index k ≡ number ∷ []) (same_Some number n same) (rw e refl)
] refl is
directory_forth (first ∷ second ∷ more) n is = of_protocol (indexed (first ∷ second ∷ more)) (first ∷ second ∷ more) is
  where
    of_protocol : (protocol : ProtocolIdentifier) (index : List ℕ) → number_if protocol index ≡ Some n → directory_index n ≡ index
    of_protocol protocol index given = elim (may_have_row protocol && bytes_eq (index_with protocol) index) as (λ t. (may_have_row protocol && bytes_eq (index_with protocol) index) ≡ t → cond t (Some (number_of protocol)) None ≡ Some n → directory_index n ≡ index) [
      | true ↦ λ e same.
          let parts = both (may_have_row protocol) _ e in
          subst (λ k. directory_index k ≡ index) (same_Some _ n same)
          (rw (row_of protocol parts.0, of_number protocol parts.0) ((bytes_eq-Decides (index_with protocol) index).0 parts.1))
      | false ↦ λ _ none. absurd (none-some n none)
    ] refl given

-- the number of a protocol's octets is that of the protocol
halves : (n : ℕ) → n / 256 * 256 + n % 256 ≡ n
halves n = div-add-mod' n 256

of_index : (protocol : ProtocolIdentifier) → indexed (index_with protocol) ≡ protocol
of_index Ether2 = refl
of_index (Ether type) = ap Ether (halves type)
of_index (Ip protocol) = refl
of_index (Tcp port) = ap Tcp (halves port)
of_index (Udp port) = ap Udp (halves port)

several : (protocol : ProtocolIdentifier) → directory_number (index_with protocol) ≡ number_if (indexed (index_with protocol)) (index_with protocol)
several Ether2 = refl
several (Ether type) = refl
several (Ip protocol) = refl
several (Tcp port) = refl
several (Udp port) = refl

-- the index of a protocol that can have a row has its number
of_row : (protocol : ProtocolIdentifier) → may_have_row protocol ≡ true → directory_number (index_with protocol) ≡ Some (number_of protocol)
of_row protocol may =
    several protocol ∙ ap (λ p. number_if p (index_with protocol)) (of_index protocol)
    ∙ rw (may, (bytes_eq-Decides (index_with protocol) (index_with protocol)).1 refl) refl

directory_back : (n : ℕ) → directory_number (directory_index n) ≡ Some n
directory_back n = elim (is_directory_row n) as (λ t. is_directory_row n ≡ t → directory_number (cond t (index_with (identified n)) (n ∷ [])) ≡ Some n) [
  | true ↦ λ e. let parts = both (nat_eq (number_of (identified n)) n) _ e in of_row (identified n) parts.1 ∙ ap Some (equal _ n parts.0)
  | false ↦ λ e. rw e refl
] refl

-- a row's number is that of its protocol
pub is_numbered : (n : ℕ) → is_directory_row n ≡ true → (number_of (identified n) ≡ n) × (may_have_row (identified n) ≡ true)
is_numbered n is = let parts = both (nat_eq (number_of (identified n)) n) _ is in (equal _ n parts.0, parts.1)

pub number_within : (protocol : ProtocolIdentifier) → may_have_row protocol ≡ true → (0 < number_of protocol) × (number_of protocol < 327680)
number_within Ether2 may = (omega arith, omega arith)
number_within (Ether type) may = let parts = both (nat_le 1536 type) (nat_le type 65535) may in (omega arith, grind (arith, nat_tests))
number_within (Ip protocol) may = (omega arith, grind (arith, nat_tests))
number_within (Tcp port) may = let parts = both (nat_le 1 port) (nat_le port 65535) may in (omega arith, grind (arith, nat_tests))
number_within (Udp port) may = let parts = both (nat_le 1 port) (nat_le port 65535) may in (omega arith, grind (arith, nat_tests))

directory_within : (n : ℕ) → is_directory_row n ≡ true → (0 < n) × (n < 2 ^ 32)
directory_within n is =
    let it = is_numbered n is in let bounds = number_within (identified n) it.1 in by_number (number_of (identified n)) it.0 bounds.0 bounds.1
  where
    by_number : (k : ℕ) → k ≡ n → 0 < k → k < 327680 → (0 < n) × (n < 2 ^ 32)
    by_number k same low high = (omega (arith, same, low), omega (arith, same, high))

-- two layers in the order of their numbers
layers_rise : (m n : ℕ) (above : List ℕ) → m < n → slice_cmp nat_cmp (layer m above) (layer n above) ≡ Less
layers_rise m n above below = by_parts (m / 256) (m % 256) (n / 256) (n % 256) (div-add-mod' m 256) (div-add-mod' n 256) (mod_below m 256 (omega arith)) (mod_below n 256 (omega arith))
  where
    by_parts : (q r p s : ℕ) → q * 256 + r ≡ m → p * 256 + s ≡ n → r < 256 → s < 256
        → ordering_then (nat_cmp q p) (ordering_then (nat_cmp r s) (slice_cmp nat_cmp above above)) ≡ Less
    by_parts q r p s of_m of_n low high =
        elim (nat_lt q p) as (λ t. nat_lt q p ≡ t → ordering_then (cond t Less (cond (nat_eq q p) Equal Greater)) (ordering_then (nat_cmp r s) (slice_cmp nat_cmp above above)) ≡ Less) [
          | true ↦ λ _. refl
          | false ↦ λ e.
              let not_less : p ≤ q = grind (arith, nat_tests) in
              let not_more : q ≤ p = omega (arith, below, of_m, of_n, low, high) in
              let same : nat_eq q p ≡ true = grind (arith, nat_tests) in
              let is : q ≡ p = omega (arith, not_less, not_more) in
              let under : r < s = omega (arith, below, of_m, of_n, is) in
              let less : nat_lt r s ≡ true = grind (arith, nat_tests) in
              rw (same, less) refl
        ] refl

numbers_rise : (one other : ProtocolIdentifier) → may_have_row one ≡ true → may_have_row other ≡ true → number_of one < number_of other → Below (index_with one) (index_with other)
numbers_rise Ether2 Ether2 a b below = absurd (omega (arith, below))
numbers_rise Ether2 (Ether n) a b below = refl
numbers_rise Ether2 (Ip n) a b below = refl
numbers_rise Ether2 (Tcp n) a b below = refl
numbers_rise Ether2 (Udp n) a b below = refl
numbers_rise (Ether m) Ether2 a b below = absurd (omega (arith, below))
numbers_rise (Ether m) (Ether n) a b below = layers_rise m n (2 ∷ 0 ∷ 0 ∷ []) (omega (arith, below))
numbers_rise (Ether m) (Ip n) a b below = refl
numbers_rise (Ether m) (Tcp n) a b below = refl
numbers_rise (Ether m) (Udp n) a b below = refl
numbers_rise (Ip m) Ether2 a b below = absurd (omega (arith, below))
numbers_rise (Ip m) (Ether n) a b below = absurd (let high = (number_within (Ether n) b).1 in let top = (both (nat_le 1536 n) (nat_le n 65535) b).1 in grind (arith, nat_tests))
numbers_rise (Ip m) (Ip n) a b below = let less : nat_lt m n ≡ true = grind (arith, nat_tests) in rw less refl
numbers_rise (Ip m) (Tcp n) a b below = refl
numbers_rise (Ip m) (Udp n) a b below = refl
numbers_rise (Tcp m) Ether2 a b below = absurd (omega (arith, below))
numbers_rise (Tcp m) (Ether n) a b below = absurd (let top = (both (nat_le 1536 n) (nat_le n 65535) b).1 in grind (arith, nat_tests))
numbers_rise (Tcp m) (Ip n) a b below = absurd (grind (arith, nat_tests))
numbers_rise (Tcp m) (Tcp n) a b below = layers_rise m n (4 ∷ 0 ∷ 0 ∷ 0 ∷ 0 ∷ []) (omega (arith, below))
numbers_rise (Tcp m) (Udp n) a b below = refl
numbers_rise (Udp m) Ether2 a b below = absurd (omega (arith, below))
numbers_rise (Udp m) (Ether n) a b below = absurd (let top = (both (nat_le 1536 n) (nat_le n 65535) b).1 in grind (arith, nat_tests))
numbers_rise (Udp m) (Ip n) a b below = absurd (grind (arith, nat_tests))
numbers_rise (Udp m) (Tcp n) a b below = absurd (let top = (both (nat_le 1 n) (nat_le n 65535) b).1 in grind (arith, nat_tests))
numbers_rise (Udp m) (Udp n) a b below = layers_rise m n (4 ∷ 0 ∷ 0 ∷ 0 ∷ 0 ∷ []) (omega (arith, below))

-- the index of a row is that of its protocol
index_is : (n : ℕ) → is_directory_row n ≡ true → directory_index n ≡ index_with (identified n)
index_is n is = rw is refl

directory_rises : (m n : ℕ) → is_directory_row m ≡ true → is_directory_row n ≡ true → m < n → Below (directory_index m) (directory_index n)
directory_rises m n first second below =
    let one = is_numbered m first in let other = is_numbered n second in
    subst (λ (l : List ℕ). Below (directory_index m) l) (sym (index_is n second))
    (subst (λ (l : List ℕ). Below l (index_with (identified n))) (sym (index_is m first))
    (numbers_rise (identified m) (identified n) one.1 other.1 (less (number_of (identified m)) (number_of (identified n)) one.0 other.0)))
  where
    less : (a b : ℕ) → a ≡ m → b ≡ n → a < b
    less a b e f = omega (arith, e, f, below)

fits_with : (protocol : ProtocolIdentifier) → length (index_with protocol) ≤ 22
fits_with Ether2 = omega arith
fits_with (Ether type) = omega arith
fits_with (Ip protocol) = omega arith
fits_with (Tcp port) = omega arith
fits_with (Udp port) = omega arith

shows_with : (protocol : ProtocolIdentifier) → get_or (index_with protocol) 0 0 < 2 ^ 31
shows_with Ether2 = omega arith
shows_with (Ether type) = omega arith
shows_with (Ip protocol) = omega arith
shows_with (Tcp port) = omega arith
shows_with (Udp port) = omega arith

pub by_directory : IsIndexing directory_indexing
by_directory = record {
  one_to_one = record { forth = directory_forth };
  back = directory_back;
  within = directory_within;
  rises = directory_rises;
  not_empty = refl;
  fits = λ n is. subst (λ (l : List ℕ). length l ≤ 22) (sym (index_is n is)) (fits_with (identified n));
  shows = λ n is. subst (λ (l : List ℕ). get_or l 0 0 < 2 ^ 31) (sym (index_is n is)) (shows_with (identified n));
}

-- the protocol of the index that a number has is that of the number
pub protocol_is : (n : ℕ) → protocol_of (directory_index n) ≡ row_protocol n
protocol_is n = elim (is_directory_row n) as (λ t. is_directory_row n ≡ t → protocol_of (cond t (index_with (identified n)) (n ∷ [])) ≡ cond t (Some (identified n)) None) [
  | true ↦ λ e. let it = is_numbered n e in by_protocol (identified n) it.1
  | false ↦ λ e. refl
] refl
  where
    by_protocol : (protocol : ProtocolIdentifier) → may_have_row protocol ≡ true → protocol_of (index_with protocol) ≡ Some protocol
    by_protocol protocol may = ap (λ p. cond (may_have_row p && bytes_eq (index_with p) (index_with protocol)) (Some p) None) (of_index protocol) ∙ rw (may, (bytes_eq-Decides (index_with protocol) (index_with protocol)).1 refl) refl
