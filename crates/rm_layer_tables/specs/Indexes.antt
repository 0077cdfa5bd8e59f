-- The indexes of rows of the network and application layer, behind the number of a control row (RFC 2021, section 6): a mark, the local index of
-- ip, the numbers of a key, and for an application row the local index of its protocol.
use Rattle.std.specs.Prelude.{◌≡◌, ℕ, List, [], ◌∷◌, ◌++◌, length, take, drop, Bool, true, ◌&&◌, nat_eq, nat_lt, is_some, if◌then◌else◌, Option, Some, None}
use Rattle.std.specs.List.{list_all}
use Rattle.std.specs.Option.{option_map}
use Rattle.std.specs.Ordering.{nat_cmp}
use Rattle.std.specs.declared.cmp.Ordering.{Ordering}
use Rattle.std.specs.Cmp.Lexicographic.{slice_cmp}
use Rattle.rm_path.specs.declared.identifier.ProtocolIdentifier.TheVariants.{Ether}
use Rattle.rm_dir.specs.BuiltIn.{built_in_local}
use Rattle.rm_walk_places.specs.declared.places.Bounds.{Bounds}
use Rattle.rm_walk_places.specs.Within.{AreWithin}

-- the local index of ip, whose row in the directory is there from the beginning
abbrev pub ip_local : ℕ
ip_local = built_in_local (Ether 0x0800)

-- whether these are the four octets of an address
abbrev pub is_address : List ℕ → Bool
is_address numbers = nat_eq (length numbers) 4 && list_all (λ number. nat_lt number 256) numbers

-- an address as a text: the number of its octets, 4, and then these (RFC 1902, section 7.7)
abbrev pub address_numbers : List ℕ → List ℕ
address_numbers address = 4 ∷ address

-- the address that numbers are
abbrev pub address_of : List ℕ → Option (List ℕ)
address_of [] = None
address_of (count ∷ address) = if nat_eq count 4 && is_address address then Some address else None

-- the local index of ip is just that
abbrev pub ip_bounds : Bounds
ip_bounds = record { least = ip_local; greatest = ip_local }

-- how the keys of rows stand in indexes: how many numbers each has, which these are, and the key that numbers are. And between which numbers
-- each of them lies
pub record KeyForm (K : Type 0) : Type 0 where
  pub count : ℕ
  pub numbers : K → List ℕ
  pub key_of : List ℕ → Option K
  pub bounds : List Bounds

module _ {K : Type 0} (form : KeyForm K) where
  abbrev pub with_mark : (mark : ℕ) → Option K → Option (ℕ × K)
  with_mark mark key = option_map (λ one. (mark, one)) key

  -- the mark and the key that numbers name
  abbrev pub network_place : List ℕ → Option (ℕ × K)
  network_place (mark ∷ protocol ∷ numbers) = if nat_eq protocol ip_local then with_mark mark (form.key_of numbers) else None
  network_place numbers = None

  abbrev pub with_protocol : (mark : ℕ) → Option K → List ℕ → Option (ℕ × (K × ℕ))
  with_protocol mark (Some key) (protocol ∷ []) = Some (mark, (key, protocol))
  with_protocol mark key numbers = None

  -- and the mark, the key and the local index of the protocol
  abbrev pub application_place : List ℕ → Option (ℕ × (K × ℕ))
  application_place (mark ∷ protocol ∷ numbers) =
      if nat_eq protocol ip_local then with_protocol mark (form.key_of (take form.count numbers)) (drop form.count numbers) else None
  application_place numbers = None

  -- the index of a key at a mark, and that of a protocol of it
  abbrev pub network_index : (mark : ℕ) → K → List ℕ
  network_index mark key = mark ∷ ip_local ∷ form.numbers key

  abbrev pub application_index : (mark : ℕ) → K × ℕ → List ℕ
  application_index mark x = mark ∷ ip_local ∷ (form.numbers x.0 ++ x.1 ∷ [])

  -- numbers are those of one key at most, and lie within the bounds exactly where they are those of one. Keys are in order of their numbers
  pub record IsForm (cmp : K → K → Ordering) : Type 0 where
    pub exact : (numbers : List ℕ) (key : K) → form.key_of numbers ≡ Some key → numbers ≡ form.numbers key
    pub long : (numbers : List ℕ) (key : K) → form.key_of numbers ≡ Some key → length numbers ≡ form.count
    pub within : (numbers : List ℕ) (key : K) → form.key_of numbers ≡ Some key → AreWithin form.bounds numbers
    pub fitting : (numbers : List ℕ) → AreWithin form.bounds numbers → is_some (form.key_of numbers) ≡ true
    pub ordered : (one other : K) (numbers more : List ℕ) → form.key_of numbers ≡ Some one → form.key_of more ≡ Some other
        → cmp one other ≡ slice_cmp nat_cmp numbers more
