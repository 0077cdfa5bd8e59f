-- The protocols above ip on a path, by their slots and by the journal.
use Rattle.std.proofs.Common.{◌≡◌, ℕ, zero, suc, ◌+◌, ◌<◌, ◌≤◌, List, [], ◌∷◌, ◌++◌, length, map, filter, take, cond, nat_eq, ◌||◌, Option, Some, None, refl, sym, ap, ◌∙◌, arith, inl, inr}
use Rattle.std.specs.Prelude.{slice_index}
use Rattle.std.specs.List.{list_any}
use Rattle.std.proofs.lemmas.Bool.{cases_Bool}
use Rattle.std.proofs.lemmas.Bool.Decides.{nat_tests}
use Rattle.rm_model.specs.Journal.{Journal}
use Rattle.rm_path.specs.declared.identifier.ProtocolIdentifier.{ProtocolIdentifier}
use Rattle.rm_path.specs.declared.protocol.Protocol.{Protocol}
use Rattle.rm_path.specs.Identifier.{is_above_ip}
use Rattle.rm_path.specs.Slots.{protocol_in, identifier_in}
use Rattle.rm_dir.specs.DirectoryIndex.{index_with}
use Rattle.rm_dir.specs.LocalIndexes.{local_index}
use Rattle.rm_dir.specs.Paths.{AreActiveAfter}
use Rattle.rm_dir.proofs.LocalLaws.{held_is}
use Rattle.rm_upper.specs.Kept.{is_among}
use Rattle.rm_layer_slots.specs.On.{with_local}
use Rattle.rm_layer_tables.specs.Paths.{local_above, locals_in}

abbrev pub one_local : Option ℕ → List ℕ
one_local local = with_local local []

pub none : (locals : List ℕ) → locals ++ one_local None ≡ locals
none [] = refl
none (local ∷ locals) = ap (λ more. local ∷ more) (none locals)

module _ (slots : List (Option Protocol)) where
  few_more : (local : Option ℕ) (locals : List ℕ) → length (with_local local locals) ≤ suc (length locals)
  few_more None locals = omega arith
  few_more (Some n) locals = omega arith

  -- no more than there are slots
  pub few : (path : List ℕ) → length (locals_in slots path) ≤ length path
  few [] = omega arith
  few (slot ∷ path) =
      let rest : length (locals_in slots path) ≤ length path = few path in
      let more : length (with_local (local_above (protocol_in slots slot)) (locals_in slots path)) ≤ suc (length (locals_in slots path)) = few_more (local_above (protocol_in slots slot)) (locals_in slots path) in
      omega arith

  before : (local : Option ℕ) (some more : List ℕ) → with_local local (some ++ more) ≡ with_local local some ++ more
  before None some more = refl
  before (Some n) some more = refl

  -- one slot more
  one_more : (i : ℕ) (path : List ℕ) → i < length path → locals_in slots (take (suc i) path) ≡ locals_in slots (take i path) ++ one_local (local_above (protocol_in slots (slice_index path i)))
  one_more i [] lt = absurd (omega arith)
  one_more zero (slot ∷ path) lt = refl
  one_more (suc i) (slot ∷ path) lt =
      ap (with_local (local_above (protocol_in slots slot))) (one_more i path (omega arith))
      ∙ before (local_above (protocol_in slots slot)) (locals_in slots (take i path)) (one_local (local_above (protocol_in slots (slice_index path i))))

  pub more : (i : ℕ) (path : List ℕ) (local : Option ℕ) → i < length path → local ≡ local_above (protocol_in slots (slice_index path i)) → locals_in slots (take (i + 1) path) ≡ locals_in slots (take i path) ++ one_local local
  more i path local lt is =
      ap (λ n. locals_in slots (take n path)) (let one : i + 1 ≡ suc i = omega arith in one) ∙ one_more i path lt ∙ ap (λ o. locals_in slots (take i path) ++ one_local o) (sym is)

module _ (journal : Journal) (slots : List (Option Protocol)) (are : AreActiveAfter journal slots) where
  abbrev local_of : ProtocolIdentifier → ℕ
  local_of protocol = local_index journal (index_with protocol)

  abbrev above : ProtocolIdentifier → Option ℕ
  above identifier = cond (is_above_ip identifier) (Some (local_of identifier)) None

  local_is : (slot : ℕ) (identifier : ProtocolIdentifier) → identifier_in slots slot ≡ Some identifier → local_above (protocol_in slots slot) ≡ above identifier
  local_is slot identifier here =
      let it = held_is journal slots are slot identifier here in
      ap local_above it.1 ∙ (λ d. cond (is_above_ip (it.2 d)) (Some (it.3 d)) None)

  filtered : (identifier : ProtocolIdentifier) (protocols : List ProtocolIdentifier) → with_local (above identifier) (map local_of (filter is_above_ip protocols)) ≡ map local_of (filter is_above_ip (identifier ∷ protocols))
  filtered identifier protocols = elim (cases_Bool (is_above_ip identifier)) [ inl e ↦ rw e refl | inr e ↦ rw e refl ]

  pub locals_are : (path : List ℕ) (protocols : List ProtocolIdentifier) → map (identifier_in slots) path ≡ map Some protocols → locals_in slots path ≡ map local_of (filter is_above_ip protocols)
  locals_are [] [] same = refl
  locals_are [] (identifier ∷ protocols) same = absurd (cc)
  locals_are (slot ∷ path) [] same = absurd (cc)
  locals_are (slot ∷ path) (identifier ∷ protocols) same =
      let first : identifier_in slots slot ≡ Some identifier = cc in
      let others : map (identifier_in slots) path ≡ map Some protocols = cc in
      ap (λ o. with_local o (locals_in slots path)) (local_is slot identifier first)
      ∙ ap (with_local (above identifier)) (locals_are path protocols others)
      ∙ filtered identifier protocols

-- a protocol is on a path of a contribution exactly where it is among those of the path
pub on_path : (path : List ℕ) (protocol : ℕ) → is_among path protocol ≡ list_any (nat_eq protocol) path
on_path [] protocol = refl
on_path (other ∷ path) protocol = ap (λ b. b || is_among path protocol) (round other protocol) ∙ ap (λ b. nat_eq protocol other || b) (on_path path protocol)
  where
    round : (m n : ℕ) → nat_eq m n ≡ nat_eq n m
    round m n = grind (arith, nat_tests)
