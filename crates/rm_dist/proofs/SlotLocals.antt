-- The local indexes of protocols in slots, after a journal.
use Rattle.std.proofs.Common.{◌≡◌, ℕ, ◌<◌, List, [], ◌∷◌, length, map, take, Option, Some, refl, ap, ◌∙◌}
use Rattle.std.specs.Option.{option_map_or}
use Rattle.rm_model.specs.Journal.{Journal}
use Rattle.rm_path.specs.declared.identifier.ProtocolIdentifier.{ProtocolIdentifier}
use Rattle.rm_path.specs.declared.protocol.Protocol.{Protocol}
use Rattle.rm_path.specs.Slots.{identifier_in}
use Rattle.rm_dir.specs.DirectoryIndex.{index_with}
use Rattle.rm_dir.specs.LocalIndexes.{local_index}
use Rattle.rm_dir.specs.Paths.{AreActiveAfter}
use Rattle.rm_dir.proofs.LocalLaws.{held_is}
use Rattle.rm_dist.specs.Slots.{local_in}

-- the local indexes of so many slots, of which there are 32 where some were looked at
pub record IsSoFar (slots : List (Option Protocol)) (path : List ℕ) (at : ℕ) (locals : List ℕ) : Type 0 where
  pub are : locals ≡ map (local_in slots) (take at path)
  pub count : 0 < length locals → length slots ≡ 32

module _ (journal : Journal) (slots : List (Option Protocol)) (are : AreActiveAfter journal slots) where
  local_is : (slot : ℕ) (identifier : ProtocolIdentifier) → identifier_in slots slot ≡ Some identifier → local_in slots slot ≡ local_index journal (index_with identifier)
  local_is slot identifier here =
      let it = held_is journal slots are slot identifier here in
      ap (λ (held : Option Protocol). option_map_or (λ protocol. protocol.local) held 0) it.1 ∙ it.3

  pub locals_are : (path : List ℕ) (protocols : List ProtocolIdentifier) → map (identifier_in slots) path ≡ map Some protocols → map (local_in slots) path ≡ map (λ protocol. local_index journal (index_with protocol)) protocols
  locals_are [] [] same = refl
  locals_are [] (identifier ∷ protocols) same = absurd (cc)
  locals_are (slot ∷ path) [] same = absurd (cc)
  locals_are (slot ∷ path) (identifier ∷ protocols) same =
      let first : identifier_in slots slot ≡ Some identifier = cc in
      let others : map (identifier_in slots) path ≡ map Some protocols = cc in
      ap (λ n. n ∷ map (local_in slots) path) (local_is slot identifier first) ∙ ap (λ more. local_index journal (index_with identifier) ∷ more) (locals_are path protocols others)
