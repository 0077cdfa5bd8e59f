-- The number of an index that isn't one number.
use Rattle.std.proofs.Common.{◌≡◌, ℕ, List, [], ◌∷◌, length, true, false, cond, ◌&&◌, Some, None, option_map, refl}
use Rattle.std.specs.Str.{bytes_eq}
use Rattle.rm_path.specs.Identifier.{number_of}
use Rattle.rm_dir.specs.DirectoryIndex.{directory_number, protocol_of, indexed, index_with, may_have_row}

pub of_several : (index : List ℕ) → (length index ≡ 1 → ⊥) → directory_number index ≡ option_map number_of (protocol_of index)
of_several [] more = refl
of_several (number ∷ []) more = absurd (more refl)
of_several (first ∷ second ∷ rest) more =
    elim (may_have_row (indexed (first ∷ second ∷ rest)) && bytes_eq (index_with (indexed (first ∷ second ∷ rest))) (first ∷ second ∷ rest))
    as (λ t. cond t (Some (number_of (indexed (first ∷ second ∷ rest)))) None ≡ option_map number_of (cond t (Some (indexed (first ∷ second ∷ rest))) None)) [ true ↦ refl | false ↦ refl ]
