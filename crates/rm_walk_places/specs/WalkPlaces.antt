-- Where a walk goes on, of rows whose indexes have a mark, then numbers within bounds, and maybe one number more.
use Rattle.std.specs.Prelude.{ℕ, ◌<◌, ◌^◌, ◌↔◌, List, [], ◌∷◌, ◌++◌, Option, IfSome}
use Rattle.std.specs.Option.{option_map}
use Rattle.std.specs.Ordering.{nat_cmp}
use Rattle.std.specs.Cmp.Lexicographic.{slice_cmp}
use Rattle.rm_model.specs.Names.{Below}
use Rattle.rm_layers.specs.Marks.{IsAboveAt, IsAboveName, IsAboveApplication}
use Rattle.rm_walk_places.specs.declared.places.Bounds.{Bounds}
use Rattle.rm_walk_places.specs.declared.places.Reached.{Reached}
use Rattle.rm_walk_places.specs.declared.places.WalkPlace.{WalkPlace}
use Rattle.rm_walk_places.specs.Within.{AreWithin}

-- the numbers reached, and with them the protocol above which a walk goes on, if not from the first on
abbrev pub numbers_of : Reached → List ℕ
numbers_of reached = reached.numbers

abbrev pub pair_of : Reached → List ℕ × Option ℕ
pair_of reached = (reached.numbers, reached.protocol)

-- Rows have their indexes above some numbers exactly where their marks and the numbers behind are above a place. The same holds of rows with
-- one number more, by the local indexes that there are, which are below 2 ^ 32. The place itself is within the bounds.
pub record IsWalkPlace (bounds : List Bounds) (numbers : List ℕ) (place : WalkPlace) : Type 0 where
  pub within : IfSome place.reached (λ reached. AreWithin bounds reached.numbers)
  pub rows : (mark : ℕ) (index : List ℕ) → AreWithin bounds index
      → Below numbers (mark ∷ index) ↔ IsAboveAt place.mark (IsAboveName (slice_cmp nat_cmp) (option_map numbers_of place.reached)) (mark, index)
  pub above : (mark : ℕ) (index : List ℕ) (protocol : ℕ) → AreWithin bounds index → Below numbers (mark ∷ (index ++ protocol ∷ []))
      → IsAboveAt place.mark (IsAboveApplication (slice_cmp nat_cmp) (option_map pair_of place.reached)) (mark, (index, protocol))
  pub below : (mark : ℕ) (index : List ℕ) (protocol : ℕ) → AreWithin bounds index → protocol < 2 ^ 32
      → IsAboveAt place.mark (IsAboveApplication (slice_cmp nat_cmp) (option_map pair_of place.reached)) (mark, (index, protocol)) → Below numbers (mark ∷ (index ++ protocol ∷ []))
