-- The frames of several captures in one order: that of their moments, at one moment by interface, each capture in its own order.
use Rattle.std.specs.Prelude.{◌≡◌, ◌<◌, ◌≤◌, ℕ, Bool, nat_le, nat_lt, nat_eq, List, [], ◌∷◌, ◌++◌, length, drop, filter, take_while, slice_index_or}
use Rattle.std.specs.List.{prefix_len}
use Rattle.std.specs.List.Sorted.{IsNonDecreasingBy}
use Rattle.rm_model.specs.Journal.{Frame}

-- a frame stands at a moment or before it
abbrev pub is_by : ℕ → Frame → Bool
is_by moment frame = nat_le frame.moment moment

-- the frames after those up to a moment
abbrev pub frames_after : ℕ → List Frame → List Frame
frames_after moment frames = drop (prefix_len (is_by moment) frames) frames

-- Two lists of frames in one, each in its own order: before each frame of the second come those of the first up to its moment.
unfoldable pub merge : List Frame → List Frame → List Frame
merge first [] = first
merge first (frame ∷ more) = take_while (is_by frame.moment) first ++ frame ∷ merge (frames_after frame.moment first) more

-- Frames of several interfaces are in order: moments don't fall, and at one moment interfaces don't.
pub record AreInOrder (frames : List Frame) : Type 0 where
  pub moments : IsNonDecreasingBy (λ (frame : Frame). frame.moment) frames
  pub interfaces : (before after : ℕ) (any : Frame) → before < after → after < length frames
      → (slice_index_or frames before any).moment ≡ (slice_index_or frames after any).moment → (slice_index_or frames before any).interface ≤ (slice_index_or frames after any).interface

-- all of them are of one interface
abbrev pub AreOf : ℕ → List Frame → Type 0
AreOf number frames = (index : ℕ) (any : Frame) → index < length frames → (slice_index_or frames index any).interface ≡ number

-- all of them are of interfaces with higher numbers
abbrev pub AreAbove : ℕ → List Frame → Type 0
AreAbove number frames = (index : ℕ) (any : Frame) → index < length frames → number < (slice_index_or frames index any).interface

-- The frames of an interface and those of others with higher numbers are all there, each kind in its own order, and they are in order together.
pub record AreMerged (number : ℕ) (first others all : List Frame) : Type 0 where
  pub own : filter (λ (frame : Frame). nat_eq frame.interface number) all ≡ first
  pub rest : filter (λ (frame : Frame). nat_lt number frame.interface) all ≡ others
  pub order : AreInOrder all
