-- What the pairs of a control row show, by the definitions.
use Rattle.std.proofs.Common.{◌≡◌, ℕ, List, [], ◌∷◌, ◌++◌, map, refl, Option, Some, None}
use Rattle.std.specs.Prelude.{pos}
use Rattle.rm_val.specs.Val.{Val, int, counter, octets, ticks}
use Rattle.rm_model.specs.Counting.{Counting}
use Rattle.rm_model.specs.Journal.{Journal}
use Rattle.rm_model.specs.Cells.{Cells}
use Rattle.rm_model.proofs.ExampleSettings.{plain}
use Rattle.rm_proto.specs.Ethernet.{is_tagged, pair_of}
use Rattle.rm_sourced.specs.Collection.{source_cells}
use Rattle.rm_sourced.proofs.ExampleFrames.{a, b, c, sized, frame, set_status, begun}
use Rattle.rm_matrix.specs.Control.{control_entry, named_entry}
use Rattle.rm_matrix.specs.SourceDestination.{source_entry}
use Rattle.rm_matrix.specs.DestinationSource.{destination_entry}
use Rattle.rm_matrix.specs.Shown.{sources, destinations}
use Rattle.rm_matrix.specs.Tables.{pair_sourcing}

-- tables with room for two pairs
abbrev settings : Counting
settings = record plain { pairs = 2 }

-- row 1 becomes valid
abbrev before : Journal
before = begun control_entry

-- A to B, B to A, and A to C, by which A to B gives way
abbrev two : Journal
two = frame 4000 b a ∷ frame 3000 a b ∷ before

abbrev three : Journal
three = frame 5000 a c ∷ two

-- the cells of matrixControl, matrixSD and matrixDS, as the collection has them
abbrev cells : Journal → Cells
cells = source_cells named_entry pair_sourcing sources destinations settings

-- what a column of row 1 of the control table shows, and of a pair, by its source and by its destination
abbrev control : Journal → (column : ℕ) → Option Val
control journal column = cells journal (control_entry ++ column ∷ 1 ∷ [])

abbrev by_source : Journal → (source dest : List ℕ) (column : ℕ) → Option Val
by_source journal source dest column = cells journal (source_entry ++ column ∷ 1 ∷ (6 ∷ source) ++ (6 ∷ dest))

abbrev by_destination : Journal → (source dest : List ℕ) (column : ℕ) → Option Val
by_destination journal source dest column = cells journal (destination_entry ++ column ∷ 1 ∷ (6 ∷ dest) ++ (6 ∷ source))

-- its size and when a pair last gave way; the addresses, the row and the counts of a pair
abbrev size_and_deleted : Journal → List (Option Val)
size_and_deleted journal = control journal 3 ∷ control journal 4 ∷ []

abbrev all_of : ((column : ℕ) → Option Val) → List (Option Val)
all_of shown = map shown (1 ∷ 2 ∷ 3 ∷ 4 ∷ 5 ∷ 6 ∷ [])

abbrev counts_of : ((column : ℕ) → Option Val) → List (Option Val)
counts_of shown = map shown (4 ∷ 5 ∷ 6 ∷ [])

-- before a frame the row holds no pair
none_before : size_and_deleted before ≡ Some (int (pos 0)) ∷ Some (ticks 0) ∷ []
none_before = refl

-- the pairs of either direction are two, and both tables show them
two_held : size_and_deleted two ≡ Some (int (pos 2)) ∷ Some (ticks 0) ∷ []
unfolding is_tagged pair_of
two_held = refl

two_forth : all_of (by_source two a b) ≡ Some (octets a) ∷ Some (octets b) ∷ Some (int (pos 1)) ∷ Some (counter 1) ∷ Some (counter 64) ∷ Some (counter 0) ∷ []
unfolding is_tagged pair_of
two_forth = refl

two_reverse : all_of (by_destination two a b) ≡ Some (octets a) ∷ Some (octets b) ∷ Some (int (pos 1)) ∷ Some (counter 1) ∷ Some (counter 64) ∷ Some (counter 0) ∷ []
unfolding is_tagged pair_of
two_reverse = refl

-- B to A and A to C are held after three frames
three_deleted : size_and_deleted three ≡ Some (int (pos 2)) ∷ Some (ticks 500) ∷ []
unfolding is_tagged pair_of
three_deleted = refl

three_sources : map (λ (pair : List ℕ × List ℕ). by_source three pair.0 pair.1 4) ((a, b) ∷ (a, c) ∷ (b, a) ∷ []) ≡ None ∷ Some (counter 1) ∷ Some (counter 1) ∷ []
unfolding is_tagged pair_of
three_sources = refl

three_destinations : map (λ (pair : List ℕ × List ℕ). by_destination three pair.0 pair.1 4) ((a, b) ∷ (a, c) ∷ (b, a) ∷ []) ≡ None ∷ Some (counter 1) ∷ Some (counter 1) ∷ []
unfolding is_tagged pair_of
three_destinations = refl

-- a pair that comes back counts from 0, and what was referred to least recently gives way: B to A
abbrev again : Journal
again = frame 6000 a b ∷ three

again_forth : counts_of (by_source again a b) ≡ Some (counter 1) ∷ Some (counter 64) ∷ Some (counter 0) ∷ []
unfolding is_tagged pair_of
again_forth = refl

again_back : by_source again b a 4 ≡ None
unfolding is_tagged pair_of
again_back = refl

-- a pair that is referred to twice counts both, and another gives way then
abbrev twice : Journal
twice = frame 5000 a c ∷ frame 4500 a b ∷ two

twice_forth : counts_of (by_destination twice a b) ≡ Some (counter 2) ∷ Some (counter 128) ∷ Some (counter 0) ∷ []
unfolding is_tagged pair_of
twice_forth = refl

twice_back : by_destination twice b a 4 ≡ None
unfolding is_tagged pair_of
twice_back = refl

-- a bad frame enters no pair, counts where its pair is held, and doesn't renew it
bad_alone : size_and_deleted (sized 2000 3000 a b ∷ before) ≡ Some (int (pos 0)) ∷ Some (ticks 0) ∷ []
unfolding is_tagged pair_of
bad_alone = refl

bad_after : counts_of (by_source (sized 2000 4500 a b ∷ two) a b) ≡ Some (counter 2) ∷ Some (counter 2068) ∷ Some (counter 1) ∷ []
unfolding is_tagged pair_of
bad_after = refl

bad_gone : by_source (frame 5000 a c ∷ sized 2000 4500 a b ∷ two) a b 4 ≡ None
unfolding is_tagged pair_of
bad_gone = refl

-- one frame from a host to itself
alone : counts_of (by_destination (frame 3000 a a ∷ before) a a) ≡ Some (counter 1) ∷ Some (counter 64) ∷ Some (counter 0) ∷ []
unfolding is_tagged pair_of
alone = refl

-- under creation the row holds none
ended : size_and_deleted (set_status control_entry 6000 3 ∷ three) ≡ Some (int (pos 0)) ∷ Some (ticks 0) ∷ []
unfolding is_tagged pair_of
ended = refl
