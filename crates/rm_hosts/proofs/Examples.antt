-- What the hosts of a control row show, by the definitions.
use Rattle.std.proofs.Common.{◌≡◌, ℕ, List, [], ◌∷◌, ◌++◌, map, refl, Option, Some, None}
use Rattle.std.specs.Prelude.{pos}
use Rattle.rm_val.specs.Val.{Val, int, counter, octets, ticks}
use Rattle.rm_model.specs.Counting.{Counting}
use Rattle.rm_model.specs.Journal.{Journal}
use Rattle.rm_model.specs.Cells.{Cells}
use Rattle.rm_model.proofs.ExampleSettings.{plain}
use Rattle.rm_proto.specs.Ethernet.{is_tagged, pair_of, is_broadcast, is_group}
use Rattle.rm_sourced.specs.Collection.{source_cells}
use Rattle.rm_sourced.proofs.ExampleFrames.{a, b, c, sized, frame, set_status, begun}
use Rattle.rm_hosts.specs.Control.{control_entry, named_entry}
use Rattle.rm_hosts.specs.Host.{host_entry}
use Rattle.rm_hosts.specs.HostTime.{time_entry}
use Rattle.rm_hosts.specs.Shown.{by_address, by_rank}
use Rattle.rm_hosts.specs.Tables.{host_sourcing}

-- tables with room for two hosts
abbrev settings : Counting
settings = record plain { hosts = 2 }

-- the broadcast address
abbrev all : List ℕ
all = 255 ∷ 255 ∷ 255 ∷ 255 ∷ 255 ∷ 255 ∷ []

-- row 1 becomes valid
abbrev before : Journal
before = begun control_entry

-- A to B, C to B, and A to B again: A was evicted by C, and C by A
abbrev two : Journal
two = frame 4000 c b ∷ frame 3000 a b ∷ before

abbrev three : Journal
three = frame 5000 a b ∷ two

-- the cells of hostControl, host and hostTime, as the collection has them
abbrev cells : Journal → Cells
cells = source_cells named_entry host_sourcing by_address by_rank settings

-- what a column of row 1 of the control table shows, of a host by its address, and of one by its rank
abbrev control : Journal → (column : ℕ) → Option Val
control journal column = cells journal (control_entry ++ column ∷ 1 ∷ [])

abbrev host : Journal → List ℕ → (column : ℕ) → Option Val
host journal address column = cells journal (host_entry ++ column ∷ 1 ∷ 6 ∷ address)

abbrev ranked : Journal → (rank column : ℕ) → Option Val
ranked journal rank column = cells journal (time_entry ++ column ∷ 1 ∷ rank ∷ [])

-- its size and when a host last gave way; the order, InPkts and OutPkts of a host
abbrev size_and_deleted : Journal → List (Option Val)
size_and_deleted journal = control journal 3 ∷ control journal 4 ∷ []

abbrev order_in_out : Journal → List ℕ → List (Option Val)
order_in_out journal address = map (host journal address) (2 ∷ 4 ∷ 5 ∷ [])

-- before a frame the row holds no host
none_before : size_and_deleted before ≡ Some (int (pos 0)) ∷ Some (ticks 0) ∷ []
none_before = refl

-- B and C are held after two frames
two_deleted : size_and_deleted two ≡ Some (int (pos 2)) ∷ Some (ticks 400) ∷ []
unfolding is_tagged pair_of
two_deleted = refl

two_ranked : map (λ rank. ranked two rank 1) (1 ∷ 2 ∷ 3 ∷ []) ≡ Some (octets b) ∷ Some (octets c) ∷ None ∷ []
unfolding is_tagged pair_of
two_ranked = refl

-- B and A after three, and what A counted before it gave way is gone
three_deleted : size_and_deleted three ≡ Some (int (pos 2)) ∷ Some (ticks 500) ∷ []
unfolding is_tagged pair_of
three_deleted = refl

three_b : order_in_out three b ≡ Some (int (pos 1)) ∷ Some (counter 3) ∷ Some (counter 0) ∷ []
unfolding is_tagged pair_of
three_b = refl

three_a : order_in_out three a ≡ Some (int (pos 2)) ∷ Some (counter 0) ∷ Some (counter 1) ∷ []
unfolding is_tagged pair_of
three_a = refl

three_c : order_in_out three c ≡ None ∷ None ∷ None ∷ []
unfolding is_tagged pair_of
three_c = refl

-- one frame from a host to itself
abbrev alone : Journal
alone = frame 3000 a a ∷ before

alone_size : size_and_deleted alone ≡ Some (int (pos 1)) ∷ Some (ticks 0) ∷ []
unfolding is_tagged pair_of
alone_size = refl

alone_counts : order_in_out alone a ≡ Some (int (pos 1)) ∷ Some (counter 1) ∷ Some (counter 1) ∷ []
unfolding is_tagged pair_of
alone_counts = refl

-- A sends to the broadcast address: octets, errors, broadcast and multicast frames of A, and the octets in of the broadcast address
abbrev sent : Journal → List (Option Val)
sent journal = map (host journal a) (7 ∷ 8 ∷ 9 ∷ 10 ∷ [])

to_all : sent (frame 3000 a all ∷ before) ≡ Some (counter 64) ∷ Some (counter 0) ∷ Some (counter 1) ∷ Some (counter 0) ∷ []
unfolding is_tagged pair_of is_broadcast is_group
to_all = refl

all_held : host (frame 3000 a all ∷ before) all 6 ≡ Some (counter 64)
unfolding is_tagged pair_of
all_held = refl

-- a bad frame enters no host, and counts where its source is held
bad_alone : size_and_deleted (sized 2000 3000 a b ∷ before) ≡ Some (int (pos 0)) ∷ Some (ticks 0) ∷ []
unfolding is_tagged pair_of
bad_alone = refl

bad_after : sent (sized 2000 4000 a all ∷ alone) ≡ Some (counter 2068) ∷ Some (counter 1) ∷ Some (counter 0) ∷ Some (counter 0) ∷ []
unfolding is_tagged pair_of is_broadcast is_group
bad_after = refl

-- under creation the row holds none
ended : size_and_deleted (set_status control_entry 6000 3 ∷ three) ≡ Some (int (pos 0)) ∷ Some (ticks 0) ∷ []
unfolding is_tagged pair_of
ended = refl
