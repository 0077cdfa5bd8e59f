-- What row 1 shows after some frames, by the definitions.
use Rattle.std.proofs.Common.{◌≡◌, ℕ, ◌+◌, List, [], ◌∷◌, map, refl, true, Option, Some, None}
use Rattle.std.specs.Prelude.{pos, codes}
use Rattle.rm_val.specs.Val.{Val, int, octets, name, counter}
use Rattle.rm_proto.specs.Ethernet.{is_tagged}
use Rattle.rm_model.specs.Counting.{Counting}
use Rattle.rm_model.specs.Journal.{Act, passes, assigns, Journal}
use Rattle.rm_model.specs.Cells.{cells_of}
use Rattle.rm_model.proofs.ExampleSettings.{plain}
use Rattle.rm_ether.specs.declared.counter.Counter.{Counter}
use Rattle.rm_ether.specs.declared.counter.Counter.TheVariants.{Octets, Pkts, UndersizePkts, OversizePkts, Pkts64Octets, Pkts1024to1518Octets}
use Rattle.rm_ether.specs.EtherStats.{ether_table, counter_sum}
use Rattle.rm_ether.specs.Columns.{counter_numbered}

-- short frames count as they were captured
abbrev kept : Counting
kept = record plain { keep_short = true }

-- a frame with so many octets on the wire, without the check sequence
abbrev frame : ℕ → ℕ → Act
frame interface original = passes (record { interface = interface; moment = 1000; number = 1; octets = []; original = original })

-- frames of 42, 1514, 1515 and 4294967292 octets on interface 1, and one of 60 on interface 2
abbrev journal : Journal
journal = frame 1 42 ∷ frame 2 60 ∷ frame 1 1514 ∷ frame 1 1515 ∷ frame 1 4294967292 ∷ []

-- what row 1 counts in some counters
abbrev sums : Counting → List Counter → List ℕ
sums settings counters = map (counter_sum settings journal (1 ∷ [])) counters

-- a variable of etherStats, and what some columns of a row show after a journal
abbrev variable : (column row : ℕ) → List ℕ
variable column row = 1 ∷ 3 ∷ 6 ∷ 1 ∷ 2 ∷ 1 ∷ 16 ∷ 1 ∷ 1 ∷ 1 ∷ column ∷ row ∷ []

abbrev shown : Journal → (row : ℕ) → List ℕ → List (Option Val)
shown after row columns = map (λ column. cells_of (ether_table plain after) (variable column row)) columns

-- where frames are padded to 60 octets
counts_plain : sums plain (Pkts ∷ Octets ∷ UndersizePkts ∷ OversizePkts ∷ Pkts64Octets ∷ Pkts1024to1518Octets ∷ []) ≡ 4 ∷ (64 + 1518 + 1519 + 4294967296) ∷ 0 ∷ 2 ∷ 1 ∷ 1 ∷ []
unfolding is_tagged
counts_plain = refl

-- where they are taken as they are
counts_kept : sums kept (Octets ∷ UndersizePkts ∷ Pkts64Octets ∷ []) ≡ (46 + 1518 + 1519 + 4294967296) ∷ 1 ∷ 0 ∷ []
unfolding is_tagged
counts_kept = refl

-- row 2 isn't there
no_octets_elsewhere : counter_sum plain journal (2 ∷ []) Octets ≡ 0
no_octets_elsewhere = refl

no_second_row : shown journal 2 (20 ∷ []) ≡ None ∷ []
no_second_row = refl

-- etherStatsDataSource.1, etherStatsOctets.1, whose sum is above 2 ^ 32, etherStatsOwner.1 and etherStatsStatus.1
row_shown : shown journal 1 (2 ∷ 4 ∷ 20 ∷ 21 ∷ [])
    ≡ Some (name (1 ∷ 3 ∷ 6 ∷ 1 ∷ 2 ∷ 1 ∷ 2 ∷ 2 ∷ 1 ∷ 1 ∷ 1 ∷ [])) ∷ Some (counter 3101) ∷ Some (octets (codes "monitor")) ∷ Some (int (pos 1)) ∷ []
unfolding counter_numbered
row_shown = refl

-- Row 2 is made, set up and made valid, and counts from then on. Row 1 counts all frames.

abbrev status_2 : ℕ → Act
status_2 n = assigns 1000 ((record { name = variable 21 2; value = int (pos n) }) ∷ [])

abbrev owner_2 : Act
owner_2 = assigns 1000 ((record { name = variable 20 2; value = octets (codes "ops") }) ∷ [])

abbrev two_rows : Journal
two_rows = frame 1 60 ∷ owner_2 ∷ frame 1 60 ∷ status_2 1 ∷ status_2 1 ∷ frame 1 60 ∷ status_2 2 ∷ frame 1 60 ∷ []

-- the packets of row 2 after some acts
abbrev packets_of_2 : Journal → ℕ
packets_of_2 after = counter_sum plain after (2 ∷ []) Pkts

counts_of_2 : map packets_of_2 (two_rows ∷ (frame 1 60 ∷ status_2 3 ∷ two_rows) ∷ (frame 1 60 ∷ status_2 1 ∷ frame 1 60 ∷ status_2 3 ∷ two_rows) ∷ []) ≡ 2 ∷ 0 ∷ 1 ∷ []
counts_of_2 = refl

packets_of_1 : counter_sum plain two_rows (1 ∷ []) Pkts ≡ 4
packets_of_1 = refl

owner_of_2 : shown two_rows 2 (20 ∷ []) ≡ Some (octets (codes "ops")) ∷ []
owner_of_2 = refl

under_creation : shown (status_2 3 ∷ two_rows) 2 (21 ∷ []) ≡ Some (int (pos 3)) ∷ []
under_creation = refl

removed : shown (status_2 4 ∷ two_rows) 2 (21 ∷ []) ≡ None ∷ []
removed = refl

-- With two interfaces there are two rows of the monitor from before the first act, and each counts the frames of its interface.

abbrev two : Counting
two = record plain { interfaces = 2 }

packets_of_interface_2 : counter_sum two journal (2 ∷ []) Pkts ≡ 1
packets_of_interface_2 = refl

octets_of_interface_1 : counter_sum two journal (1 ∷ []) Octets ≡ 64 + 1518 + 1519 + 4294967296
octets_of_interface_1 = refl

source_of_2 : cells_of (ether_table two []) (1 ∷ 3 ∷ 6 ∷ 1 ∷ 2 ∷ 1 ∷ 16 ∷ 1 ∷ 1 ∷ 1 ∷ 2 ∷ 2 ∷ []) ≡ Some (name (1 ∷ 3 ∷ 6 ∷ 1 ∷ 2 ∷ 1 ∷ 2 ∷ 2 ∷ 1 ∷ 1 ∷ 2 ∷ []))
source_of_2 = refl

no_row_3 : cells_of (ether_table two []) (1 ∷ 3 ∷ 6 ∷ 1 ∷ 2 ∷ 1 ∷ 16 ∷ 1 ∷ 1 ∷ 1 ∷ 20 ∷ 3 ∷ []) ≡ None
no_row_3 = refl
