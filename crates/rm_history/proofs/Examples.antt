-- What the history of a row shows, by the definitions.
use Rattle.std.proofs.Common.{◌≡◌, ℕ, List, [], ◌∷◌, ◌++◌, map, refl, Option, Some, None}
use Rattle.std.specs.Prelude.{pos}
use Rattle.rm_val.specs.Val.{Val, int, counter, ticks}
use Rattle.rm_model.specs.Journal.{Act, Assignment, passes, assigns, Journal}
use Rattle.rm_model.specs.Cells.{cells_of}
use Rattle.rm_model.proofs.ExampleSettings.{plain}
use Rattle.rm_ether.specs.Columns.{counter_numbered}
use Rattle.rm_history.specs.Buckets.{utilization}
use Rattle.rm_history.specs.HistoryControl.{control_entry, control_table}
use Rattle.rm_history.specs.EtherHistory.{sample_entry, sample_table}

-- a column of row 1 that is set to a number
abbrev set : ℕ → ℕ → Assignment
set column n = record { name = control_entry ++ column ∷ 1 ∷ []; value = int (pos n) }

-- a frame of 60 octets, without the check sequence
abbrev frame : ℕ → Act
frame moment = passes (record { interface = 1; moment = moment; number = 1; octets = []; original = 60 })

-- Row 1 is made at 1100, gets an interval of 10 seconds and 2 buckets at 1500, and becomes valid at 2000. A frame passes a
-- millisecond before the end of the first bucket, and one at it.
abbrev before : Journal
before = assigns 2000 (set 7 1 ∷ []) ∷ assigns 1500 (set 3 2 ∷ set 5 10 ∷ []) ∷ assigns 1100 (set 7 2 ∷ []) ∷ []

abbrev journal : Journal
journal = frame 12000 ∷ frame 11999 ∷ before

-- what a bucket of row 1 shows in some columns at a moment, and how many packets its buckets 1 to 3 do
abbrev shown : Journal → (now column bucket : ℕ) → Option Val
shown j now column bucket = cells_of (sample_table plain j now) (sample_entry ++ column ∷ 1 ∷ bucket ∷ [])

abbrev bucket_shown : Journal → (now bucket : ℕ) → List ℕ → List (Option Val)
bucket_shown j now bucket columns = map (λ column. shown j now column bucket) columns

abbrev packets : Journal → (now : ℕ) → List (Option Val)
packets j now = map (λ bucket. shown j now 6 bucket) (1 ∷ 2 ∷ 3 ∷ [])

-- what row 1 of the control table shows in some columns
abbrev control : Journal → List ℕ → List (Option Val)
control j columns = map (λ column. cells_of (control_table j) (control_entry ++ column ∷ 1 ∷ [])) columns

-- start, octets, packets and utilization of the first bucket
first_bucket : bucket_shown journal 12000 1 (3 ∷ 5 ∷ 6 ∷ 15 ∷ []) ≡ Some (ticks 200) ∷ Some (counter 64) ∷ Some (counter 1) ∷ Some (int (pos 0)) ∷ []
unfolding counter_numbered
first_bucket = refl

-- the first bucket is complete at 12000
none_complete : packets journal 11999 ≡ None ∷ None ∷ None ∷ []
none_complete = refl

first_complete : packets journal 12000 ≡ Some (counter 1) ∷ None ∷ None ∷ []
unfolding counter_numbered
first_complete = refl

-- at 31999 the first two are shown, and a millisecond later the second and the third
two_complete : packets journal 31999 ≡ Some (counter 1) ∷ Some (counter 1) ∷ None ∷ []
unfolding counter_numbered
two_complete = refl

first_gone : packets journal 32000 ≡ None ∷ Some (counter 1) ∷ Some (counter 0) ∷ []
unfolding counter_numbered
first_gone = refl

-- the control row: two buckets are granted, and it is valid
granted_two : control journal (4 ∷ 7 ∷ []) ≡ Some (int (pos 2)) ∷ Some (int (pos 1)) ∷ []
granted_two = refl

-- a new row shows the defaults, nothing is granted to it, and it is under creation
abbrev made : Journal
made = assigns 1100 (set 7 2 ∷ []) ∷ []

just_made : control made (3 ∷ 4 ∷ 5 ∷ 7 ∷ []) ≡ Some (int (pos 50)) ∷ Some (int (pos 0)) ∷ Some (int (pos 1800)) ∷ Some (int (pos 3)) ∷ []
just_made = refl

-- 65535 buckets are more than are granted
granted_most : control (assigns 1200 (set 7 1 ∷ []) ∷ assigns 1150 (set 3 65535 ∷ []) ∷ made) (4 ∷ []) ≡ Some (int (pos 1024)) ∷ []
granted_most = refl

-- a row that is valid again, and not anew, keeps its history; under creation it has none
kept_on : packets (assigns 12500 (set 7 1 ∷ []) ∷ journal) 13000 ≡ Some (counter 1) ∷ None ∷ None ∷ []
unfolding counter_numbered
kept_on = refl

ended : packets (assigns 12500 (set 7 3 ∷ []) ∷ journal) 13000 ≡ None ∷ None ∷ None ∷ []
ended = refl

-- the utilization is at most 100 percent, and rounded down
over : utilization 1000 1264000 1 ≡ 10000
over = refl

rounded : utilization 1 1518 10 ≡ 1
rounded = refl
