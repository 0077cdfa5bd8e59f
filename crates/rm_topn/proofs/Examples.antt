-- What hostTopNControl and hostTopN show, by the definitions. The table of hosts has room for three.
use Rattle.std.proofs.Common.{◌≡◌, ℕ, List, [], ◌∷◌, ◌++◌, map, refl, Option, Some, None}
use Rattle.std.specs.Prelude.{pos}
use Rattle.rm_val.specs.Val.{Val, int, octets, ticks}
use Rattle.rm_model.specs.Counting.{Counting}
use Rattle.rm_model.specs.Journal.{Assignment, assigns, Journal}
use Rattle.rm_model.proofs.ExampleSettings.{plain}
use Rattle.rm_proto.specs.Ethernet.{is_tagged, pair_of}
use Rattle.rm_sourced.proofs.ExampleFrames.{a, b, sized, set_status, begun}
use Rattle.rm_hosts.specs.Control.{control_entry as hosts_entry}
use Rattle.rm_topn.specs.Control.{control_entry}
use Rattle.rm_topn.specs.HostTop.{report_entry, top_cells}

abbrev settings : Counting
settings = record plain { hosts = 3 }

-- a column of row 1 of hostTopNControl that is set to a number
abbrev set : ℕ → ℕ → Assignment
set column n = record { name = control_entry ++ column ∷ 1 ∷ []; value = int (pos n) }

-- The hosts are collected from 2000 on. At 4000 row 1 becomes valid, with the octets that hosts send (4), for 10 seconds.
abbrev before : Journal
before = begun hosts_entry

abbrev made : Journal
made = assigns 3500 (set 10 2 ∷ set 2 1 ∷ set 3 4 ∷ set 4 10 ∷ []) ∷ before

abbrev began : Journal
began = assigns 4000 (set 10 1 ∷ []) ∷ sized 100 4000 b a ∷ made

-- a question and an answer, and a frame at the moment of the end
abbrev ran : Journal
ran = sized 60 14000 a b ∷ sized 86 6000 b a ∷ sized 70 5000 a b ∷ began

-- what columns of row 1 show at a moment, and a column of the first places of its report
abbrev control : Journal → (now : ℕ) → List ℕ → List (Option Val)
control journal now columns = map (λ column. top_cells settings journal now (control_entry ++ column ∷ 1 ∷ [])) columns

abbrev report : Journal → (now column : ℕ) → List (Option Val)
report journal now column = map (λ place. top_cells settings journal now (report_entry ++ column ∷ 1 ∷ place ∷ [])) (1 ∷ 2 ∷ 3 ∷ [])

-- Under creation TimeRemaining is what was set, and what comes of a report is 0.
made_shows : control made 3500 (4 ∷ 5 ∷ 7 ∷ 8 ∷ []) ≡ Some (int (pos 10)) ∷ Some (int (pos 0)) ∷ Some (int (pos 0)) ∷ Some (ticks 0) ∷ []
made_shows = refl

-- While the report runs TimeRemaining counts down, and no host is shown.
runs_shows : control began 13999 (4 ∷ 5 ∷ 7 ∷ 8 ∷ []) ≡ Some (int (pos 1)) ∷ Some (int (pos 10)) ∷ Some (int (pos 10)) ∷ Some (ticks 400) ∷ []
runs_shows = refl

runs_without : report ran 13999 3 ≡ None ∷ None ∷ None ∷ []
unfolding is_tagged pair_of
runs_without = refl

-- At its end the greater rate stands first. The frames before the Set and at the end don't count.
ends_addresses : report ran 14000 3 ≡ Some (octets b) ∷ Some (octets a) ∷ None ∷ []
unfolding is_tagged pair_of
ends_addresses = refl

ends_rates : report ran 14000 4 ≡ Some (int (pos 90)) ∷ Some (int (pos 74)) ∷ None ∷ []
unfolding is_tagged pair_of
ends_rates = refl

ends_time : control ran 20000 (4 ∷ 5 ∷ 8 ∷ []) ≡ Some (int (pos 0)) ∷ Some (int (pos 10)) ∷ Some (ticks 400) ∷ []
ends_time = refl

-- The hosts that are shown stay when their row of hostControl isn't valid any more, and there are none where it wasn't at the end.
stays : report (set_status hosts_entry 15000 3 ∷ ran) 16000 4 ≡ Some (int (pos 90)) ∷ Some (int (pos 74)) ∷ None ∷ []
unfolding is_tagged pair_of
stays = refl

idle : report (set_status hosts_entry 13000 3 ∷ began) 16000 4 ≡ None ∷ None ∷ None ∷ []
unfolding is_tagged pair_of
idle = refl

-- TimeRemaining set anew begins a report of so many seconds, and the hosts that were shown go.
abbrev anew : Journal
anew = sized 60 17000 a b ∷ assigns 16005 (set 4 2 ∷ []) ∷ ran

anew_shows : control anew 17500 (4 ∷ 5 ∷ 8 ∷ []) ≡ Some (int (pos 1)) ∷ Some (int (pos 2)) ∷ Some (ticks 1600) ∷ []
anew_shows = refl

anew_without : report anew 18004 4 ≡ None ∷ None ∷ None ∷ []
unfolding is_tagged pair_of
anew_without = refl

anew_ends : report anew 18005 4 ≡ Some (int (pos 64)) ∷ None ∷ None ∷ []
unfolding is_tagged pair_of
anew_ends = refl

-- TimeRemaining set to 0 begins one without hosts.
abbrev none : Journal
none = assigns 19000 (set 4 0 ∷ []) ∷ ran

none_shows : control none 30000 (4 ∷ 5 ∷ 8 ∷ []) ≡ Some (int (pos 0)) ∷ Some (int (pos 0)) ∷ Some (ticks 1900) ∷ []
none_shows = refl

none_without : report none 30000 4 ≡ None ∷ None ∷ None ∷ []
unfolding is_tagged pair_of
none_without = refl

-- A row that becomes valid while TimeRemaining is 0 begins none.
abbrev idles : Journal
idles = assigns 20000 (set 10 1 ∷ []) ∷ assigns 19500 (set 10 3 ∷ []) ∷ none

idles_shows : control idles 30000 (4 ∷ 5 ∷ 8 ∷ []) ≡ Some (int (pos 0)) ∷ Some (int (pos 0)) ∷ Some (ticks 0) ∷ []
idles_shows = refl

-- One that becomes valid once more begins one of as many seconds as were set.
abbrev twice : Journal
twice = assigns 20000 (set 10 1 ∷ []) ∷ assigns 19000 (set 10 3 ∷ []) ∷ ran

twice_shows : control twice 21000 (4 ∷ 5 ∷ 8 ∷ []) ≡ Some (int (pos 9)) ∷ Some (int (pos 10)) ∷ Some (ticks 2000) ∷ []
twice_shows = refl
