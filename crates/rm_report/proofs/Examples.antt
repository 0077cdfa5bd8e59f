-- What hosts gained since a report began, and which are reported, by the definitions. The table has room for two hosts.
use Rattle.std.proofs.Common.{◌≡◌, ℕ, List, [], ◌∷◌, map, refl, Option, Some, None}
use Rattle.rm_model.specs.Counting.{Counting}
use Rattle.rm_model.specs.Journal.{assigns, Journal}
use Rattle.rm_model.proofs.ExampleSettings.{plain}
use Rattle.rm_proto.specs.Ethernet.{is_tagged, pair_of}
use Rattle.rm_sourced.proofs.ExampleFrames.{a, b, c, frame, set_status, begun}
use Rattle.rm_hosts.specs.Control.{control_entry}
use Rattle.rm_report.specs.declared.rate_base.RateBase.{RateBase}
use Rattle.rm_report.specs.declared.rate_base.RateBase.TheVariants.{InPkts, OutPkts, InOctets, OutOctets, OutErrors}
use Rattle.rm_report.specs.RateBase.{count_of}
use Rattle.rm_report.specs.Rates.{hosts_held, rate_of}
use Rattle.rm_report.specs.Ranks.{reported_at}

abbrev settings : Counting
settings = record plain { hosts = 2 }

-- Row 1 becomes valid at 2000. A report begins by a Set at 4000, before which a frame of the same moment passed, and another one.
abbrev before : Journal
before = begun control_entry

abbrev from : Journal
from = assigns 4000 [] ∷ frame 4000 a b ∷ frame 3000 a b ∷ before

-- the rate of a host in row 1, and the hosts at the first places of a report of so many, with their rates
abbrev rate : (from journal : Journal) → RateBase → List ℕ → ℕ
rate from journal base = rate_of settings from journal 1 (count_of base)

abbrev places : (from journal : Journal) → RateBase → (most : ℕ) → List (Option (List ℕ))
places from journal base most = map (reported_at (rate from journal base) (hosts_held settings journal 1) most) (0 ∷ 1 ∷ 2 ∷ 3 ∷ [])

-- two frames after the beginning, and one before the Set but at its moment, which doesn't count
abbrev two : Journal
two = frame 4000 a b ∷ frame 4000 a b ∷ from

two_rates : rate from two OutOctets a ∷ rate from two InPkts b ∷ rate from two OutErrors a ∷ [] ≡ 128 ∷ 2 ∷ 0 ∷ []
unfolding is_tagged pair_of
two_rates = refl

-- a host that gained nothing isn't reported
two_places : places from two OutPkts 10 ≡ None ∷ Some a ∷ None ∷ None ∷ []
unfolding is_tagged pair_of
two_places = refl

-- A gives way to C and enters anew: it counts from there on, and B, which stayed, since the beginning
abbrev anew : Journal
anew = frame 7000 a b ∷ frame 6000 c b ∷ frame 5000 a b ∷ from

anew_rates : rate from anew OutPkts a ∷ rate from anew InPkts b ∷ [] ≡ 1 ∷ 3 ∷ []
unfolding is_tagged pair_of
anew_rates = refl

-- of equal rates the lesser address stands first, and no more are reported than were granted
abbrev both : Journal
both = frame 6000 a b ∷ frame 5000 b a ∷ from

both_places : places from both InPkts 10 ≡ None ∷ Some a ∷ Some b ∷ None ∷ []
unfolding is_tagged pair_of
both_places = refl

both_first : places from both InPkts 1 ≡ None ∷ Some a ∷ None ∷ None ∷ []
unfolding is_tagged pair_of
both_first = refl

-- the greater rate stands first
abbrev more : Journal
more = frame 7000 a b ∷ both

more_places : places from more InOctets 10 ≡ None ∷ Some b ∷ Some a ∷ None ∷ []
unfolding is_tagged pair_of
more_places = refl

-- a row that was made valid anew after the beginning has only seen frames after that
abbrev again : Journal
again = frame 9000 a b ∷ set_status control_entry 8000 1 ∷ set_status control_entry 7500 3 ∷ more

again_rates : rate from again OutPkts a ∷ rate from again InPkts a ∷ rate from again InPkts b ∷ [] ≡ 1 ∷ 0 ∷ 1 ∷ []
unfolding is_tagged pair_of
again_rates = refl

-- and under creation it has none to report
gone : places from (set_status control_entry 7500 3 ∷ more) InPkts 10 ≡ None ∷ None ∷ None ∷ None ∷ []
unfolding is_tagged pair_of
gone = refl
