-- What a row shows of its report at a moment, in milliseconds.
use Rattle.std.specs.Prelude.{ℕ, ◌-◌, ◌/◌, ◌&&◌, nat_le, if◌then◌else◌, Option, None}
use Rattle.std.specs.Option.{option_map, option_map_or, option_and_then}
use Rattle.rm_model.specs.Counting.{Counting}
use Rattle.rm_model.specs.Journal.{Journal, last_moment}
use Rattle.rm_model.specs.ControlRows.{is_valid}
use Rattle.rm_report.specs.declared.ranked.Ranked.{Ranked}
use Rattle.rm_report.specs.Ranking.{with_rate}
use Rattle.rm_report.specs.Ranks.{reported_at}
use Rattle.rm_report.specs.RateBase.{count_of}
use Rattle.rm_report.specs.Rates.{hosts_held, rate_of}
use Rattle.rm_topn.specs.Control.{control_state, host_row, rate_base, seconds_set, size_granted}
use Rattle.rm_topn.specs.Starts.{before_moment, end_of, last_start}

module _ (journal : Journal) (row : ℕ) where
  -- for how many seconds the last report that began runs, and when it began, in hundredths of a second; 0 where none did
  abbrev pub duration : ℕ
  duration = option_map_or (λ from. seconds_set from row) (last_start row journal) 0

  abbrev pub start_time : ℕ
  start_time = option_map_or (λ from. last_moment from / 10) (last_start row journal) 0

  -- how many seconds of it are left; what was set last in a row that isn't valid
  abbrev pub time_remaining : (now : ℕ) → ℕ
  time_remaining now =
      if is_valid (control_state journal row)
      then option_map_or (λ from. seconds_set from row - (now - last_moment from) / 1000) (last_start row journal) 0
      else seconds_set journal row

-- A host of a report at a place, from 1, with its rate: by the acts before the end of the report, of the hosts that are held then.
abbrev pub ranked_in : Counting → (from ended : Journal) → (row place : ℕ) → Option Ranked
ranked_in settings from ended row place =
    let rate = rate_of settings from ended (host_row from row) (count_of (rate_base from row)) in
    option_map (λ address. with_rate (rate address) address) (reported_at rate (hosts_held settings ended (host_row from row)) (size_granted from row) place)

-- The host that a row shows at a place, if there is one: of its last report, once it has ended. One that runs for no second has none.
abbrev pub host_shown : Counting → Journal → (now : ℕ) → (row place : ℕ) → Option Ranked
host_shown settings journal now row place =
    option_and_then
    (λ from. if nat_le 1 (seconds_set from row) && nat_le (end_of row from) now
    then ranked_in settings from (before_moment (end_of row from) journal) row place
    else None)
    (last_start row journal)
