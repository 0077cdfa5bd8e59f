-- What the hosts of a control row gained since a report began.
use Rattle.std.specs.Prelude.{ℕ, List, [], ◌∷◌, length, filter, flat_map, nat_le, sum_by, if◌then◌else◌}
use Rattle.std.specs.Str.{bytes_eq}
use Rattle.rm_model.specs.Counting.{Counting}
use Rattle.rm_model.specs.Journal.{Journal}
use Rattle.rm_model.specs.Interfaces.{is_interface}
use Rattle.rm_model.specs.ControlRows.{no_rows}
use Rattle.rm_acts.specs.Seen.{Seen, seen_since}
use Rattle.rm_evicting.specs.Held.{entry, gains, held_keys, since_entry}
use Rattle.rm_hosts.specs.declared.host_counts.HostCounts.{HostCounts}
use Rattle.rm_hosts.specs.Control.{host_control, control_set}
use Rattle.rm_hosts.specs.Mentions.{HostMention, mentioned, mentions_of}
use Rattle.rm_hosts.specs.Held.{addresses}

-- the shorter one of two lists
abbrev pub shorter : {X : Type 0} → List X → List X → List X
shorter one other = if nat_le (length one) (length other) then one else other

module _ (settings : Counting) (journal : Journal) (row : ℕ) where
  -- the hosts that the row holds
  abbrev pub hosts_held : List (List ℕ)
  hosts_held = held_keys bytes_eq settings.hosts (addresses settings journal row)

  -- the stamp of the reference by which a host entered
  abbrev pub entry_of : (address : List ℕ) → ℕ
  entry_of address = entry bytes_eq settings.hosts address (mentions_of settings journal row)

  -- the mentions from a host's entry on, the newest first
  abbrev pub mentions_from_entry : (address : List ℕ) → List HostMention
  mentions_from_entry address = since_entry bytes_eq settings.hosts address (mentions_of settings journal row)

-- Of the frames that a row has seen since it became valid, those that passed after an earlier journal.
abbrev pub seen_after : (from journal : Journal) → (row : ℕ) → List Seen
seen_after from journal row = filter (λ seen. nat_le (length from) (length seen.before)) (seen_since host_control no_rows journal (row ∷ []))

module _ (settings : Counting) (from journal : Journal) (row : ℕ) where
  -- the mentions of the row's hosts after the journal with which a report began, the newest first
  abbrev pub mentions_after : List HostMention
  mentions_after =
      flat_map (mentioned settings)
      (filter (λ seen. is_interface (control_set journal (row ∷ []) 2) seen.frame.interface) (seen_after from journal row))

  -- The mentions that count for a host: those after the beginning of the report, and from the host's entry on. Both are the newest of
  -- the row's mentions, so the mentions that are both are the fewer ones of these.
  abbrev pub mentions_counted : (address : List ℕ) → List HostMention
  mentions_counted address = shorter (mentions_from_entry settings journal row address) mentions_after

  -- the rate of a host: the sum of what these add to a count of it
  abbrev pub rate_of : (HostCounts → ℕ) → (address : List ℕ) → ℕ
  rate_of count address = sum_by count (gains bytes_eq address (mentions_counted address))
