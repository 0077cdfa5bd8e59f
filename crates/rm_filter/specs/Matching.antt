-- The packets that a filter matches, by its columns as they are kept.
use Rattle.std.specs.Prelude.{◌≡◌, ℕ, List, [], ◌∷◌, drop, Bool, false, ◌&&◌, nat_eq, pos, Option, Some, None, unwrap_or}
use Rattle.rm_columns.specs.Values.{natural_of}
use Rattle.rm_acts.specs.Bits.{test_of, pass}
use Rattle.rm_match.specs.Tests.{status_bits}
use Rattle.rm_match.specs.declared.packet_test.PacketTest.{PacketTest}
use Rattle.rm_match.specs.declared.status_test.StatusTest.{StatusTest}
use Rattle.rm_model.specs.ControlRows.{is_valid}
use Rattle.rm_status.specs.declared.row.Row.{Row}
use Rattle.rm_status.specs.Rows.{row_in}
use Rattle.rm_filter.specs.declared.filter_row.FilterRow.{FilterRow}

-- what a filter wants of a packet's octets, and of its status
pub record IsPacketTest (filter : FilterRow) (test : PacketTest) : Type 0 where
  pub offset : test.offset ≡ natural_of filter.offset
  pub wanted : test.data.now ≡ filter.pkt_data.items
  pub mask : test.mask.now ≡ filter.mask.items
  pub not_mask : test.not_mask.now ≡ filter.not_mask.items

abbrev pub status_test : FilterRow → StatusTest
status_test filter = record { status = natural_of filter.status; mask = natural_of filter.status_mask; not_mask = natural_of filter.status_not_mask }

-- whether it matches a packet of that status
abbrev pub row_matches : FilterRow → (status : ℕ) → (octets : List ℕ) → Bool
row_matches filter status octets =
    pass (test_of filter.pkt_data.items filter.mask.items filter.not_mask.items) (drop (natural_of filter.offset) octets)
    && pass (status_bits (status_test filter) ∷ []) (status ∷ [])

-- the index of its channel, 0 until that was set
abbrev pub channel_kept : FilterRow → ℕ
channel_kept filter = natural_of (unwrap_or filter.channel (pos 0))

-- whether a filter is valid, is of a channel and matches a packet of that status, and whether the one with an index does
abbrev pub matches_for : Row FilterRow → (channel status : ℕ) → (octets : List ℕ) → Bool
matches_for row channel status octets = is_valid row.state && (nat_eq (channel_kept row.columns) channel && row_matches row.columns status octets)

abbrev pub matches_seen : Option (Row FilterRow) → (channel status : ℕ) → (octets : List ℕ) → Bool
matches_seen None channel status octets = false
matches_seen (Some row) channel status octets = matches_for row channel status octets

abbrev pub matches_at : List (Row FilterRow) → (channel status : ℕ) → (octets : List ℕ) → (index : ℕ) → Bool
matches_at rows channel status octets index = matches_seen (row_in rows index) channel status octets
