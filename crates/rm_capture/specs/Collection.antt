-- What the valid rows of bufferControlTable collect: each keeps packets that its channel accepts, which captureBufferTable shows.
use Rattle.std.specs.Prelude.{ℕ, ◌≤◌, List, [], ◌∷◌, length, Option}
use Rattle.std.proofs.Props.{props}
use Rattle.rm_val.specs.Val.{Val}
use Rattle.rm_val.specs.declared.error.ErrorStatus.{ErrorStatus}
use Rattle.rm_model.specs.Cells.{cells_of, is_of_column}
use Rattle.rm_group.specs.Alone.{read_only}
use Rattle.rm_group.specs.Listed.{ListedTable}
use Rattle.rm_acts.specs.Buffers.{buffer_entry}
use Rattle.rm_acts.specs.Shown.{buffers_shown}
use Rattle.rm_collect.specs.Collection.{Collection}
use Rattle.rm_collect.specs.declared.sampled_tables.SampledTables.TheVariants.{ControlTable}
use Rattle.rm_filter.specs.declared.accepted.Accepted.{Accepted}
use Rattle.rm_capture.specs.declared.buffer.Buffer.{Buffer}
use Rattle.rm_capture.specs.declared.buffer_row.BufferRow.{BufferRow}
use Rattle.rm_capture.specs.BufferRows.{buffer_columns}
use Rattle.rm_capture.specs.InRange.{IsInRange}
use Rattle.rm_capture.specs.PacketTable.{packet_entry, packet_columns, packet_listed, buffer_cells}
use Rattle.rm_capture.specs.BufferShown.{kept_other, packets_shown}
use Rattle.rm_capture.specs.Taking.{IsBuffer, AreJudged, Takes}

pub in_range_prop : (row : BufferRow) → IsProp (IsInRange row)
in_range_prop row = hlevel props

-- the tables
abbrev pub buffer_tables : List ListedTable
buffer_tables = record { entry = buffer_entry; columns = buffer_columns } ∷ packet_listed ∷ []

-- what is wrong with a binding alone in captureBufferTable, of which no column is writable
abbrev pub packets_alone : List ℕ → Val → Option ErrorStatus
packets_alone = read_only (is_of_column packet_entry packet_columns)

-- Rows share nothing. Alarms may sample bufferControlTable alone.
unfoldable pub buffer_collection : Collection BufferRow Buffer (Unit {0}) Accepted
buffer_collection = record {
  suits = λ shared settings journal. Unit {0};
  in_range = IsInRange;
  in_range_prop = in_range_prop;
  fits = λ last frames buffer. buffer.captured.accepted ≤ frames;
  is_of = IsBuffer;
  has_begun = λ settings act earlier. IsBuffer settings (act ∷ earlier);
  judges = AreJudged;
  within = λ seen. length seen.octets ≤ 262144;
  takes = λ judged seen before. Takes judged seen;
  others = λ rows. kept_other;
  inner = λ rows buffers now. cells_of (packets_shown rows buffers);
  cells = λ settings journal now. buffer_cells settings journal;
  sampled_tables = ControlTable;
  sampleable = λ settings journal now. cells_of (buffers_shown settings journal);
  tables = buffer_tables;
  inner_alone = packets_alone;
}
