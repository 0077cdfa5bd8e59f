-- A sink in memory as its callers see it.
use Rattle.std.specs.Prelude.{ℕ, ◌+◌, min, List, length, take, ◌==◌, Option, unwrap_or, find}
use Rattle.std.specs.Option.{option_map}
use Rattle.rm_edge.specs.Outside.{one_more}
use Rattle.rm_edge.specs.declared.memory.sink.PlannedFault.{PlannedFault}

-- a sink, with the octets put, the room for more, and the puts that are to fail
pub record SinkState : Type 0 where
  pub bytes : List ℕ
  pub room : ℕ
  pub calls : ℕ
  pub planned : List PlannedFault
  pub faults : ℕ

-- how many octets the put with that number is to add, if it is to fail
abbrev pub keep_at : List PlannedFault → ℕ → Option ℕ
keep_at planned call = option_map (λ (p : PlannedFault). p.keep) (find (λ (p : PlannedFault). p.call == call) planned)

-- how many octets the next put is to add, if it is to fail
abbrev pub next_keep : SinkState → Option ℕ
next_keep sink = keep_at sink.planned (one_more sink.calls)

-- the front of a piece that the next put adds, if it fails
abbrev pub front_kept : SinkState → List ℕ → List ℕ
front_kept sink piece = take (min (unwrap_or (next_keep sink) (length piece)) sink.room) piece

-- how many octets the sink can hold, with those that it has
abbrev pub capacity : SinkState → ℕ
capacity sink = length sink.bytes + sink.room
