-- What a call finds of the outside, and what it leaves: of a file, of a sink, of a socket and of a clock.
use Rattle.std.specs.Prelude.{◌≡◌, ℕ, List, Option}
use Rattle.rm_edge.specs.Outside.{Held, Rose}
use Rattle.rm_edge.specs.Link.{Datagram}

-- a file: what is held under its name, and how often reads of it have failed, before and after
pub record FileUse : Type 0 where
  pub held : Held
  pub faults : ℕ
  pub faults_after : ℕ

-- a sink: its octets, and how often puts have failed, before and after
pub record SinkUse : Type 0 where
  pub content : Option (List ℕ)
  pub faults : ℕ
  pub content_after : Option (List ℕ)
  pub faults_after : ℕ

-- the file of that name on a shelf, by what shelves hold and count
abbrev pub file_use : {F : Type 0} → (F → List ℕ → Held) → (F → List ℕ → ℕ) → F → F → List ℕ → FileUse
file_use held faults old new name = record { held = held old name; faults = faults old name; faults_after = faults new name }

-- a sink, by what sinks hold and count
abbrev pub sink_use : {K : Type 0} → (K → Option (List ℕ)) → (K → ℕ) → K → K → SinkUse
sink_use content faults old new = record { content = content old; faults = faults old; content_after = content new; faults_after = faults new }

-- a read of the file failed
abbrev pub HasReadFault : FileUse → Type 0
HasReadFault file = Rose file.faults file.faults_after

-- a put failed
abbrev pub HasPutFault : SinkUse → Type 0
HasPutFault out = Rose out.faults out.faults_after

-- nothing was put
abbrev pub IsUntouched : SinkUse → Type 0
IsUntouched out = out.content_after ≡ out.content

-- a socket: the ports bound, the datagrams received and sent, and how often calls have failed, before and after
pub record LinkUse : Type 0 where
  pub bound : Option (List ℕ)
  pub received : Option (List Datagram)
  pub sent : Option (List Datagram)
  pub faults : ℕ
  pub bound_after : Option (List ℕ)
  pub received_after : Option (List Datagram)
  pub sent_after : Option (List Datagram)
  pub faults_after : ℕ

-- a clock: the moments told, before and after
pub record ClockUse : Type 0 where
  pub told : Option (List ℕ)
  pub told_after : Option (List ℕ)

-- a socket, by what links tell and count
abbrev pub link_use : {L : Type 0} → (L → Option (List ℕ)) → (L → Option (List Datagram)) → (L → Option (List Datagram)) → (L → ℕ) → L → L → LinkUse
link_use bound received sent faults old new = record {
  bound = bound old;
  received = received old;
  sent = sent old;
  faults = faults old;
  bound_after = bound new;
  received_after = received new;
  sent_after = sent new;
  faults_after = faults new;
}

-- a clock, by what clocks tell
abbrev pub clock_use : {T : Type 0} → (T → Option (List ℕ)) → T → T → ClockUse
clock_use told old new = record { told = told old; told_after = told new }

-- a call on the socket failed
abbrev pub HasLinkFault : LinkUse → Type 0
HasLinkFault link = Rose link.faults link.faults_after
