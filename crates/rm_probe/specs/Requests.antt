-- The request file of a run: how a run ends by a fault of it, and what judging it answers.
use Rattle.std.specs.Prelude.{Result, Ok, Err, ⊤}
use Rattle.rm_edge.specs.Outside.{Held, OfFile}
use Rattle.rm_requests.specs.Lines.{HasTooManyLines, IsRequestFile, IsWrongAt}
use Rattle.rm_requests.specs.declared.fault.RequestsFault.{RequestsFault}
use Rattle.rm_requests.specs.declared.fault.RequestsFault.TheVariants.{Line, TooLong as TooManyLines, Read}
use Rattle.rm_probe.specs.declared.status.Status.{Status}
use Rattle.rm_probe.specs.declared.status.Status.TheVariants.{BadRequests, ReadFault, TooLong}

-- how a run ends by a fault of its request file
abbrev pub status_by : RequestsFault → Status
status_by (Line line) = BadRequests line
status_by TooManyLines = TooLong
status_by Read = ReadFault

-- what judging a request file answers
abbrev pub JudgesRequests : {T : Type 0} → Held → Result T RequestsFault → Type 0
JudgesRequests held (Ok done) = OfFile held IsRequestFile
JudgesRequests held (Err (Line line)) = OfFile held (IsWrongAt line)
JudgesRequests held (Err TooManyLines) = OfFile held HasTooManyLines
JudgesRequests held (Err Read) = ⊤
