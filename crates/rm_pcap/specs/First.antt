-- What a capture has first: the time of its first record, or the fault of that record's lengths.
use Rattle.std.specs.Prelude.{ℕ, ◌+◌, nat_lt, if◌then◌else◌, List, length, drop, Option, Some, None, Result, Ok, Err}
use Rattle.rm_pcap.specs.declared.form.Form.{Form}
use Rattle.rm_pcap.specs.declared.start.Start.{Start}
use Rattle.rm_pcap.specs.declared.fault.PcapFault.{PcapFault}
use Rattle.rm_pcap.specs.Records.{time_of, included_of}
use Rattle.rm_pcap.specs.Steps.{beginning, fault_at}

-- what octets that are left have first, by the fault of the header at their front: the time of a record in nanoseconds, where it is whole
abbrev pub first_with : Form → List ℕ → Option PcapFault → Result (Option ℕ) PcapFault
first_with form octets (Some fault) = Err fault
first_with form octets None = if nat_lt (length octets) (16 + included_of form octets) then Ok None else Ok (Some (time_of form octets))

abbrev pub first_in : Form → Start → List ℕ → Result (Option ℕ) PcapFault
first_in form start octets = if nat_lt (length octets) 16 then Ok None else first_with form octets (fault_at form start (beginning start) octets)

-- What a file of these octets has first: the time of its first record in nanoseconds, where that is whole; nothing, where it isn't or there is
-- none; or the fault of its lengths.
unfoldable pub first_of : Form → Start → List ℕ → Result (Option ℕ) PcapFault
first_of form start bytes = first_in form start (drop 24 bytes)
