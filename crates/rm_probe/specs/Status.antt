-- The exit status of the program, and what it says on standard error.
use Rattle.std.specs.Prelude.{ℕ, List, ◌++◌, codes, decimal}
use Rattle.rm_probe.specs.declared.output.OutputFault.{OutputFault}
use Rattle.rm_probe.specs.declared.output.OutputFault.TheVariants.{Put, Send}
use Rattle.rm_probe.specs.declared.status.Status.{Status}
use Rattle.rm_probe.specs.declared.status.Status.TheVariants.{Done, Usage, BadCapture, BadRequests, ReadFault, WriteFault, NoMemory, LinkFault, TooLong}

abbrev pub number_of : Status → ℕ
number_of Done = 0
number_of Usage = 2
number_of (BadCapture interface at) = 3
number_of (BadRequests line) = 4
number_of ReadFault = 5
number_of WriteFault = 6
number_of NoMemory = 7
number_of LinkFault = 8
number_of TooLong = 9

-- how a put or a send that fails ends a run
abbrev pub status_for : OutputFault → Status
status_for Put = WriteFault
status_for Send = LinkFault

abbrev pub text_of : Status → List ℕ
text_of Done = codes "done"
text_of Usage = codes "usage"
text_of (BadCapture interface at) = codes "bad capture " ++ decimal interface ++ codes " at " ++ decimal at
text_of (BadRequests line) = codes "bad requests in line " ++ decimal line
text_of ReadFault = codes "read fault"
text_of WriteFault = codes "write fault"
text_of NoMemory = codes "no memory"
text_of LinkFault = codes "link fault"
text_of TooLong = codes "too long"
