-- What the calls on a capture tell of it and of its file.
use Rattle.std.specs.Prelude.{◌≡◌, ℕ, ◌+◌, List, drop, Option, Some, None, Result, Ok, Err, ◌⊎◌, ⊤}
use Rattle.rm_edge.specs.Outside.{Held, File}
use Rattle.rm_pcap.specs.declared.form.Form.{Form}
use Rattle.rm_pcap.specs.declared.start.Start.{Start}
use Rattle.rm_pcap.specs.declared.reach.Reach.{Reach}
use Rattle.rm_pcap.specs.declared.fault.PcapFault.{PcapFault}
use Rattle.rm_pcap.specs.declared.fault.PcapFault.TheVariants.{Magic, Version, LinkType, Included, Original, Late, TooMany, Read, NoMemory}
use Rattle.rm_pcap.specs.declared.frame.Step.{Step}
use Rattle.rm_pcap.specs.Header.{header_of}
use Rattle.rm_window.specs.Filling.{IsFront}
use Rattle.rm_pcap.specs.Records.{Broken, time_of}
use Rattle.rm_pcap.specs.Steps.{Found, Stops, IsThere, found_at}
use Rattle.rm_pcap.specs.First.{first_of}
use Rattle.rm_pcap.specs.Progress.{Progress, Agrees, HasRead, IsLawfulFind, IsUnseen, Shows, next_in, read_next, looking_at, passing, moment_found, reading}

-- What is found is lawful whatever the file is. It is what was found before if it was looked at, and the record that was read, if all of it was,
-- whatever the file has become. It is what stands next in the file of which the capture was read so far.
pub record Finds (held : Held) (old new : Progress) (found : Found) : Type 0 where
  pub lawful : IsLawfulFind old.reach found
  pub again : (was : Found) → old.ahead ≡ Some was → found ≡ was
  pub kept : old.ahead ≡ None → HasRead old → found ≡ read_next old
  pub stands : (bytes : List ℕ) → held ≡ File bytes → Agrees old bytes → found ≡ next_in old bytes
  pub agrees : (bytes : List ℕ) → held ≡ File bytes → Agrees old bytes → Agrees new bytes

-- a look finds it, and stays at the same place
pub record Looks (held : Held) (old new : Progress) (found : Found) : Type 0 where
  pub place : new ≡ looking_at old found new.read
  pub finds : Finds held old new found

-- it is found and passed
pub record Passes (held : Held) (old new : Progress) (found : Found) : Type 0 where
  pub place : new ≡ passing old found new.read
  pub finds : Finds held old new found

-- the moment that a look answers
abbrev pub LooksAt : Held → Progress → Progress → Option ℕ → Type 0
LooksAt held old new moment = (found : Found) × Looks held old new found × (moment ≡ moment_found found)

-- how far the capture is read after a step, or after a fault, by which nothing changes
abbrev pub Steps : Held → Progress → Progress → Result Step PcapFault → Type 0
Steps held old new (Ok step) = (found : Found) × Passes held old new found × Shows step found
Steps held old new (Err fault) = new ≡ old

-- the faults of a record behind a reach
abbrev pub IsFaultAt : Reach → PcapFault → Type 0
IsFaultAt reach (Included at) = at ≡ reach.at + 8
IsFaultAt reach (Original at) = at ≡ reach.at + 12
IsFaultAt reach (Late at) = at ≡ reach.at
IsFaultAt reach TooMany = reach.count ≡ 100000000
IsFaultAt reach fault = ⊥

-- the next record has that fault, in a file that has the octets that were read
pub record Breaks (held : Held) (form : Form) (start : Start) (reach : Reach) (read : List ℕ) (fault : PcapFault) : Type 0 where
  pub place : IsFaultAt reach fault
  pub stands : (bytes : List ℕ) → held ≡ File bytes → IsFront read (drop reach.at bytes) → found_at form start reach bytes ≡ Stops (Broken fault)

-- a look fails by a read or by the file
abbrev pub IsBroken : Held → Form → Start → Reach → List ℕ → PcapFault → Type 0
IsBroken held form start reach read fault = (fault ≡ Read) ⊎ Breaks held form start reach read fault

-- A look fails only where nothing was found yet. Where all of a record was read, it fails by that record alone.
pub record Fails (held : Held) (old : Progress) (fault : PcapFault) : Type 0 where
  pub unseen : old.ahead ≡ None
  pub cause : IsBroken held old.form old.start old.reach old.read fault
  pub kept : HasRead old → Stops (Broken fault) ≡ read_next old

-- the faults of the lengths of a first record, or a failed read
abbrev pub IsFirstRecordFault : PcapFault → Type 0
IsFirstRecordFault (Included at) = at ≡ 32
IsFirstRecordFault (Original at) = at ≡ 36
IsFirstRecordFault Read = ⊤
IsFirstRecordFault fault = ⊥

-- what a look at the first record answers of a file, but for a failed read
abbrev pub IsFirst : Form → Start → List ℕ → Result (Option ℕ) PcapFault → Type 0
IsFirst form start bytes (Err Read) = ⊤
IsFirst form start bytes result = first_of form start bytes ≡ result

-- A look at the first record found its time, of which all was read then, or that it isn't whole. The capture stays before it, and what it found
-- there so far is what the file has.
pub record LooksFirst (held : Held) (old new : Progress) (result : Result (Option ℕ) PcapFault) : Type 0 where
  pub place : new ≡ reading old new.ahead new.read
  pub unseen : IsUnseen new
  pub told : (time : ℕ) → result ≡ Ok (Some time) → IsThere old.form old.start old.reach new.read × (time_of old.form new.read ≡ time)
  pub stands : (bytes : List ℕ) → held ≡ File bytes → Agrees old bytes → IsFirst old.form old.start bytes result × Agrees new bytes

-- the faults of a file header
abbrev pub IsHeaderFault : PcapFault → Type 0
IsHeaderFault Magic = ⊤
IsHeaderFault Version = ⊤
IsHeaderFault LinkType = ⊤
IsHeaderFault fault = ⊥

-- the faults that a capture may begin with
abbrev pub IsFirstFault : PcapFault → Type 0
IsFirstFault Magic = ⊤
IsFirstFault Version = ⊤
IsFirstFault LinkType = ⊤
IsFirstFault Read = ⊤
IsFirstFault NoMemory = ⊤
IsFirstFault fault = ⊥

-- a capture of that form begins where the file's header has it, and the other faults are those of the header
abbrev pub BeginsAs : List ℕ → Result Form PcapFault → Type 0
BeginsAs bytes (Err Read) = ⊤
BeginsAs bytes (Err NoMemory) = ⊤
BeginsAs bytes result = header_of bytes ≡ result
