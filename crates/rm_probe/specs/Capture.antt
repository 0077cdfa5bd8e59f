-- The captures of a run, in order of interface: which files they are, and why they are none.
use Rattle.std.specs.Prelude.{◌≡◌, ◌⊎◌, ℕ, List, [], ◌∷◌, ◌++◌, map, Option, Some, None, ⊤}
use Rattle.std.specs.Borrow.{Bor}
use Rattle.rm_edge.specs.Outside.{Held, Untold, Absent, File}
use Rattle.rm_edge.specs.Uses.{FileUse, HasReadFault}
use Rattle.rm_pcap.specs.declared.fault.PcapFault.{PcapFault}
use Rattle.rm_pcap.specs.declared.fault.PcapFault.TheVariants.{Magic, Version, LinkType, Included, Original, Late, TooMany, Read, NoMemory as OutOfMemory}
use Rattle.rm_captures.specs.Told.{CallFor}
use Rattle.rm_captures.specs.declared.fault.CaptureFault.{CaptureFault}
use Rattle.rm_probe.specs.declared.status.Status.{Status}
use Rattle.rm_probe.specs.declared.status.Status.TheVariants.{BadCapture, ReadFault, NoMemory, TooLong}

-- how a run ends by a fault of the capture of an interface: at the offset that breaks a rule, or by one record too many
abbrev pub status_by : ℕ → PcapFault → Status
status_by interface Magic = BadCapture interface 0
status_by interface Version = BadCapture interface 4
status_by interface LinkType = BadCapture interface 20
status_by interface (Included at) = BadCapture interface at
status_by interface (Original at) = BadCapture interface at
status_by interface (Late at) = BadCapture interface at
status_by interface TooMany = TooLong
status_by interface Read = ReadFault
status_by interface OutOfMemory = NoMemory

-- how a run ends by a fault of one of its captures
abbrev pub status_of : CaptureFault → Status
status_of found = status_by found.interface found.fault

-- for the first fault of the captures, a run ends so
abbrev pub CallsFor : ℕ → Status → List Held → Type 0
CallsFor lead status helds = (found : CaptureFault) × (status ≡ status_of found) × CallFor lead helds found

-- what is held of these files
abbrev pub helds_of : List FileUse → List Held
helds_of files = map (λ (file : FileUse). file.held) files

-- of each of these names it is told what is held
unfoldable pub AreTold : List Held → Type 0
AreTold [] = ⊤
AreTold (Untold ∷ more) = ⊥
AreTold (Absent ∷ more) = AreTold more
AreTold (File bytes ∷ more) = AreTold more

-- a read of one of these files failed
unfoldable pub HasReadFaults : List FileUse → Type 0
HasReadFaults [] = ⊥
HasReadFaults (file ∷ more) = HasReadFault file ⊎ HasReadFaults more

-- a name, where there is one
abbrev pub given : Option (Bor (List ℕ)) → List (List ℕ)
given None = []
given (Some name) = name.now ∷ []

-- the names of the captures of a run, that of the first interface and those of the others that it has
abbrev pub names_of : List ℕ → Option (Bor (List ℕ)) → Option (Bor (List ℕ)) → Option (Bor (List ℕ)) → List (List ℕ)
names_of capture if2 if3 if4 = capture ∷ given if2 ++ given if3 ++ given if4

-- how many they are, where no interface has a capture behind one that has none
abbrev pub capture_count : Option (Bor (List ℕ)) → Option (Bor (List ℕ)) → Option (Bor (List ℕ)) → ℕ
capture_count None if3 if4 = 1
capture_count (Some second) None if4 = 2
capture_count (Some second) (Some third) None = 3
capture_count (Some second) (Some third) (Some fourth) = 4
