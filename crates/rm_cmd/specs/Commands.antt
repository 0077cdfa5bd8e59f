-- What commands ask for.
use Rattle.std.specs.Prelude.{◌≡◌, ◌⊎◌, ℕ, Bool, List, map, Option, Result, Ok, Err, false, ⊤}
use Rattle.hex.specs.Hex.{decode_of}
use Rattle.rm_edge.specs.Outside.{Adds, AddsFront, Rose}
use Rattle.rm_pdu.specs.Parse.{Parse, IsParse}
use Rattle.rm_decode.specs.Text.{text_of}
use Rattle.rm_settings.specs.declared.settings.Settings.{Settings}
use Rattle.rm_captures.specs.Reading.{IsOneOf}
use Rattle.rm_probe.specs.Capture.{status_by}
use Rattle.rm_probe.specs.Ends.{Ends, IsComplete, IsExact}
use Rattle.rm_probe.specs.Serving.{Serves, ServesExactly, local_port}
use Rattle.rm_edge.specs.Uses.{FileUse, SinkUse, LinkUse, ClockUse}
use Rattle.rm_probe.specs.declared.status.Status.{Status}
use Rattle.rm_probe.specs.declared.status.Status.TheVariants.{Done, WriteFault, NoMemory}
use Rattle.rm_summary.specs.Ends.{Ends as Sums, IsExact as SumsExactly}
use Rattle.rm_summary.specs.declared.entry.SummaryFault.{SummaryFault}
use Rattle.rm_summary.specs.declared.entry.SummaryFault.TheVariants.{Capture, Put}
use Rattle.rm_load.specs.Ends.{Ends as LoadEnds}
use Rattle.rm_load.specs.declared.entry.LoadFault.{LoadFault}
use Rattle.rm_load.specs.declared.entry.LoadFault.TheVariants as load_fault
use Rattle.rm_words.specs.Grammar.{Options, Command, replay, serve, summary, decode, load, StandFor}

-- the words stand for `replay`, and this is a fact of its operands and options
abbrev pub OfReplay : List (List ℕ) → (List (List ℕ) → List ℕ → Options → Type 0) → Type 0
OfReplay words P = (captures : List (List ℕ)) (requests : List ℕ) (options : Options) → StandFor words (replay captures requests options) → P captures requests options

-- the words stand for `serve`, and this is a fact of its operands and options
abbrev pub OfServe : List (List ℕ) → (List (List ℕ) → ℕ → ℕ → ℕ → Options → Type 0) → Type 0
OfServe words P = (captures : List (List ℕ)) (port count trap_port : ℕ) (options : Options) → StandFor words (serve captures port count trap_port options)
    → P captures port count trap_port options

-- the words stand for `summary`, and this is a fact of its operand, and of the moment of the first frame and whether short frames are kept
abbrev pub OfSummary : List (List ℕ) → (List ℕ → ℕ → Bool → Type 0) → Type 0
OfSummary words P = (capture : List ℕ) (lead : ℕ) (keep_short : Bool) → StandFor words (summary capture lead keep_short) → P capture lead keep_short

-- the words stand for `decode`, and this is a fact of the octets that its digits are
abbrev pub OfDecode : List (List ℕ) → (List ℕ → Type 0) → Type 0
OfDecode words P = (hex : List ℕ) → StandFor words (decode hex) → (octets : List ℕ) × (decode_of hex ≡ Ok octets) × P octets

-- the words stand for `load`, and this is a fact of its operands and options
abbrev pub OfLoad : List (List ℕ) → (ℕ → ℕ → Options → Type 0) → Type 0
OfLoad words P = (start count : ℕ) (options : Options) → StandFor words (load start count options) → P start count options

-- the command reads the file of that name
abbrev pub Reads : Command → List ℕ → Type 0
Reads (replay captures requests options) name = IsOneOf captures name ⊎ (name ≡ requests)
Reads (serve captures port count trap_port options) name = IsOneOf captures name
Reads (summary capture lead keep_short) name = name ≡ capture
Reads (decode hex) name = ⊥
Reads (load start count options) name = ⊥

-- the words stand for a command that reads it
abbrev pub IsFileOf : List (List ℕ) → List ℕ → Type 0
IsFileOf words name = (command : Command) × StandFor words command × Reads command name

-- the command binds a port
abbrev pub HasPort : Command → Type 0
HasPort (serve captures port count trap_port options) = ⊤
HasPort command = ⊥

-- the words stand for a command that binds one
abbrev pub HavePort : List (List ℕ) → Type 0
HavePort words = (command : Command) × StandFor words command × HasPort command

-- the link and the clock tell what they told before, and no call on the link failed
pub record AreUnused (link : LinkUse) (clock : ClockUse) : Type 0 where
  pub bound : link.bound_after ≡ link.bound
  pub received : link.received_after ≡ link.received
  pub sent : link.sent_after ≡ link.sent
  pub faults : link.faults_after ≡ link.faults
  pub told : clock.told_after ≡ clock.told

-- the probe is set to what the options say
pub record AreSet (settings : Settings) (options : Options) : Type 0 where
  pub hosts : settings.hosts ≡ options.hosts
  pub pairs : settings.pairs ≡ options.pairs
  pub upper : settings.upper ≡ options.upper
  pub keep_short : settings.keep_short ≡ options.keep_short
  pub interfaces : settings.interfaces ≡ options.interfaces
  pub read : settings.read.items ≡ options.read
  pub write : settings.write.items ≡ options.write

-- how `replay` ends with these options: as a run of a probe that is set to them
pub record EndsWith (options : Options) (captures : List FileUse) (requests : FileUse) (out : SinkUse) (result : Status) : Type 0 where
  pub settings : Settings
  pub set : AreSet settings options
  pub ends : Ends settings options.lead captures requests out result

-- how `serve` ends with these options: as a run of a probe that is set to them, whose notifications go to the trap port of this machine
pub record ServesWith (options : Options) (port count trap_port : ℕ) (captures : List FileUse) (out : SinkUse) (link : LinkUse) (clock : ClockUse) (result : Status) : Type 0 where
  pub settings : Settings
  pub set : AreSet settings options
  pub serves : Serves settings options.lead port count (local_port trap_port) captures out link clock result

-- how a run ends by the answer of a summary, whose capture is that of interface 1
abbrev pub status_of_summary : {T : Type 0} → Result T SummaryFault → Status
status_of_summary (Ok done) = Done
status_of_summary (Err (Capture fault)) = status_by 1 fault
status_of_summary (Err Put) = WriteFault

-- How `summary` ends: by the answer of the summary of that capture, which is exact.
pub record Summarizes (lead : ℕ) (keep_short : Bool) (capture : FileUse) (out : SinkUse) (result : Status) : Type 0 where
  pub answer : Result (Unit {0}) SummaryFault
  pub result_is : result ≡ status_of_summary answer
  pub sums : Sums lead keep_short capture out answer
  pub exact : SumsExactly lead keep_short capture out answer

-- How `decode` ends: with the text of what the octets are, or with a front of it where a put failed. The counts are those of failed
-- puts.
abbrev pub Decodes : List ℕ → ℕ → ℕ → Option (List ℕ) → Option (List ℕ) → Status → Type 0
Decodes octets writes writes' old new Done = (v : Parse) × IsParse false octets v × Adds old new (text_of v)
Decodes octets writes writes' old new WriteFault = Rose writes writes' × ((v : Parse) × IsParse false octets v × AddsFront old new (text_of v))
Decodes octets writes writes' old new NoMemory = new ≡ old
Decodes octets writes writes' old new other = ⊥

-- how a run ends by the answer of a load
abbrev pub status_of_load : {T : Type 0} → Result T LoadFault → Status
status_of_load (Ok done) = Done
status_of_load (Err load_fault.Put) = WriteFault
status_of_load (Err load_fault.NoMemory) = NoMemory

-- how `load` ends with these options: by the answer of a load of a probe that is set to them
pub record LoadsWith (options : Options) (start count : ℕ) (out : SinkUse) (result : Status) : Type 0 where
  pub settings : Settings
  pub set : AreSet settings options
  pub answer : Result (Unit {0}) LoadFault
  pub result_is : result ≡ status_of_load answer
  pub ends : LoadEnds settings start count out answer

-- What a command does, by what is found and left of each file, of the output, of a link and of a clock.
abbrev pub Does : (List ℕ → FileUse) → SinkUse → LinkUse → ClockUse → Status → Command → Type 0
Does file out link clock result (replay captures requests options) = EndsWith options (map file captures) (file requests) out result
    × IsExact options.lead (map (λ (name : List ℕ). (file name).held) captures) (file requests).held result
    × IsComplete options.lead (map file captures) (file requests) out result
Does file out link clock result (serve captures port count trap_port options) = ServesWith options port count trap_port (map file captures) out link clock result
    × ServesExactly options.lead (map file captures) out link result
Does file out link clock result (summary capture lead keep_short) = Summarizes lead keep_short (file capture) out result
Does file out link clock result (decode hex) = (octets : List ℕ) × (decode_of hex ≡ Ok octets)
    × Decodes octets out.faults out.faults_after out.content out.content_after result
Does file out link clock result (load start count options) = LoadsWith options start count out result
