-- The command that the code's is.
use Rattle.std.specs.Prelude.{◌≡◌, ℕ, List, [], ◌∷◌, ◌++◌, Option, Some, None}
use Rattle.std.specs.Borrow.{Bor}
use Rattle.rm_words.specs.Grammar.{Piece, Options, Command, replay, serve, summary, decode, load, AreOfReplay, AreOfServe, AreOfSummary, AreOfDecode, AreOfLoad}
use Rattle.rm_words.specs.Scan.{so_far}
use Rattle.rm_words.specs.declared.names.CommandName.{CommandName}
use Rattle.rm_words.specs.declared.names.CommandName.TheVariants as first_word
use Rattle.rm_words.specs.declared.captures.Captures.{Captures}
use Rattle.rm_words.specs.declared.options.RunOptions.{RunOptions}
use Rattle.rm_words.specs.declared.command.Command as code
use Rattle.rm_words.specs.declared.command.Command.TheVariants.{Replay, Serve, Summary, Decode, Load}

-- the names of the captures, in order of interface
abbrev pub captures_of : Captures → List (List ℕ)
captures_of captures = captures.capture.now ∷ so_far captures.if2 ++ so_far captures.if3 ++ so_far captures.if4

abbrev pub options_of : RunOptions → Options
options_of options = record {
  hosts = options.settings.hosts;
  pairs = options.settings.pairs;
  upper = options.settings.upper;
  lead = options.lead;
  keep_short = options.settings.keep_short;
  interfaces = options.settings.interfaces;
  read = options.settings.read.items;
  write = options.settings.write.items;
}

abbrev pub command_of : code.Command → Command
command_of (Replay captures requests options) = replay (captures_of captures) requests.now (options_of options)
command_of (Serve captures port count trap_port options) = serve (captures_of captures) port count trap_port (options_of options)
command_of (Summary capture lead keep_short) = summary capture.now lead keep_short
command_of (Decode hex) = decode hex.now
command_of (Load start count options) = load start count (options_of options)

-- there is one operand, which is this
abbrev pub IsOneText : List (List ℕ) → Option (Bor (List ℕ)) → Type 0
IsOneText texts None = (text : List ℕ) → texts ≡ text ∷ [] → ⊥
IsOneText texts (Some text) = texts ≡ text.now ∷ []

-- there are two operands, which are these
abbrev pub AreTwoTexts : List (List ℕ) → Option (Bor (List ℕ) × Bor (List ℕ)) → Type 0
AreTwoTexts texts None = (first second : List ℕ) → texts ≡ first ∷ second ∷ [] → ⊥
AreTwoTexts texts (Some found) = texts ≡ found.0.now ∷ found.1.now ∷ []

-- there are three operands, which are these
abbrev pub AreThreeTexts : List (List ℕ) → Option (Bor (List ℕ) × Bor (List ℕ) × Bor (List ℕ)) → Type 0
AreThreeTexts texts None = (first second third : List ℕ) → texts ≡ first ∷ second ∷ third ∷ [] → ⊥
AreThreeTexts texts (Some found) = texts ≡ found.0.now ∷ found.1.now ∷ found.2.now ∷ []

-- what the operands and options of a command are that begins with a word
abbrev pub AreOf : CommandName → List Piece → Command → Type 0
AreOf first_word.Replay pieces (replay captures requests options) = AreOfReplay pieces captures requests options
AreOf first_word.Serve pieces (serve captures port count trap_port options) = AreOfServe pieces captures port count trap_port options
AreOf first_word.Summary pieces (summary capture lead keep_short) = AreOfSummary pieces capture lead keep_short
AreOf first_word.Decode pieces (decode hex) = AreOfDecode pieces hex
AreOf first_word.Load pieces (load start count options) = AreOfLoad pieces start count options
AreOf name pieces other = ⊥

-- the pieces are those of the command that was read, or of none
abbrev pub IsRead : CommandName → List Piece → Option code.Command → Type 0
IsRead name pieces None = (command : Command) → AreOf name pieces command → ⊥
IsRead name pieces (Some found) = AreOf name pieces (command_of found)
