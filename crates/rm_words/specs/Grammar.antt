-- Which words stand for which command.
use Rattle.std.specs.Prelude.{◌≡◌, ◌≢◌, ℕ, List, [], ◌∷◌, ◌++◌, length, map, not, ◌%◌, ◌&&◌, ◌==◌, nat_le, Bool, true, false, codes, if◌then◌else◌, Option, Some, None}
use Rattle.std.specs.Str.{bytes_eq, all_ascii_digits}
use Rattle.std.specs.Str.Parse.{digits_value}
use Rattle.std.specs.List.{list_all, slice_index}
use Rattle.std.specs.Char.{is_ascii_graphic, is_ascii_hexdigit}
use Rattle.rm_words.specs.Names.{word_of, takes, name_of, takes_value, follows}
use Rattle.rm_words.specs.declared.names.CommandName.{CommandName}
use Rattle.rm_words.specs.declared.names.CommandName.TheVariants.{Replay, Serve, Summary, Decode, Load}
use Rattle.rm_words.specs.declared.names.OptionName.{OptionName}
use Rattle.rm_words.specs.declared.names.OptionName.TheVariants.{Hosts, Pairs, Upper, Lead, KeepShort, Read, Write, TrapPort, If2, If3, If4}

-- what words are behind that of the command: an operand, or an option that is given a value
pub data Piece : Type 0 where
  operand : List ℕ → Piece
  gives : OptionName → List ℕ → Piece

abbrev pub dashes : List ℕ
dashes = codes "--"

-- a word that doesn't begin with a dash, or is a dash alone
abbrev pub is_plain : List ℕ → Bool
is_plain [] = true
is_plain (c ∷ []) = true
is_plain (c ∷ d ∷ more) = not (c == 45)

-- The words behind that of the command, as operands and options in any order. An option that has a value is followed by it, in a
-- word of its own, which the name of a file may be only where it doesn't begin with a dash, or behind `=`; to one that has none no
-- octets are given. Behind `--` each word is an operand.
pub data Spells (command : CommandName) : List (List ℕ) → List Piece → Type 0 where
  none : Spells command [] []
  end : (word : List ℕ) (words : List (List ℕ)) → word ≡ dashes → Spells command (word ∷ words) (map operand words)
  plain : (word : List ℕ) (words : List (List ℕ)) (pieces : List Piece) → is_plain word ≡ true
      → Spells command words pieces → Spells command (word ∷ words) (operand word ∷ pieces)
  flag : (option : OptionName) (word : List ℕ) (words : List (List ℕ)) (pieces : List Piece) → takes command option ≡ true → takes_value option ≡ false
      → word ≡ dashes ++ name_of option → Spells command words pieces → Spells command (word ∷ words) (gives option [] ∷ pieces)
  separate : (option : OptionName) (word value : List ℕ) (words : List (List ℕ)) (pieces : List Piece) → takes command option ≡ true → takes_value option ≡ true
      → follows option value ≡ true → word ≡ dashes ++ name_of option → Spells command words pieces → Spells command (word ∷ value ∷ words) (gives option value ∷ pieces)
  joined : (option : OptionName) (word value : List ℕ) (words : List (List ℕ)) (pieces : List Piece) → takes command option ≡ true → takes_value option ≡ true
      → word ≡ dashes ++ name_of option ++ codes "=" ++ value → Spells command words pieces → Spells command (word ∷ words) (gives option value ∷ pieces)

-- the operands, in order
abbrev pub operands : List Piece → List (List ℕ)
operands [] = []
operands (operand text ∷ pieces) = text ∷ operands pieces
operands (gives option value ∷ pieces) = operands pieces

-- the values that an option is given, in order
abbrev pub values_of : OptionName → List Piece → List (List ℕ)
values_of option [] = []
values_of option (operand text ∷ pieces) = values_of option pieces
values_of option (gives given value ∷ pieces) = if bytes_eq (name_of given) (name_of option) then value ∷ values_of option pieces else values_of option pieces

-- the name of a file isn't empty
abbrev pub is_name : List ℕ → Bool
is_name [] = false
is_name (c ∷ cs) = true

-- the number that one to ten decimal digits are, if it is within the range
unfoldable pub number_within : ℕ → ℕ → List ℕ → Option ℕ
number_within low high text =
    if all_ascii_digits text && nat_le 1 (length text) && nat_le (length text) 10 && nat_le low (digits_value 10 text) && nat_le (digits_value 10 text) high
    then Some (digits_value 10 text) else None

-- the number of a port
abbrev pub port_of : List ℕ → Option ℕ
port_of = number_within 1 65535

-- a community: 1 to 64 characters from `!` to `~`, of which the first isn't a dash
unfoldable pub is_community : List ℕ → Bool
is_community text = nat_le 1 (length text) && nat_le (length text) 64 && not (slice_index text 0 == 45) && list_all is_ascii_graphic text

-- octets in hexadecimal digits of either case, two for each: 1 to 65535 of them
unfoldable pub is_hex : List ℕ → Bool
is_hex text = nat_le 1 (length text) && nat_le (length text) 131070 && (length text % 2 == 0) && list_all is_ascii_hexdigit text

abbrev pub community_of : List ℕ → Option (List ℕ)
community_of text = if is_community text then Some text else None

-- an option that has no value
abbrev pub is_given : List ℕ → Option Bool
is_given text = Some true

-- What an option comes to by the values that it is given, and none where they are wrong: its default without one, and what is
-- read of one. It isn't given twice.
abbrev pub setting : {A : Type 0} → A → (List ℕ → Option A) → List (List ℕ) → Option A
setting default read [] = Some default
setting default read (value ∷ []) = read value
setting default read (value ∷ second ∷ more) = None

-- the moment of the first frame, in milliseconds
abbrev pub lead_of : List Piece → Option ℕ
lead_of pieces = setting 1000 (number_within 0 4294967295) (values_of Lead pieces)

-- whether short frames are kept as they are
abbrev pub keep_short_of : List Piece → Option Bool
keep_short_of pieces = setting false is_given (values_of KeepShort pieces)

-- the file that an option names, as a list of one
abbrev pub named : List ℕ → Option (List (List ℕ))
named text = if is_name text then Some (text ∷ []) else None

-- The captures of a command, in order of interface: that of the operand, and those that the options name. No interface has one where the
-- interface below it has none.
pub record AreCaptures (pieces : List Piece) (capture : List ℕ) (captures : List (List ℕ)) : Type 0 where
  pub second : List (List ℕ)
  pub third : List (List ℕ)
  pub fourth : List (List ℕ)
  pub second_is : setting [] named (values_of If2 pieces) ≡ Some second
  pub third_is : setting [] named (values_of If3 pieces) ≡ Some third
  pub fourth_is : setting [] named (values_of If4 pieces) ≡ Some fourth
  pub ladder : (third ≢ [] → second ≢ []) × (fourth ≢ [] → third ≢ [])
  pub all : captures ≡ capture ∷ second ++ third ++ fourth

-- what a run is set to
pub record Options : Type 0 where
  pub hosts : ℕ
  pub pairs : ℕ
  pub upper : ℕ
  pub lead : ℕ
  pub keep_short : Bool
  pub interfaces : ℕ
  pub read : List ℕ
  pub write : List ℕ

-- the options of a run, with their defaults and ranges, but for how many interfaces it has
pub record AreOptions (pieces : List Piece) (options : Options) : Type 0 where
  pub hosts : setting 1024 (number_within 2 4096) (values_of Hosts pieces) ≡ Some options.hosts
  pub pairs : setting 1024 (number_within 2 4096) (values_of Pairs pieces) ≡ Some options.pairs
  pub upper : setting 1024 (number_within 2 1024) (values_of Upper pieces) ≡ Some options.upper
  pub lead : lead_of pieces ≡ Some options.lead
  pub keep_short : keep_short_of pieces ≡ Some options.keep_short
  pub read : setting (codes "public") community_of (values_of Read pieces) ≡ Some options.read
  pub write : setting (codes "private") community_of (values_of Write pieces) ≡ Some options.write

-- a command with its operands and options
pub data Command : Type 0 where
  replay : (captures : List (List ℕ)) (requests : List ℕ) (options : Options) → Command
  serve : (captures : List (List ℕ)) (port count trap_port : ℕ) (options : Options) → Command
  summary : (capture : List ℕ) (lead : ℕ) (keep_short : Bool) → Command
  decode : (hex : List ℕ) → Command
  load : (start count : ℕ) (options : Options) → Command

-- the operands and options of `replay`: the capture of interface 1 and the request file; and as many interfaces as captures
pub record AreOfReplay (pieces : List Piece) (captures : List (List ℕ)) (requests : List ℕ) (options : Options) : Type 0 where
  pub capture : List ℕ
  pub operands_are : operands pieces ≡ capture ∷ requests ∷ []
  pub capture_is : is_name capture ≡ true
  pub requests_are : is_name requests ≡ true
  pub captures_are : AreCaptures pieces capture captures
  pub options_are : AreOptions pieces options
  pub interfaces_are : options.interfaces ≡ length captures

-- The operands and options of `serve`: the capture of interface 1, the port and how many datagrams; and, beside the options of a run, the port that
-- notifications are sent to. There are as many interfaces as captures.
pub record AreOfServe (pieces : List Piece) (captures : List (List ℕ)) (port count trap_port : ℕ) (options : Options) : Type 0 where
  pub capture : List ℕ
  pub port_text : List ℕ
  pub count_text : List ℕ
  pub operands_are : operands pieces ≡ capture ∷ port_text ∷ count_text ∷ []
  pub capture_is : is_name capture ≡ true
  pub port_is : port_of port_text ≡ Some port
  pub count_is : number_within 1 1000000 count_text ≡ Some count
  pub trap_port_is : setting 162 port_of (values_of TrapPort pieces) ≡ Some trap_port
  pub captures_are : AreCaptures pieces capture captures
  pub options_are : AreOptions pieces options
  pub interfaces_are : options.interfaces ≡ length captures

-- the operand and the options of `summary`: the capture
pub record AreOfSummary (pieces : List Piece) (capture : List ℕ) (lead : ℕ) (keep_short : Bool) : Type 0 where
  pub operand_is : operands pieces ≡ capture ∷ []
  pub capture_is : is_name capture ≡ true
  pub lead_is : lead_of pieces ≡ Some lead
  pub keep_short_is : keep_short_of pieces ≡ Some keep_short

-- the operand of `decode`: octets in hexadecimal digits
pub record AreOfDecode (pieces : List Piece) (hex : List ℕ) : Type 0 where
  pub operand_is : operands pieces ≡ hex ∷ []
  pub hex_is : is_hex hex ≡ true

-- The operands and options of `load`: the number that its frames are made from, and how many there are. Of the options of a run it takes the
-- three bounds alone, and the others are as where they aren't given. It has one interface.
pub record AreOfLoad (pieces : List Piece) (start count : ℕ) (options : Options) : Type 0 where
  pub start_text : List ℕ
  pub count_text : List ℕ
  pub operands_are : operands pieces ≡ start_text ∷ count_text ∷ []
  pub start_is : number_within 0 2147483647 start_text ≡ Some start
  pub count_is : number_within 1 10000000 count_text ≡ Some count
  pub options_are : AreOptions pieces options
  pub interfaces_are : options.interfaces ≡ 1

-- Which words stand for which command, a line for each command: its word, and what stands behind it.
pub data StandFor : List (List ℕ) → Command → Type 0 where
  for_replay : (word : List ℕ) (words : List (List ℕ)) (pieces : List Piece) (captures : List (List ℕ)) (requests : List ℕ) (options : Options)
      → word ≡ word_of Replay → Spells Replay words pieces → AreOfReplay pieces captures requests options
      → StandFor (word ∷ words) (replay captures requests options)
  for_serve : (word : List ℕ) (words : List (List ℕ)) (pieces : List Piece) (captures : List (List ℕ)) (port count trap_port : ℕ) (options : Options)
      → word ≡ word_of Serve → Spells Serve words pieces → AreOfServe pieces captures port count trap_port options
      → StandFor (word ∷ words) (serve captures port count trap_port options)
  for_summary : (word : List ℕ) (words : List (List ℕ)) (pieces : List Piece) (capture : List ℕ) (lead : ℕ) (keep_short : Bool)
      → word ≡ word_of Summary → Spells Summary words pieces → AreOfSummary pieces capture lead keep_short
      → StandFor (word ∷ words) (summary capture lead keep_short)
  for_decode : (word : List ℕ) (words : List (List ℕ)) (pieces : List Piece) (hex : List ℕ)
      → word ≡ word_of Decode → Spells Decode words pieces → AreOfDecode pieces hex
      → StandFor (word ∷ words) (decode hex)
  for_load : (word : List ℕ) (words : List (List ℕ)) (pieces : List Piece) (start count : ℕ) (options : Options)
      → word ≡ word_of Load → Spells Load words pieces → AreOfLoad pieces start count options
      → StandFor (word ∷ words) (load start count options)
