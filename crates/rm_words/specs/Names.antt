-- The names of commands and of options.
use Rattle.std.specs.Prelude.{ℕ, ◌==◌, List, [], ◌∷◌, find, Bool, true, false, not, codes, Option}
use Rattle.std.specs.Str.{bytes_eq}
use Rattle.rm_words.specs.declared.names.CommandName.{CommandName}
use Rattle.rm_words.specs.declared.names.CommandName.TheVariants.{Replay, Serve, Summary, Decode, Load}
use Rattle.rm_words.specs.declared.names.OptionName.{OptionName}
use Rattle.rm_words.specs.declared.names.OptionName.TheVariants.{Hosts, Pairs, Upper, Lead, KeepShort, Read, Write, TrapPort, If2, If3, If4}

-- the word of a command
abbrev pub word_of : CommandName → List ℕ
word_of Replay = codes "replay"
word_of Serve = codes "serve"
word_of Summary = codes "summary"
word_of Decode = codes "decode"
word_of Load = codes "load"

-- the options of a command
abbrev pub takes : CommandName → OptionName → Bool
takes Replay TrapPort = false
takes Replay option = true
takes Serve option = true
takes Summary Lead = true
takes Summary KeepShort = true
takes Summary option = false
takes Decode option = false
takes Load Hosts = true
takes Load Pairs = true
takes Load Upper = true
takes Load option = false

-- the name of an option
abbrev pub name_of : OptionName → List ℕ
name_of Hosts = codes "hosts"
name_of Pairs = codes "pairs"
name_of Upper = codes "upper"
name_of Lead = codes "lead"
name_of KeepShort = codes "keep-short"
name_of Read = codes "read"
name_of Write = codes "write"
name_of TrapPort = codes "trap-port"
name_of If2 = codes "if2"
name_of If3 = codes "if3"
name_of If4 = codes "if4"

-- whether an option has a value
abbrev pub takes_value : OptionName → Bool
takes_value KeepShort = false
takes_value option = true

-- whether a word begins with a dash
abbrev pub is_dashed : List ℕ → Bool
is_dashed [] = false
is_dashed (c ∷ cs) = c == 45

-- whether a word may follow an option as its value: as the name of a file it doesn't begin with a dash
abbrev pub follows : OptionName → List ℕ → Bool
follows If2 word = not (is_dashed word)
follows If3 word = not (is_dashed word)
follows If4 word = not (is_dashed word)
follows option word = true

abbrev pub commands : List CommandName
commands = Replay ∷ Serve ∷ Summary ∷ Decode ∷ Load ∷ []

-- the command of a word
unfoldable pub command_named : List ℕ → Option CommandName
command_named word = find (λ command. bytes_eq (word_of command) word) commands

abbrev pub options : List OptionName
options = Hosts ∷ Pairs ∷ Upper ∷ Lead ∷ KeepShort ∷ Read ∷ Write ∷ TrapPort ∷ If2 ∷ If3 ∷ If4 ∷ []

-- the option of a name
unfoldable pub option_named : List ℕ → Option OptionName
option_named name = find (λ option. bytes_eq (name_of option) name) options
