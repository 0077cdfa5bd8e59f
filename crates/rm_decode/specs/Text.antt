-- The text that shows what octets are, read as a message with any kind of PDU.
use Rattle.std.specs.Prelude.{ℕ, List, [], ◌∷◌, ◌++◌, length, take, flat_map, decimal, codes}
use Rattle.std.specs.Fmt.{signed_decimal}
use Rattle.hex.specs.Hex.{encode_lower}
use Rattle.rm_val.specs.Val.{Val, int, octets, null, name, ip, counter, gauge, ticks, opaque_octets, big, no_object, no_instance, end_of_view}
use Rattle.rm_pdu.specs.declared.kind.Kind.{Kind}
use Rattle.rm_pdu.specs.declared.kind.Kind.TheVariants.{Get, Next, Response, Set, Bulk, Inform, Trap, Report}
use Rattle.rm_pdu.specs.Message.{Binding, Message}
use Rattle.rm_pdu.specs.Parse.{Parse, too_long, malformed, other_version, not_request, message}

-- the word for a kind of PDU
abbrev pub kind_word : Kind → List ℕ
kind_word Get = codes "get"
kind_word Next = codes "next"
kind_word Response = codes "response"
kind_word Set = codes "set"
kind_word Bulk = codes "bulk"
kind_word Inform = codes "inform"
kind_word Trap = codes "trap"
kind_word Report = codes "report"

-- octets in lower-case hexadecimal digits, and a dash for none
abbrev pub hex_or_dash : List ℕ → List ℕ
hex_or_dash [] = codes "-"
hex_or_dash (octet ∷ more) = encode_lower (octet ∷ more)

-- a number behind a dot
abbrev pub dot_and : ℕ → List ℕ
dot_and number = codes "." ++ decimal number

-- numbers with dots between them
abbrev pub dotted : List ℕ → List ℕ
dotted [] = []
dotted (first ∷ others) = decimal first ++ flat_map dot_and others

-- a value: the word for its type, and what it holds
abbrev pub value_text : Val → List ℕ
value_text (int z) = codes "integer " ++ signed_decimal z
value_text (counter n) = codes "counter " ++ decimal n
value_text (gauge n) = codes "gauge " ++ decimal n
value_text (ticks n) = codes "ticks " ++ decimal n
value_text (big n) = codes "counter64 " ++ decimal n
value_text (octets bytes) = codes "octets " ++ hex_or_dash bytes
value_text (opaque_octets bytes) = codes "opaque " ++ hex_or_dash bytes
value_text (name numbers) = codes "oid " ++ dotted numbers
value_text (ip bytes) = codes "ip " ++ dotted bytes
value_text null = codes "null"
value_text no_object = codes "no-object"
value_text no_instance = codes "no-instance"
value_text end_of_view = codes "end-of-view"

-- the line of a binding
abbrev pub binding_line : Binding → List ℕ
binding_line binding = dotted binding.name ++ codes " " ++ value_text binding.value ++ codes "\n"

-- the line of a message itself: the kind of its PDU, its three numbers, how many bindings it has, and its community
abbrev pub message_line : Message → List ℕ
message_line m =
    kind_word m.kind ++ codes " " ++ signed_decimal m.id ++ codes " " ++ signed_decimal m.first ++ codes " " ++ signed_decimal m.second
    ++ codes " " ++ decimal (length m.bindings) ++ codes " " ++ hex_or_dash m.community ++ codes "\n"

-- The lines that show what octets are. Of a message the first 128 bindings have a line each. That a PDU is no request isn't
-- said where all kinds are read.
abbrev pub text_of : Parse → List ℕ
text_of too_long = codes "drop too-long\n"
text_of (malformed at) = codes "drop malformed " ++ decimal at ++ codes "\n"
text_of (other_version z) = codes "drop version\n"
text_of (not_request tag) = codes "drop not-request\n"
text_of (message m) = message_line m ++ flat_map binding_line (take 128 m.bindings)
