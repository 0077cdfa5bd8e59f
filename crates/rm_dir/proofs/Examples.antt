-- Indexes and judgements worked out by hand.
use Rattle.std.proofs.Common.{◌≡◌, ℕ, List, [], ◌∷◌, ◌++◌, true, false, Option, Some, None, map, refl}
use Rattle.std.specs.Prelude.{pos, codes}
use Rattle.rm_val.specs.Val.{Val, int, octets}
use Rattle.rm_val.specs.declared.error.ErrorStatus.TheVariants.{NoCreation, NotWritable, InconsistentValue, WrongValue}
use Rattle.rm_model.specs.Journal.{Assignment}
use Rattle.rm_model.specs.Judgement.{first_pass, second_pass}
use Rattle.rm_model.specs.declared.row.State.TheVariants.{Absent, Valid}
use Rattle.rm_path.specs.declared.identifier.ProtocolIdentifier.TheVariants.{Ether2, Ether, Ip, Tcp, Udp}
use Rattle.rm_dir.specs.DirectoryIndex.{directory_index, directory_number, index_with}
use Rattle.rm_dir.specs.BuiltIn.{built_in_local}
use Rattle.rm_dir.specs.ProtocolDir.{directory_entry, protocol_dir, directory_beginning, directory_state, directory_value}
use Rattle.rm_dir.specs.LocalIndexes.{greatest_given}
use Rattle.rm_dir.specs.Paths.{path_after}
use Rattle.rm_proto.specs.declared.known.Facts.{Facts}
use Rattle.rm_proto.specs.declared.ports.Ports.{Ports}
use Rattle.rm_proto.specs.declared.ethernet.Cast.TheVariants.{Uni}

-- snmp over UDP
abbrev snmp : List ℕ
snmp = 16 ∷ 0 ∷ 0 ∷ 0 ∷ 1 ∷ 0 ∷ 0 ∷ 8 ∷ 0 ∷ 0 ∷ 0 ∷ 0 ∷ 17 ∷ 0 ∷ 0 ∷ 0 ∷ 161 ∷ 4 ∷ 0 ∷ 0 ∷ 0 ∷ 0 ∷ []

of_snmp : directory_number snmp ≡ Some 262305
of_snmp = refl

back : directory_index 262305 ≡ snmp
back = refl

-- a parameter that isn't 0, an octet above 255, port 0, and the empty index
none : map directory_number ((8 ∷ 0 ∷ 0 ∷ 0 ∷ 1 ∷ 0 ∷ 0 ∷ 8 ∷ 0 ∷ 2 ∷ 0 ∷ 1 ∷ []) ∷ (8 ∷ 0 ∷ 0 ∷ 0 ∷ 1 ∷ 0 ∷ 0 ∷ 8 ∷ 300 ∷ 2 ∷ 0 ∷ 0 ∷ []) ∷ index_with (Tcp 0) ∷ [] ∷ []) ≡ None ∷ None ∷ None ∷ None ∷ []
none = refl

-- the rows of the beginning
locals : map built_in_local (Ether2 ∷ Ether 0x0800 ∷ Ether 0x0806 ∷ Ip 17 ∷ Tcp 443 ∷ Udp 53 ∷ Udp 162 ∷ Tcp 162 ∷ []) ≡ 1 ∷ 2 ∷ 3 ∷ 6 ∷ 14 ∷ 15 ∷ 20 ∷ 0 ∷ []
locals = refl

given_at_first : greatest_given [] ≡ 20
given_at_first = refl

first_states : map (directory_state []) (snmp ∷ index_with (Tcp 8080) ∷ []) ≡ Valid ∷ Absent ∷ []
first_states = refl

first_values : map (directory_value [] snmp) (4 ∷ 7 ∷ 8 ∷ 9 ∷ []) ≡ octets (codes "ether2.ip.udp.snmp") ∷ int (pos 3) ∷ int (pos 3) ∷ octets (codes "monitor") ∷ []
first_values = refl

of_arp : map (directory_value [] (index_with (Ether 0x0806))) (7 ∷ 8 ∷ []) ≡ int (pos 1) ∷ int (pos 1) ∷ []
of_arp = refl

-- a Set of one variable
abbrev binds : ℕ → List ℕ → Val → List Assignment
binds column index value = record { name = directory_entry ++ column ∷ index; value = value } ∷ []

-- port 0 can't have a row, whatever the value is that is right for the column
no_creation : first_pass protocol_dir (binds 10 (index_with (Tcp 0)) (int (pos 4))) 0 ≡ Some NoCreation
no_creation = refl

-- 3 is no value of a status, 1 is none of a configuration, and a description has 64 octets at most
wrong_values : first_pass protocol_dir (binds 10 snmp (int (pos 3))) 0 ≡ Some WrongValue
wrong_values = refl

wrong_config : first_pass protocol_dir (binds 7 snmp (int (pos 1))) 0 ≡ Some WrongValue
wrong_config = refl

-- the local index and the type can't be set
read_only : first_pass protocol_dir (binds 3 snmp (int (pos 4))) 0 ≡ Some NotWritable
read_only = refl

-- a row of the beginning takes status 1 alone
stays : second_pass protocol_dir directory_beginning (binds 10 snmp (int (pos 6))) 0 ≡ Some InconsistentValue
stays = refl

active_again : second_pass protocol_dir directory_beginning (binds 10 snmp (int (pos 1))) 0 ≡ None
active_again = refl

-- its description can't be set, and its owner can
descr : second_pass protocol_dir directory_beginning (binds 4 snmp (octets [])) 0 ≡ Some NotWritable
descr = refl

owner : second_pass protocol_dir directory_beginning (binds 9 snmp (octets (codes "me"))) 0 ≡ None
owner = refl

-- what can't be counted by the addresses of IP never is
arp_config : second_pass protocol_dir directory_beginning (binds 7 (index_with (Ether 0x0806)) (int (pos 2))) 0 ≡ Some NotWritable
arp_config = refl

snmp_config : second_pass protocol_dir directory_beginning (binds 7 snmp (int (pos 2))) 0 ≡ None
snmp_config = refl

-- the facts of a frame of IP, by its protocol and its ports
abbrev of_ip : Option ℕ → Option Ports → Facts
of_ip proto ports = record { interface = 1; length = 64; tagged = false; good = true; status = 0; pair = None; cast = Uni; ether = Some 0x0800; ip = None; proto = proto; ports = ports }

-- a datagram of UDP, from one port to the other
abbrev datagram : (source dest : ℕ) → Facts
datagram source dest = of_ip (Some 17) (Some (record { source = source; dest = dest }))

-- paths by the protocols that are active from the beginning: of a datagram to port 161, of one between ports without rows, and of a later fragment
to_snmp : path_after [] (datagram 40000 161) ≡ Ether2 ∷ Ether 0x0800 ∷ Ip 17 ∷ Udp 161 ∷ []
to_snmp = refl

between_others : path_after [] (datagram 40000 40001) ≡ Ether2 ∷ Ether 0x0800 ∷ Ip 17 ∷ []
between_others = refl

of_fragment : path_after [] (of_ip None None) ≡ Ether2 ∷ Ether 0x0800 ∷ []
of_fragment = refl

-- the port of the receiver comes first
to_domain : path_after [] (datagram 161 53) ≡ Ether2 ∷ Ether 0x0800 ∷ Ip 17 ∷ Udp 53 ∷ []
to_domain = refl
