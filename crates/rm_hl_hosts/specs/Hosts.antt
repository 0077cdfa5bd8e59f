-- What the rows of hlHostControl count, and the tables nlHost and alHost that show it (RFC 2021, section 6).
use Rattle.std.specs.Prelude.{ℕ, List, [], ◌∷◌}
use Rattle.rm_proto.specs.declared.datagram.IpPair.{IpPair}
use Rattle.rm_proto.specs.declared.known.Facts.{Facts}
use Rattle.rm_layer_hosts.specs.declared.counts.NetworkCounts.{NetworkCounts}
use Rattle.rm_layer_hosts.specs.Gains.{sent, received}
use Rattle.rm_layer_slots.specs.declared.slots.TableKind.TheVariants.{Hosts}
use Rattle.rm_layer_tables.specs.Layer.{Layer}
use Rattle.rm_layer_tables.specs.Tables.{MarkedTable}
use Rattle.rm_hl_hosts.specs.Columns.{network_columns, application_columns, traffic_in, gauge_in}
use Rattle.rm_hl_hosts.specs.Control.{control_entry}

-- a good frame with these addresses names its source, and then its destination
abbrev pub ends_of : Facts → IpPair → List (List ℕ × NetworkCounts)
ends_of facts pair = (pair.source, sent facts) ∷ (pair.dest, received facts) ∷ []

-- what is counted: hosts by their addresses, for the rows of hlHostControl
abbrev pub host_layer : Layer (List ℕ) NetworkCounts
host_layer = record { control = control_entry; kind = Hosts; named = ends_of }

-- nlHost shows hosts
abbrev pub network_entry : List ℕ
network_entry = 1 ∷ 3 ∷ 6 ∷ 1 ∷ 2 ∷ 1 ∷ 16 ∷ 14 ∷ 2 ∷ 1 ∷ []

abbrev pub nl_host : MarkedTable NetworkCounts
nl_host = record { entry = network_entry; columns = network_columns; created = 8; count = gauge_in }

-- and alHost the protocols above ip that they take part in
abbrev pub application_entry : List ℕ
application_entry = 1 ∷ 3 ∷ 6 ∷ 1 ∷ 2 ∷ 1 ∷ 16 ∷ 16 ∷ 1 ∷ 1 ∷ []

abbrev pub al_host : MarkedTable NetworkCounts
al_host = record { entry = application_entry; columns = application_columns; created = 6; count = λ column gain. traffic_in column gain.traffic }
