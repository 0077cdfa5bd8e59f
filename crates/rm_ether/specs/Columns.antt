-- The columns of etherStats (RFC 1757, section 5).
use Rattle.std.specs.Prelude.{ℕ, List, [], ◌∷◌, ◌==◌, if◌then◌else◌}
use Rattle.rm_ether.specs.declared.counter.Counter.{Counter}
use Rattle.rm_ether.specs.declared.counter.Counter.TheVariants.{DropEvents, Octets, Pkts, BroadcastPkts, MulticastPkts, CRCAlignErrors, UndersizePkts, OversizePkts, Fragments, Jabbers, Collisions, Pkts64Octets, Pkts65to127Octets, Pkts128to255Octets, Pkts256to511Octets, Pkts512to1023Octets, Pkts1024to1518Octets}

-- the numbers of the columns
abbrev pub ether_columns : List ℕ
ether_columns =
    1 ∷ 2 ∷ 3 ∷ 4 ∷ 5 ∷ 6 ∷ 7 ∷ 8 ∷ 9 ∷ 10 ∷ 11 ∷ 12 ∷ 13 ∷ 14 ∷ 15 ∷ 16 ∷ 17 ∷ 18 ∷ 19 ∷ 20 ∷ 21 ∷ []

-- the counter in the column with each of these numbers; Pkts1024to1518Octets for every number that isn't one of the others'
unfoldable pub counter_numbered : ℕ → Counter
counter_numbered number =
    if number == 3 then DropEvents
    else if number == 4 then Octets
    else if number == 5 then Pkts
    else if number == 6 then BroadcastPkts
    else if number == 7 then MulticastPkts
    else if number == 8 then CRCAlignErrors
    else if number == 9 then UndersizePkts
    else if number == 10 then OversizePkts
    else if number == 11 then Fragments
    else if number == 12 then Jabbers
    else if number == 13 then Collisions
    else if number == 14 then Pkts64Octets
    else if number == 15 then Pkts65to127Octets
    else if number == 16 then Pkts128to255Octets
    else if number == 17 then Pkts256to511Octets
    else if number == 18 then Pkts512to1023Octets
    else Pkts1024to1518Octets
