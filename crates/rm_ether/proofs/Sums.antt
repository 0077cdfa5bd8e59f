-- Sums that are exact.
use Rattle.std.proofs.Common.{◌≡◌, ◌+◌, ◌^◌, ◌<◌, ◌≤◌, ◌∙◌, Bool, true, false, arith}
use Rattle.std.proofs.Math.Nat.{mod-eq_of_lt}
use Rattle.rm_proto.specs.declared.known.Facts.{Facts}
use Rattle.rm_group.specs.declared.bounds.TheConstants.{MOST_OCTETS, MOST_FRAMES}
use Rattle.rm_ether.specs.declared.counter.Counter.{Counter}
use Rattle.rm_ether.specs.declared.counter.Counter.TheVariants.{DropEvents, Octets, Pkts, BroadcastPkts, MulticastPkts, CRCAlignErrors, UndersizePkts, OversizePkts, Fragments, Jabbers, Collisions, Pkts64Octets, Pkts65to127Octets, Pkts128to255Octets, Pkts256to511Octets, Pkts512to1023Octets, Pkts1024to1518Octets}
use Rattle.rm_ether.specs.declared.statistics.Statistics.{Statistics}
use Rattle.rm_ether.specs.Counted.{counted, one_if}
use Rattle.rm_ether.specs.Standing.{counter_of, with_frame, AreBounded}
use Rattle.rm_ether.proofs.Steps.{one_more_sum}

few : (b : Bool) → one_if b ≤ MOST_OCTETS
few true = omega arith
few false = omega arith

-- no counter counts more of a frame than its octets can be
counted_fits : (facts : Facts) → facts.length ≤ MOST_OCTETS → (each : Counter) → counted each facts ≤ MOST_OCTETS
counted_fits facts length DropEvents = omega arith
counted_fits facts length Octets = length
counted_fits facts length Pkts = omega arith
counted_fits facts length BroadcastPkts = few _
counted_fits facts length MulticastPkts = few _
counted_fits facts length CRCAlignErrors = omega arith
counted_fits facts length UndersizePkts = few _
counted_fits facts length OversizePkts = few _
counted_fits facts length Fragments = omega arith
counted_fits facts length Jabbers = omega arith
counted_fits facts length Collisions = omega arith
counted_fits facts length Pkts64Octets = few _
counted_fits facts length Pkts65to127Octets = few _
counted_fits facts length Pkts128to255Octets = few _
counted_fits facts length Pkts256to511Octets = few _
counted_fits facts length Pkts512to1023Octets = few _
counted_fits facts length Pkts1024to1518Octets = few _

module _ (facts : Facts) (length : facts.length ≤ MOST_OCTETS) (statistics : Statistics) (room : statistics.packets < MOST_FRAMES) (bounded : AreBounded statistics) where
  pub exact_sum : (each : Counter) → counter_of (with_frame facts statistics) each ≡ counter_of statistics each + counted each facts
  exact_sum each =
      let one = bounded each in
      let two = counted_fits facts length each in
      let fits : counter_of statistics each + counted each facts < 2 ^ 64 = omega arith in
      one_more_sum facts statistics each ∙ mod-eq_of_lt fits

  pub still_bounded : AreBounded (with_frame facts statistics)
  still_bounded each =
      let one = bounded each in
      let two = counted_fits facts length each in
      let more : (with_frame facts statistics).packets ≡ statistics.packets + 1 = exact_sum Pkts in
      let sum = exact_sum each in
      omega arith
