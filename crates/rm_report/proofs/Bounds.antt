-- What hosts gain never comes to more than can be kept.
use Rattle.std.proofs.Common.{ℕ, ◌+◌, ◌*◌, ◌/◌, ◌^◌, ◌<◌, ◌≤◌, Bool, true, false, cond, not, List, [], ◌∷◌, length, filter, arith, Option, Some, None}
use Rattle.std.specs.Prelude.{flat_map, sum_by}
use Rattle.std.specs.List.{AllByRecursion}
use Rattle.std.specs.Str.{bytes_eq}
use Rattle.std.proofs.lemmas.List.Sums.{sum_by-cons}
use Rattle.rm_val.specs.Val.{Val}
use Rattle.rm_model.specs.Counting.{Counting}
use Rattle.rm_model.specs.Journal.{Act, Journal, passes, assigns, samples, frames_in}
use Rattle.rm_model.specs.Interfaces.{is_interface}
use Rattle.rm_model.specs.FrameFacts.{frame_facts}
use Rattle.rm_model.specs.ControlRows.{no_rows, stays_valid}
use Rattle.rm_proto.specs.declared.known.Facts.{Facts}
use Rattle.rm_proto.specs.declared.ethernet.Pair.{Pair}
use Rattle.rm_acts.specs.Seen.{Seen, seen_since, with_act}
use Rattle.rm_group.specs.declared.bounds.TheConstants.{MOST_OCTETS}
use Rattle.rm_ether.specs.Counted.{one_if, counted}
use Rattle.rm_ether.specs.declared.counter.Counter.TheVariants.{BroadcastPkts, MulticastPkts}
use Rattle.rm_evicting.specs.Mention.{refers, strays}
use Rattle.rm_evicting.specs.Held.{gains}
use Rattle.rm_hosts.specs.declared.host_counts.HostCounts.{HostCounts}
use Rattle.rm_hosts.specs.Control.{host_control, control_set}
use Rattle.rm_hosts.specs.Counts.{gain_in, gain_out}
use Rattle.rm_hosts.specs.Indexed.{exact}
use Rattle.rm_hosts.specs.Mentions.{HostMention, mentioned, mentioned_by, mentions_of}
use Rattle.rm_report.specs.declared.rate_base.RateBase.{RateBase}
use Rattle.rm_report.specs.declared.rate_base.RateBase.TheVariants.{InPkts, OutPkts, InOctets, OutOctets, OutErrors, OutBroadcastPkts, OutMulticastPkts}
use Rattle.rm_report.specs.RateBase.{count_of}
use Rattle.rm_report.specs.Measured.{IsMeasured}
use Rattle.rm_report.proofs.Gained.{sum_both}

one_most : (b : Bool) → one_if b ≤ 1
one_most true = omega arith
one_most false = omega arith

-- no counter gains more by a frame than its octets, and one
in_most : (base : RateBase) (facts : Facts) → count_of base (gain_in facts) ≤ facts.length + 1
in_most InPkts facts = omega arith
in_most OutPkts facts = omega arith
in_most InOctets facts = omega arith
in_most OutOctets facts = omega arith
in_most OutErrors facts = omega arith
in_most OutBroadcastPkts facts = omega arith
in_most OutMulticastPkts facts = omega arith

out_most : (base : RateBase) (facts : Facts) → count_of base (gain_out facts) ≤ facts.length + 1
out_most InPkts facts = omega arith
out_most OutPkts facts = omega arith
out_most InOctets facts = omega arith
out_most OutOctets facts = omega arith
out_most OutErrors facts = omega (arith, one_most (not facts.good))
out_most OutBroadcastPkts facts = let few : counted BroadcastPkts facts ≤ 1 = one_most _ in omega arith
out_most OutMulticastPkts facts = let few : counted MulticastPkts facts ≤ 1 = one_most _ in omega arith

module _ (settings : Counting) (base : RateBase) (address : List ℕ) where
  abbrev sum_in : List HostMention → ℕ
  sum_in mentions = sum_by (count_of base) (gains bytes_eq address mentions)

  -- one mention adds what it has, or nothing
  one_refers : (key : List ℕ) (stamp tick : ℕ) (gain : HostCounts) (rest : List HostMention) → sum_in (refers key stamp tick gain ∷ rest) ≤ count_of base gain + sum_in rest
  one_refers key stamp tick gain rest = go (bytes_eq address key)
    where
      go : (t : Bool) → sum_by (count_of base) (cond t (gain ∷ gains bytes_eq address rest) (gains bytes_eq address rest)) ≤ count_of base gain + sum_in rest
      go true = omega (arith, sum_by-cons (count_of base) gain (gains bytes_eq address rest))
      go false = omega arith

  one_strays : (key : List ℕ) (gain : HostCounts) (rest : List HostMention) → sum_in (strays key gain ∷ rest) ≤ count_of base gain + sum_in rest
  one_strays key gain rest = go (bytes_eq address key)
    where
      go : (t : Bool) → sum_by (count_of base) (cond t (gain ∷ gains bytes_eq address rest) (gains bytes_eq address rest)) ≤ count_of base gain + sum_in rest
      go true = omega (arith, sum_by-cons (count_of base) gain (gains bytes_eq address rest))
      go false = omega arith

  -- a frame adds no more than twice its octets, and two
  one_frame : (stamp tick : ℕ) (facts : Facts) (pair : Option Pair) → sum_in (mentioned_by stamp tick facts pair) ≤ 2 * (facts.length + 1)
  one_frame stamp tick facts None = omega arith
  one_frame stamp tick facts (Some pair) = go facts.good
    where
      go : (good : Bool) → sum_in (cond good (refers pair.dest (stamp + 1) tick (gain_in facts) ∷ refers pair.source stamp tick (gain_out facts) ∷ []) (strays pair.source (gain_out facts) ∷ [])) ≤ 2 * (facts.length + 1)
      go true =
          let one = one_refers pair.dest (stamp + 1) tick (gain_in facts) (refers pair.source stamp tick (gain_out facts) ∷ []) in
          let two = one_refers pair.source stamp tick (gain_out facts) [] in
          let a = in_most base facts in let b = out_most base facts in
          omega arith
      go false =
          let one = one_strays pair.source (gain_out facts) [] in
          let b = out_most base facts in
          omega arith

  module _ (source : Val) (row : ℕ) where
    abbrev sum_seen : List Seen → ℕ
    sum_seen seen = sum_in (flat_map (mentioned settings) (filter (λ one. is_interface source one.frame.interface) seen))

    abbrev IsShort : Journal → Type 0
    IsShort journal = AllByRecursion (λ frame. (frame_facts settings frame).length ≤ MOST_OCTETS) (frames_in journal)

    one_seen : (one : Seen) (seen : List Seen) → (frame_facts settings one.frame).length ≤ MOST_OCTETS → sum_seen (one ∷ seen) ≤ 2 * (MOST_OCTETS + 1) + sum_seen seen
    one_seen one seen short = go (is_interface source one.frame.interface)
      where
        rest : List Seen
        rest = filter (λ other. is_interface source other.frame.interface) seen

        go : (t : Bool) → sum_in (flat_map (mentioned settings) (cond t (one ∷ filter (λ other. is_interface source other.frame.interface) seen) (filter (λ other. is_interface source other.frame.interface) seen))) ≤ 2 * (MOST_OCTETS + 1) + sum_seen seen
        go true =
            let facts = frame_facts settings one.frame in
            let parts = sum_both bytes_eq exact settings.hosts (count_of base) address (mentioned settings one) (flat_map (mentioned settings) (filter (λ other. is_interface source other.frame.interface) seen)) in
            let some = one_frame (2 * length (frames_in one.before)) (one.frame.moment / 10) facts facts.pair in
            omega arith
        go false = omega arith

    with_one : (act : Act) (earlier : Journal) → IsShort (act ∷ earlier) → (IsShort earlier → sum_seen (seen_since host_control no_rows earlier (row ∷ [])) ≤ 2 * (MOST_OCTETS + 1) * length (frames_in earlier))
        → sum_seen (with_act act earlier (seen_since host_control no_rows earlier (row ∷ []))) ≤ 2 * (MOST_OCTETS + 1) * length (frames_in (act ∷ earlier))
    with_one (passes frame) earlier short rest =
        let one = one_seen (record { frame = frame; before = earlier }) (seen_since host_control no_rows earlier (row ∷ [])) short.0 in
        let more = rest short.1 in
        omega arith
    with_one (assigns moment values) earlier short rest = rest short
    with_one (samples moment alarm reading) earlier short rest = rest short

    seen_bounded : (journal : Journal) → IsShort journal → sum_seen (seen_since host_control no_rows journal (row ∷ [])) ≤ 2 * (MOST_OCTETS + 1) * length (frames_in journal)
    seen_bounded [] short = omega arith
    seen_bounded (act ∷ earlier) short = go (stays_valid host_control no_rows act earlier (row ∷ [])) (with_one act earlier short (seen_bounded earlier))
      where
        go : (t : Bool) → sum_seen (with_act act earlier (seen_since host_control no_rows earlier (row ∷ []))) ≤ 2 * (MOST_OCTETS + 1) * length (frames_in (act ∷ earlier))
            → sum_seen (cond t (with_act act earlier (seen_since host_control no_rows earlier (row ∷ []))) []) ≤ 2 * (MOST_OCTETS + 1) * length (frames_in (act ∷ earlier))
        go true all = all
        go false all = omega arith

  pub sum_bounded : (journal : Journal) (row : ℕ) → IsMeasured settings journal → sum_in (mentions_of settings journal row) < 2 ^ 64
  sum_bounded journal row measured =
      let all = seen_bounded (control_set journal (row ∷ []) 2) row journal measured.short in
      let few = measured.few in
      omega arith
