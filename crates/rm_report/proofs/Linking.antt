-- The mentions of a control row since an earlier journal.
use Rattle.std.proofs.Common.{◌≡◌, ℕ, ◌+◌, ◌*◌, ◌/◌, ◌<◌, ◌≤◌, Bool, true, false, cond, List, [], ◌∷◌, ◌++◌, length, filter, sym, ap, ◌∙◌, arith, subst, Option, Some, None}
use Rattle.std.specs.Prelude.{flat_map}
use Rattle.std.specs.List.{AllByRecursion}
use Rattle.std.proofs.lemmas.List.{append-nil}
use Rattle.std.proofs.lemmas.List.Concat.{flat_map-append}
use Rattle.std.proofs.lemmas.List.Elements.{filter-append}
use Rattle.rm_val.specs.Val.{Val}
use Rattle.rm_model.specs.Counting.{Counting}
use Rattle.rm_model.specs.Journal.{Journal, frames_in}
use Rattle.rm_model.specs.Interfaces.{is_interface}
use Rattle.rm_model.specs.FrameFacts.{frame_facts}
use Rattle.rm_model.specs.ControlRows.{no_rows}
use Rattle.rm_proto.specs.declared.known.Facts.{Facts}
use Rattle.rm_proto.specs.declared.ethernet.Pair.{Pair}
use Rattle.rm_acts.specs.Seen.{Seen, seen_since}
use Rattle.rm_evicting.specs.Mention.{refers, strays}
use Rattle.rm_evicting.specs.Held.{AllStamps, AllBefore}
use Rattle.rm_hosts.specs.Control.{host_control, control_set}
use Rattle.rm_hosts.specs.Counts.{gain_in, gain_out}
use Rattle.rm_hosts.specs.Mentions.{HostMention, mentioned, mentioned_by, mentions_of}
use Rattle.rm_report.specs.Linked.{AreLater, HasSeen, IsLinked, goes_on as seen_on, begins_anew as seen_anew}
use Rattle.rm_report.specs.Rates.{mentions_after}
use Rattle.rm_report.proofs.Persist.{AllFrom}
use Rattle.rm_report.proofs.Gained.{Goes, goes_on, begins_anew}
use Rattle.rm_report.proofs.SeenLaws.{IsEarlier, after, all_after, none_after, seen_earlier}

stamps_both : (P : ℕ → Type 0) (one other : List HostMention) → AllStamps P one → AllStamps P other → AllStamps P (one ++ other)
stamps_both P [] other a b = b
stamps_both P (refers key stamp tick gain ∷ one) other a b = (a.0, stamps_both P one other a.1 b)
stamps_both P (strays key gain ∷ one) other a b = stamps_both P one other a b

module _ (settings : Counting) where
  -- the mentions of frames of a data source
  abbrev mentions_in : Val → List Seen → List HostMention
  mentions_in source seen = flat_map (mentioned settings) (filter (λ one. is_interface source one.frame.interface) seen)

  stamps_one : (P : ℕ → Type 0) (stamp tick : ℕ) (facts : Facts) (pair : Option Pair) → P stamp → P (stamp + 1) → AllStamps P (mentioned_by stamp tick facts pair)
  stamps_one P stamp tick facts None first second = tt
  stamps_one P stamp tick facts (Some pair) first second = go facts.good
    where
      go : (good : Bool) → AllStamps P (cond good (refers pair.dest (stamp + 1) tick (gain_in facts) ∷ refers pair.source stamp tick (gain_out facts) ∷ []) (strays pair.source (gain_out facts) ∷ []))
      go true = (second, (first, tt))
      go false = tt

  -- what is so of no mentions, of those of two runs and of those of each frame is so of those of all frames of a data source
  module _ (Q : List HostMention → Type 0) (none : Q []) (both : (one other : List HostMention) → Q one → Q other → Q (one ++ other))
      (P : Seen → Type 0) (each : (one : Seen) → P one → Q (mentioned settings one)) (source : Val) where
    of_seen : (seen : List Seen) → AllByRecursion P seen → Q (mentions_in source seen)
    of_seen [] all = none
    of_seen (one ∷ seen) all = go (is_interface source one.frame.interface) (of_seen seen all.1)
      where
        go : (t : Bool) → Q (mentions_in source seen) → Q (flat_map (mentioned settings) (cond t (one ∷ filter (λ other. is_interface source other.frame.interface) seen) (filter (λ other. is_interface source other.frame.interface) seen)))
        go true rest = both (mentioned settings one) (mentions_in source seen) (each one all.0) rest
        go false rest = rest

  module _ (from : Journal) where
    abbrev least : ℕ
    least = 2 * length (frames_in from)

    from_seen : (source : Val) (seen : List Seen) → AreLater from seen → AllFrom least (mentions_in source seen)
    from_seen =
        of_seen (AllFrom least) tt (stamps_both (λ stamp. least ≤ stamp)) (λ one. (length from ≤ length one.before) × (length (frames_in from) ≤ length (frames_in one.before)))
        (λ one later.
        let facts = frame_facts settings one.frame in
        stamps_one (λ stamp. least ≤ stamp) (2 * length (frames_in one.before)) (one.frame.moment / 10) facts facts.pair (omega (arith, later.1)) (omega (arith, later.1)))

    before_seen : (source : Val) (seen : List Seen) → AllByRecursion (IsEarlier from) seen → AllBefore least (mentions_in source seen)
    before_seen =
        of_seen (AllBefore least) tt (stamps_both (λ stamp. stamp < least)) (IsEarlier from)
        (λ one earlier.
        let facts = frame_facts settings one.frame in
        stamps_one (λ stamp. stamp < least) (2 * length (frames_in one.before)) (one.frame.moment / 10) facts facts.pair (omega (arith, earlier.1)) (omega (arith, earlier.1)))

  mentions_both : (source : Val) (one other : List Seen) → mentions_in source (one ++ other) ≡ mentions_in source one ++ mentions_in source other
  mentions_both source one other =
      ap (flat_map (mentioned settings)) (filter-append (λ (seen : Seen). is_interface source seen.frame.interface) one other)
      ∙ flat_map-append (mentioned settings) (filter (λ seen. is_interface source seen.frame.interface) one) (filter (λ seen. is_interface source seen.frame.interface) other)

  module _ (from journal : Journal) (row : ℕ) where
    abbrev early : List HostMention
    early = mentions_of settings from row

    abbrev now : List HostMention
    now = mentions_of settings journal row

    abbrev source_now : Val
    source_now = control_set journal (row ∷ []) 2

    abbrev seen_now : List Seen
    seen_now = seen_since host_control no_rows journal (row ∷ [])

    abbrev seen_then : List Seen
    seen_then = seen_since host_control no_rows from (row ∷ [])

    pub early_before : AllBefore (2 * length (frames_in from)) early
    early_before = before_seen from (control_set from (row ∷ []) 2) seen_then (seen_earlier host_control (row ∷ []) from)

    abbrev GoesNow : List HostMention → List HostMention → Type 0
    GoesNow mentions later = Goes (2 * length (frames_in from)) early mentions later

    by_seen : HasSeen from journal row → GoesNow now (mentions_after settings from journal row)
    by_seen (seen_anew later) =
        subst (λ (said : List HostMention). GoesNow now said) (sym (ap (mentions_in source_now) (all_after from seen_now later)))
        (begins_anew now (from_seen from source_now seen_now later))
    by_seen (seen_on later after_from same source) =
        let said : List HostMention = mentions_in source_now later in
        let all : now ≡ said ++ early =
        ap (mentions_in source_now) same ∙ mentions_both source_now later seen_then ∙ ap (λ s. said ++ mentions_in s seen_then) source in
        let those : filter (after from) seen_now ≡ later =
        ap (filter (after from)) same ∙ filter-append (after from) later seen_then
        ∙ (λ d. all_after from later after_from d ++ none_after from seen_then (seen_earlier host_control (row ∷ []) from) d) ∙ append-nil later in
        subst (λ (mentions : List HostMention). GoesNow mentions (mentions_after settings from journal row)) (sym all)
        (subst (λ (after_it : List HostMention). GoesNow (said ++ early) after_it) (sym (ap (mentions_in source_now) those))
        (goes_on said (from_seen from source_now later after_from)))

    -- the mentions go on from those at the earlier journal, or came all after it
    pub mentions_go : IsLinked from journal row → GoesNow now (mentions_after settings from journal row)
    mentions_go linked = by_seen linked.seen
