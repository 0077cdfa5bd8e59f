-- How the parts of a run that serves make its end.
use Rattle.std.specs.Prelude.{IfErr, OnOk}
use Rattle.std.proofs.Common.{◌≡◌, ◌⊎◌, inl, inr, ℕ, List, [], ◌∷◌, ◌++◌, map, Option, Some, None, Result, Ok, Err, refl, sym, subst, ◌∙◌, arith}
use Rattle.rm_edge.specs.Outside.{Held, File, Adds}
use Rattle.rm_edge.specs.Link.{Datagram, Grows}
use Rattle.rm_edge.specs.Uses.{FileUse, SinkUse, LinkUse, HasPutFault, HasLinkFault}
use Rattle.rm_edge.specs.declared.outside.link.Peer.{Peer}
use Rattle.rm_model.specs.Journal.{Frame}
use Rattle.rm_pcap.specs.Records.{Stop}
use Rattle.rm_pcap.specs.declared.fault.PcapFault.{PcapFault}
use Rattle.rm_pcap.specs.declared.fault.PcapFault.TheVariants.{Magic, Version, LinkType, Included, Original, Late, TooMany, Read, NoMemory as OutOfMemory}
use Rattle.rm_captures.specs.Rounds.{AreCaptureFiles, AreCaptures}
use Rattle.rm_captures.specs.Told.{OfFiles}
use Rattle.rm_captures.specs.declared.fault.CaptureFault.{CaptureFault}
use Rattle.rm_settings.specs.declared.settings.Settings.{Settings}
use Rattle.rm_probe.specs.Capture.{CallsFor, HasReadFaults, helds_of, status_by, status_of}
use Rattle.rm_probe.specs.Output.{HasAdded, IsSaidFront, front_none}
use Rattle.rm_probe.specs.Said.{Said, lines}
use Rattle.rm_probe.specs.Serving.{Arrival, AreAnswered, BindsNone, BindsPort, EndsServing, HasNotBegun, IsIdle, IsServed, ServesExactly, WritesServedFront, asking_of, last_served, served_messages}
use Rattle.rm_probe.specs.Steps.{FailsBy, FindsAnother, IsForeign, JudgesCaptures, ends_by}
use Rattle.rm_probe.specs.Text.{AreSaid}
use Rattle.rm_probe.specs.Turns.{SaysServed, shown_after, shown_before}
use Rattle.rm_probe.specs.declared.output.OutputFault.{OutputFault}
use Rattle.rm_probe.specs.declared.status.Status.{Status}
use Rattle.rm_probe.specs.declared.status.Status.TheVariants.{Done, Usage, BadCapture, BadRequests, ReadFault, WriteFault, NoMemory, LinkFault, TooLong}
use Rattle.rm_probe.proofs.EndLemmas.{AreOther, called_bad, other_calls, other_told}
use Rattle.rm_probe.proofs.FaultLemmas.{OneReading, called_first, not_broken, same_fault}
use Rattle.rm_probe.proofs.FileLemmas.{of_files, told_files}
use Rattle.rm_probe.proofs.InOrderLemmas.{none_in_order}
use Rattle.rm_probe.proofs.OutputLemmas.{front_longer}
use Rattle.rm_probe.proofs.WritingLemmas.{put_rose, send_rose}

-- a port that was bound, and none
pub grows_adds : {A : Type 0} (old new : Option (List A)) (x : A) → Grows old new x → Adds old new (x ∷ [])
grows_adds None new x grows = tt
grows_adds (Some old) new x grows = grows

pub port_bound : (port : ℕ) (arrivals : List Arrival) (link : LinkUse) (status : Status) → Adds link.bound link.bound_after (port ∷ []) → BindsPort port arrivals link status
port_bound port arrivals link Done adds = adds
port_bound port arrivals link Usage adds = inl adds
port_bound port arrivals link (BadCapture interface at) adds = inl adds
port_bound port arrivals link (BadRequests at) adds = inl adds
port_bound port arrivals link ReadFault adds = inl adds
port_bound port arrivals link WriteFault adds = inl adds
port_bound port arrivals link NoMemory adds = inl adds
port_bound port arrivals link LinkFault adds = inl adds
port_bound port arrivals link TooLong adds = inl adds

pub port_unbound : (port : ℕ) (arrivals : List Arrival) (link : LinkUse) (status : Status) → (status ≡ Done → ⊥) → BindsNone arrivals link → BindsPort port arrivals link status
port_unbound port arrivals link Done going none = absurd (going refl)
port_unbound port arrivals link Usage going none = inr none
port_unbound port arrivals link (BadCapture interface at) going none = inr none
port_unbound port arrivals link (BadRequests at) going none = inr none
port_unbound port arrivals link ReadFault going none = inr none
port_unbound port arrivals link WriteFault going none = inr none
port_unbound port arrivals link NoMemory going none = inr none
port_unbound port arrivals link LinkFault going none = inr none
port_unbound port arrivals link TooLong going none = inr none

-- what may be said where no datagram came
served_none : (settings : Settings) (frames : List Frame) (stop : Stop) → IsServed settings frames stop [] (last_served frames stop [] ∷ [])
unfolding AreSaid
served_none settings frames stop = record { events = []; in_order = none_in_order; before = []; are_said = refl; whole = refl }

-- of whatever may be said, nothing is a front
idle_front : (manager : Peer) (out : SinkUse) (link : LinkUse) → IsIdle out link → (said : List Said) → IsSaidFront (manager ∷ []) (asking_of []) out.content out.content_after link.sent link.sent_after said []
idle_front manager out link idle said =
    subst (λ (content : Option (List ℕ)). IsSaidFront (manager ∷ []) (asking_of []) out.content content link.sent link.sent_after said []) (sym idle.unwritten)
    (subst (λ (sent : Option (List Datagram)). IsSaidFront (manager ∷ []) (asking_of []) out.content out.content link.sent sent said []) (sym idle.unsent)
    (front_longer (manager ∷ []) (asking_of []) out.content out.content link.sent link.sent [] [] said (front_none (manager ∷ []) (asking_of []) out.content link.sent)))

-- a run that is done has ended with no fault
pub done_all : (run : Result (Unit {0}) Status) (P : Type 0) → OnOk run P → IfErr run (λ (status : Status). IsForeign status → ⊥) → ends_by run ≡ Done → P
done_all (Ok done) P all loud is = all
done_all (Err status) P all loud is = absurd (loud (subst (λ (s : Status). IsForeign s) (sym is) tt))

module _ (lead : ℕ) where
  -- captures that are refused don't end as done
  pub refused_going : (T : Type 0) (helds : List Held) (Failed : Type 0) (status : Status) → JudgesCaptures {T = T} lead helds Failed (Err status) → status ≡ Done → ⊥
  refused_going T helds Failed status judged is = subst (λ (s : Status). JudgesCaptures {T = T} lead helds Failed (Err s)) is judged

  -- the judgement of captures that are begun again, and aren't: for want of memory, by a failed read, or since other files are there
  pub begins_again : (T : Type 0) (helds : List Held) (Failed : Type 0) (found : CaptureFault) → OfFiles helds (AreCaptureFiles lead) → FindsAnother (AreOther lead helds) ⊥ (status_of found) → (found.fault ≡ Read → Failed)
      → JudgesCaptures {T = T} lead helds Failed (Err (status_of found))
  begins_again T helds Failed found form finds rose = by_fault found.fault refl finds
    where
      by_fault : (fault : PcapFault) → found.fault ≡ fault → FindsAnother (AreOther lead helds) ⊥ (status_by found.interface fault) → JudgesCaptures {T = T} lead helds Failed (Err (status_by found.interface fault))
      by_fault Read is finds = rose is
      by_fault OutOfMemory is finds = tt
      by_fault Magic is finds = other_calls lead helds found.interface Magic form finds
      by_fault Version is finds = other_calls lead helds found.interface Version form finds
      by_fault LinkType is finds = other_calls lead helds found.interface LinkType form finds
      by_fault (Included at) is finds = other_calls lead helds found.interface (Included at) form finds
      by_fault (Original at) is finds = other_calls lead helds found.interface (Original at) form finds
      by_fault (Late at) is finds = other_calls lead helds found.interface (Late at) form finds
      by_fault TooMany is (inl another) = other_calls lead helds found.interface TooMany form another
      by_fault TooMany is (inr never) = absurd never

  module _ (settings : Settings) (manager : Peer) (captures : List FileUse) (out : SinkUse) (link : LinkUse) where
    -- a run that ends by what was judged
    pub refused_ends : (T : Type 0) (Failed : Type 0) (status : Status) → (Failed → HasReadFaults captures) → HasNotBegun [] out link → JudgesCaptures {T = T} lead (helds_of captures) Failed (Err status)
        → EndsServing settings lead manager [] captures out link status
    refused_ends T Failed (BadCapture interface at) risen before judged = (judged, λ told_all. before)
    refused_ends T Failed TooLong risen before judged = (judged, λ told_all. before)
    refused_ends T Failed ReadFault risen before judged = (risen judged, inl before)
    refused_ends T Failed NoMemory risen before judged = before
    refused_ends T Failed status risen before judged = absurd judged

    -- nothing was written or sent, which is the first of what may be said
    pub none_written : OfFiles (helds_of captures) (AreCaptureFiles lead) → IsIdle out link → WritesServedFront settings lead manager [] captures out link
    none_written form idle = (
      form,
      of_files (helds_of captures) (AreCaptureFiles lead) _ (λ files is good frames stop whole. (
        _,
        served_none settings frames stop,
        ([], idle_front manager out link idle _, omega arith),
      )) form,
    )

    -- of the first of what may be said a front was written
    served_front : (arrivals : List Arrival) (said told : List Said) → OfFiles (helds_of captures) (AreCaptureFiles lead)
        → IsSaidFront (manager ∷ []) (asking_of arrivals) out.content out.content_after link.sent link.sent_after said told → AreAnswered arrivals told
        → ((files : List (List ℕ)) (frames : List Frame) (stop : Stop) → helds_of captures ≡ map File files → AreCaptures lead files frames stop → (rest : List Said) × IsServed settings frames stop arrivals (said ++ rest))
        → WritesServedFront settings lead manager arrivals captures out link
    served_front arrivals said told form front answered says = (
      form,
      of_files (helds_of captures) (AreCaptureFiles lead) _ (λ files is good frames stop whole.
          let (rest, served) = says files frames stop is whole in
          (said ++ rest, served, (told, front_longer (manager ∷ []) (asking_of arrivals) out.content out.content_after link.sent link.sent_after said told rest front, answered))) form,
    )

    -- how the run itself ends
    pub served_ends : (arrivals : List Arrival) (said told : List Said) (failed : Option OutputFault) (run : Result (Unit {0}) Status) → OfFiles (helds_of captures) (AreCaptureFiles lead)
        → HasAdded (shown_before out link) (shown_after out link failed) (lines said) (served_messages manager arrivals said)
        → IsSaidFront (manager ∷ []) (asking_of arrivals) out.content out.content_after link.sent link.sent_after said told → AreAnswered arrivals told → FailsBy failed run
        → ((files : List (List ℕ)) (frames : List Frame) (stop : Stop) → helds_of captures ≡ map File files → AreCaptures lead files frames stop → SaysServed settings frames stop arrivals said run)
        → FindsAnother (AreOther lead (helds_of captures)) ⊥ (ends_by run) → (run ≡ Err ReadFault → HasReadFaults captures) → IfErr run (λ (status : Status). IsForeign status → ⊥)
        → EndsServing settings lead manager arrivals captures out link (ends_by run)
    served_ends arrivals said told failed (Ok done) form added front answered fails says finds reads loud = (
      form,
      of_files (helds_of captures) (AreCaptureFiles lead) _ (λ files is good frames stop whole. (said, says files frames stop is whole, (added.puts.whole fails, added.sends.whole fails))) form,
    )
    served_ends arrivals said told failed (Err WriteFault) form added front answered fails says finds reads loud = (put_rose _ _ said _ added refl fails, served_front arrivals said told form front answered says)
    served_ends arrivals said told failed (Err LinkFault) form added front answered fails says finds reads loud = (send_rose _ _ said _ added refl fails, served_front arrivals said told form front answered says)
    served_ends arrivals said told failed (Err ReadFault) form added front answered fails says finds reads loud = (reads refl, inr (served_front arrivals said told form front answered says))
    served_ends arrivals said told failed (Err (BadCapture interface at)) form added front answered fails says finds reads loud =
        (other_calls lead (helds_of captures) interface (Included at) form finds, other_told lead (HasNotBegun arrivals out link) (helds_of captures) form finds)
    served_ends arrivals said told failed (Err TooLong) form added front answered fails says (inl finds) reads loud =
        (other_calls lead (helds_of captures) 1 TooMany form finds, other_told lead (HasNotBegun arrivals out link) (helds_of captures) form finds)
    served_ends arrivals said told failed (Err TooLong) form added front answered fails says (inr never) reads loud = absurd never
    served_ends arrivals said told failed (Err Done) form added front answered fails says finds reads loud = absurd (loud tt)
    served_ends arrivals said told failed (Err Usage) form added front answered fails says finds reads loud = absurd (loud tt)
    served_ends arrivals said told failed (Err (BadRequests at)) form added front answered fails says finds reads loud = absurd (loud tt)
    served_ends arrivals said told failed (Err NoMemory) form added front answered fails says finds reads loud = absurd (loud tt)

    -- nothing else is called for
    good : OneReading → (status : Status) → OfFiles (helds_of captures) (AreCaptureFiles lead)
        → ((HasReadFaults captures → ⊥) → (HasPutFault out → ⊥) → (HasLinkFault link → ⊥) → (status ≡ Done) ⊎ (status ≡ NoMemory)) → ServesExactly lead captures out link status
    good one status form complete = record {
      bad_capture = λ files found is broken. absurd (not_broken one lead files found broken (told_files (helds_of captures) files (AreCaptureFiles lead) is form));
      complete = λ files is good unread unput unlinked. complete unread unput unlinked;
    }

    bad : OneReading → (status : Status) → CallsFor lead status (helds_of captures) → ServesExactly lead captures out link status
    bad one status calls = record {
      bad_capture = λ files found is broken.
          let (first, ends, is_first) = called_first lead (helds_of captures) files status is calls in inl (ends ∙ same_fault one lead files first found is_first broken);
      complete = λ files is good unread unput unlinked. absurd (called_bad lead one (helds_of captures) files status is calls good);
    }

    pub serves_exactly : OneReading → (arrivals : List Arrival) (status : Status) → EndsServing settings lead manager arrivals captures out link status → ServesExactly lead captures out link status
    serves_exactly one arrivals Done ends = good one Done ends.0 (λ unread unput unlinked. inl refl)
    serves_exactly one arrivals WriteFault ends = good one WriteFault ends.1.0 (λ unread unput unlinked. absurd (unput ends.0))
    serves_exactly one arrivals LinkFault ends = good one LinkFault ends.1.0 (λ unread unput unlinked. absurd (unlinked ends.0))
    serves_exactly one arrivals ReadFault ends = record {
      bad_capture = λ files found is broken. inr (inr refl);
      complete = λ files is good unread unput unlinked. absurd (unread ends.0);
    }
    serves_exactly one arrivals NoMemory ends = record { bad_capture = λ files found is broken. inr (inl refl); complete = λ files is good unread unput unlinked. inr refl }
    serves_exactly one arrivals (BadCapture interface at) ends = bad one (BadCapture interface at) ends.0
    serves_exactly one arrivals TooLong ends = bad one TooLong ends.0
    serves_exactly one arrivals status ends = absurd ends
