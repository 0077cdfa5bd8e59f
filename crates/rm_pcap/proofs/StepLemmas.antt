-- What a caller of `next` knows by the step that it got.
use Rattle.std.proofs.Common.{◌≡◌, ℕ, List, None, Ok, sym, subst}
use Rattle.rm_model.specs.Journal.{Frame as Passed}
use Rattle.rm_edge.specs.Outside.{Held, File}
use Rattle.rm_pcap.specs.declared.reach.Reach.{Reach}
use Rattle.rm_pcap.specs.declared.frame.Frame.{Frame}
use Rattle.rm_pcap.specs.declared.frame.Step.TheVariants.{Next, End, Cut}
use Rattle.rm_pcap.specs.Records.{Stop, Ended, CutAt, Broken}
use Rattle.rm_pcap.specs.Steps.{Found, Whole, Stops}
use Rattle.rm_pcap.specs.Progress.{Progress, Agrees, IsLawful, Shows, next_in, looking_at}
use Rattle.rm_pcap.specs.Calls.{Passes, Steps}

-- a record was passed
pub record PassedOne (held : Held) (old new : Progress) (frame : Frame) : Type 0 where
  pub passed : Passed
  pub after : Reach
  pub shows : Shows (Next frame) (Whole passed after)
  pub lawful : IsLawful old.reach passed after
  pub place : new ≡ record old { reach = after; ahead = None; read = new.read }
  pub found : (bytes : List ℕ) → held ≡ File bytes → Agrees old bytes → next_in old bytes ≡ Whole passed after
  pub agrees : (bytes : List ℕ) → held ≡ File bytes → Agrees old bytes → Agrees new bytes

passed_found : (held : Held) (old new : Progress) (frame : Frame) (found : Found) → Passes held old new found → Shows (Next frame) found → PassedOne held old new frame
passed_found held old new frame (Whole passed after) passes shows = record {
  passed = passed;
  after = after;
  shows = shows;
  lawful = passes.finds.lawful;
  place = passes.place;
  found = λ bytes file agrees. sym (passes.finds.stands bytes file agrees);
  agrees = passes.finds.agrees;
}
passed_found held old new frame (Stops stop) passes shows = absurd shows

pub passed_one : (held : Held) (old new : Progress) (frame : Frame) → Steps held old new (Ok (Next frame)) → PassedOne held old new frame
passed_one held old new frame steps = passed_found held old new frame steps.0 steps.1 steps.2

-- no record was left
pub record NonePassed (held : Held) (old new : Progress) (stop : Stop) : Type 0 where
  pub place : new ≡ looking_at old (Stops stop) new.read
  pub found : (bytes : List ℕ) → held ≡ File bytes → Agrees old bytes → next_in old bytes ≡ Stops stop
  pub agrees : (bytes : List ℕ) → held ≡ File bytes → Agrees old bytes → Agrees new bytes

none_passed : (held : Held) (old new : Progress) (stop : Stop) → Passes held old new (Stops stop) → NonePassed held old new stop
none_passed held old new stop passes = record {
  place = passes.place;
  found = λ bytes file agrees. sym (passes.finds.stands bytes file agrees);
  agrees = passes.finds.agrees;
}

end_found : (held : Held) (old new : Progress) (found : Found) → Passes held old new found → Shows End found → NonePassed held old new Ended
end_found held old new (Whole passed after) passes shows = absurd shows
end_found held old new (Stops Ended) passes shows = none_passed held old new Ended passes
end_found held old new (Stops (CutAt place)) passes shows = absurd shows
end_found held old new (Stops (Broken fault)) passes shows = absurd shows

pub at_end : (held : Held) (old new : Progress) → Steps held old new (Ok End) → NonePassed held old new Ended
at_end held old new steps = end_found held old new steps.0 steps.1 steps.2

cut_found : (held : Held) (old new : Progress) (at : ℕ) (found : Found) → Passes held old new found → Shows (Cut at) found → NonePassed held old new (CutAt at)
cut_found held old new at (Whole passed after) passes shows = absurd shows
cut_found held old new at (Stops Ended) passes shows = absurd shows
cut_found held old new at (Stops (CutAt place)) passes shows =
    subst (λ (p : ℕ). NonePassed held old new (CutAt p)) (sym shows) (none_passed held old new (CutAt place) passes)
cut_found held old new at (Stops (Broken fault)) passes shows = absurd shows

pub at_cut : (held : Held) (old new : Progress) (at : ℕ) → Steps held old new (Ok (Cut at)) → NonePassed held old new (CutAt at)
at_cut held old new at steps = cut_found held old new at steps.0 steps.1 steps.2
