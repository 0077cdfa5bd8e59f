use Rattle.std.proofs.lemmas.Result.{err_from_is_err_and}
use Rattle.std.proofs.Common.{◌≡◌, ◌-◌, [], ◌++◌, List, arith, map, refl, subst}
use Rattle.rm_model.specs.Journal.{Frame}
use Rattle.rm_captures.specs.Left.{passed_of}
use Rattle.rm_captures.specs.Reading.{texts}
use Rattle.rm_requests.specs.Reading.{reached_of}
use Rattle.rm_captures.specs.Merge.{frames_after}
use Rattle.rm_probe.specs.Probe.{settings_of}
use Rattle.rm_probe.specs.Said.{Notified}
use Rattle.rm_probe.specs.Steps.{Advanced, IsLastLine, IsLastSaid, SaysNext}
use Rattle.rm_probe.proofs.SayingLemmas.{says_both}
use Rattle.rm_edge.proofs.Keeping.{keeps_then}
use Rattle.rm_captures.proofs.NameLemmas.{rose_still}
use Rattle.rm_captures.proofs.RoundLemmas.{held_still}
use Rattle.rm_probe.proofs.StepLemmas.{last_after, stops_open, stops_saying}
use Rattle.rm_probe.proofs.replaying.Replaying.write_last.Goals as goal

pub returns-in_err-advance-clause-failed : goal.returns-in_err-advance-clause-failed
returns-in_err-advance-clause-failed g c = stops_open _ _ (err_from_is_err_and c.from_residual.result c.from_residual.ensures.1) c.in_err-advance.ensures.kinds _

pub returns-in_err-advance-clause-says : goal.returns-in_err-advance-clause-says
returns-in_err-advance-clause-says g c =
    let (passed, noted, goes) = c.in_err-advance.ensures.says in
    (map Notified passed, noted, stops_saying _ _ (err_from_is_err_and c.from_residual.result c.from_residual.ensures.1) c.in_err-advance.ensures.kinds (g.F.Shelf.held c.args.shelf.now) (texts c.args.names.now) c.args.self.now.captures.items c.args.self.now.probe 4294967295 (λ files frames stop journal said. Advanced (settings_of c.args.self.now.probe) 4294967295 files c.advance.new.self.captures.items c.advance.new.self.probe (passed_of c.args.self.now.captures.items) frames stop journal passed) (λ files. IsLastSaid (settings_of c.args.self.now.probe) (passed_of c.args.self.now.captures.items) ((reached_of c.args.requests.now).number - 1)) (map Notified passed) goes)

pub returns-clause-says : goal.returns-clause-says
returns-clause-says g c =
    let (passed, noted, goes) = c.in_ok-advance.ensures.says in
    let (last, says, next, untold) = c.put_last.ensures.says in
    let asked : c.passed.result ≡ (reached_of c.args.requests.now).number - 1 = omega (arith, c.passed.ensures) in (
      map Notified passed ++ last,
      says_both g.O.Notes.since c.args.out.now c.advance.new.notes c.put_last.new.out _ _ noted says,
      λ files frames stop journal are left stands.
          let a = goes files frames stop journal are left stands in
          let none = c.in_ok-advance.ensures.all refl files frames stop journal are left stands in
          let there = next files (frames_after 4294967295 frames) stop (held_still _ _ _ files c.in_ok-advance.ensures.shelf.constant are) a.left in
          last_after (settings_of c.args.self.now.probe) files c.advance.new.self.captures.items c.advance.new.self.probe (passed_of c.args.self.now.captures.items) frames stop journal passed ((reached_of c.args.requests.now).number - 1) last a none c.put_last.result
          (rw asked at (subst (λ (fs : List Frame). SaysNext (IsLastLine (passed_of c.advance.new.self.captures.items) c.passed.result fs stop) (λ later. later ≡ []) last c.put_last.result) none there)),
    )

pub put_last-requires : goal.put_last-requires
put_last-requires g c = record { few = c.requires.few; captured = omega (arith, c.in_ok-advance.ensures.keeps.all, c.requires.few) }

pub returns-clause-shelf : goal.returns-clause-shelf
returns-clause-shelf g c =
    keeps_then g.F.Shelf.held g.F.Shelf.faults c.args.shelf.now c.advance.new.shelf c.put_last.new.shelf _ _ _ _ _ _ c.in_ok-advance.ensures.shelf c.put_last.ensures.shelf (λ each is. is) (λ each is. is) (λ e. absurd cc) (λ e. e)

pub returns-clause-reads : goal.returns-clause-reads
returns-clause-reads g c = λ is. rose_still _ (g.F.Shelf.faults c.advance.new.shelf) _ (texts c.args.names.now) (c.in_ok-advance.ensures.shelf.quiet (λ e. cc)) (c.put_last.ensures.reads is)
