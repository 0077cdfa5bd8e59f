use Rattle.std.proofs.lemmas.Result.{err_from_is_err_and}
use Rattle.std.proofs.Common.{◌∷◌, [], ◌++◌, map, inl, inr, refl}
use Rattle.rm_captures.specs.Left.{passed_of}
use Rattle.rm_captures.specs.Reading.{texts}
use Rattle.rm_probe.specs.Probe.{settings_of}
use Rattle.rm_probe.specs.Said.{Notified, Responded}
use Rattle.rm_probe.specs.Steps.{Advanced, HasBegun, IsNextSaid, timed}
use Rattle.rm_probe.proofs.SayingLemmas.{says_both}
use Rattle.rm_probe.proofs.StepLemmas.{fails_told, is_response, next_is, says_told, stops_open, stops_saying}
use Rattle.rm_probe.proofs.TurnLemmas.{on_done}
use Rattle.rm_probe.proofs.FrameLemmas.{keeps_answered}
use Rattle.rm_probe.proofs.replaying.Replaying.handle_to.Goals as goal

pub returns-in_err-advance-clause-failed : goal.returns-in_err-advance-clause-failed
returns-in_err-advance-clause-failed g c = stops_open _ _ (err_from_is_err_and c.from_residual.result c.from_residual.ensures.1) c.in_err-advance.ensures.kinds _

pub returns-in_err-advance-clause-says : goal.returns-in_err-advance-clause-says
returns-in_err-advance-clause-says g c =
    let (passed, noted, goes) = c.in_err-advance.ensures.says in
    (map Notified passed, noted, stops_saying _ _ (err_from_is_err_and c.from_residual.result c.from_residual.ensures.1) c.in_err-advance.ensures.kinds (g.F.Shelf.held c.args.shelf.now) (texts c.args.names.now) c.args.self.now.captures.items c.args.self.now.probe c.args.request.moment (λ files frames stop journal said. Advanced (settings_of c.args.self.now.probe) c.args.request.moment files c.advance.new.self.captures.items c.advance.new.self.probe (passed_of c.args.self.now.captures.items) frames stop journal passed) (λ files. IsNextSaid files c.args.self.now.captures.items c.advance.new.self.captures.items (settings_of c.args.self.now.probe) c.advance.new.self.probe c.args.request.number (timed c.args.request)) (map Notified passed) goes, inr (passed, refl), rw (err_from_is_err_and c.from_residual.result c.from_residual.ensures.1).1 tt)

pub returns-clause-failed : goal.returns-clause-failed
returns-clause-failed g c = rw c.told.ensures (fails_told (g.O.Outlet.failed c.answer.new.out) c.answer.result c.answer.ensures.failed)

pub returns-clause-says : goal.returns-clause-says
returns-clause-says g c =
    let (passed, noted, goes) = c.in_ok-advance.ensures.says in
    let (told, response, says, answers) = c.answer.ensures.answers in (
      map Notified passed ++ (map Notified told ++ Responded c.args.request.number c.args.request.moment response ∷ []),
      says_both g.O.Notes.since c.args.out.now c.advance.new.notes c.answer.new.out _ _ noted says,
      λ files frames stop journal are left stands.
          rw c.told.ensures (says_told
          (IsNextSaid files c.args.self.now.captures.items c.advance.new.self.captures.items (settings_of c.args.self.now.probe) c.answer.new.probe c.args.request.number (timed c.args.request) frames stop journal)
          (HasBegun (settings_of c.args.self.now.probe) c.args.request.moment frames journal) _ c.answer.result
          (next_is files c.args.self.now.captures.items c.advance.new.self.captures.items (settings_of c.args.self.now.probe) c.advance.new.self.probe c.answer.new.probe c.args.request.number (timed c.args.request) frames stop journal passed told response
          (goes files frames stop journal are left stands) c.in_ok-advance.ensures.settings answers)),
      inl (is_response c.args.request.number c.args.request.moment passed told response),
      on_done _ c.told.result (is_response c.args.request.number c.args.request.moment passed told response),
    )

pub returns-clause-keeps : goal.returns-clause-keeps
returns-clause-keeps g c =
    on_done _ c.told.result (keeps_answered _ c.args.request.moment c.advance.new.self.probe c.answer.new.probe c.advance.new.self.captures.items c.answer.ensures.last c.answer.ensures.frames c.in_ok-advance.ensures.keeps)
