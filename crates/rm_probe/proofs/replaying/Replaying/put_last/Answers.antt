use Rattle.std.proofs.lemmas.Result.{err_from_is_err_and}
use Rattle.std.proofs.Common.{◌≡◌, ◌∙◌, ◌∷◌, [], ap, refl}
use Rattle.rm_captures.specs.Left.{passed_of}
use Rattle.rm_probe.specs.Said.{Said, Last, is_cut_behind}
use Rattle.rm_probe.specs.Steps.{IsLastLine}
use Rattle.rm_probe.proofs.SayingLemmas.{says_nothing}
use Rattle.rm_probe.proofs.StepLemmas.{fails_told, says_told, stops_known, stops_open, unread_last}
use Rattle.rm_probe.proofs.replaying.Replaying.put_last.Goals as goal

pub passed-frames-requires : goal.passed-frames-requires
passed-frames-requires g c = record { few = rw c.deref.ensures.value c.requires.captured }

pub returns-in_err-is_cut-clause-failed : goal.returns-in_err-is_cut-clause-failed
returns-in_err-is_cut-clause-failed g c = stops_open _ _ (err_from_is_err_and c.from_residual.result c.from_residual.ensures.1) c.in_err-is_cut.ensures.kinds _

pub returns-in_err-is_cut-clause-loud : goal.returns-in_err-is_cut-clause-loud
returns-in_err-is_cut-clause-loud g c = stops_known _ _ (err_from_is_err_and c.from_residual.result c.from_residual.ensures.1) c.in_err-is_cut.ensures.kinds

pub returns-in_err-is_cut-clause-says : goal.returns-in_err-is_cut-clause-says
returns-in_err-is_cut-clause-says g c =
    let p = err_from_is_err_and c.from_residual.result c.from_residual.ensures.1 in (
      [],
      says_nothing g.O.Notes.since c.args.out.now,
      λ files frames stop are left. rw (p.1, p.2) (unread_last (IsLastLine (passed_of c.args.self.now.captures.items) c.args.requests frames stop) c.in_err-is_cut.field-0.0 (c.in_err-is_cut.ensures.ends files frames stop are left)),
      λ managers asking. refl,
    )

pub returns-clause-failed : goal.returns-clause-failed
returns-clause-failed g c = rw c.told.ensures (fails_told (g.O.Outlet.failed c.last.new.self) c.last.result c.last.ensures.failed)

pub returns-clause-says : goal.returns-clause-says
returns-clause-says g c = (
  Last c.in_ok-is_cut.is_cut c.passed-frames.result c.args.requests ∷ [],
  c.last.ensures.says,
  λ files frames stop are left. rw c.told.ensures (says_told (IsLastLine (passed_of c.args.self.now.captures.items) c.args.requests frames stop) (λ notes. notes ≡ []) _ c.last.result
      (ap (λ (last : Said). last ∷ [])
      (ap (λ cut. Last cut c.passed-frames.result c.args.requests) (c.in_ok-is_cut.ensures.ends files frames stop are left)
      ∙ ap (λ count. Last (is_cut_behind frames stop) count c.args.requests) (c.passed-frames.ensures.count ∙ ap passed_of c.deref.ensures.value)))),
  λ managers asking. refl,
)
