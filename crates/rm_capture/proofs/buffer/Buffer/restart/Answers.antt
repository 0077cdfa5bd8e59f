use Rattle.std.proofs.Common.{[], subst}
use Rattle.rm_capture.specs.Captured.{HasKept, wraps}
use Rattle.rm_capture.specs.InRange.{slice_kept}
use Rattle.rm_capture.proofs.buffer.Buffer.restart.Goals as goal

pub returns-clause-kept : goal.returns-clause-kept
returns-clause-kept c settings =
    let columns = c.args.columns.now in
    subst (λ granted. HasKept c.begin.new.self settings (wraps columns.full_action) (slice_kept columns) granted []) c.granted-self.ensures
    (c.begin.ensures.kept settings (slice_kept columns) c.slice.ensures.value)
