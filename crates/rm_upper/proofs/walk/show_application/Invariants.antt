use Rattle.std.proofs.Common.{◌≡◌, drop}
use Rattle.rm_layers.specs.Applications.{application_at}
use Rattle.rm_upper.specs.Shown.{shown_all, protocols}
use Rattle.rm_upper.proofs.walk.show_application.Given as goal

abbrev pub invariant-loop-place : goal.invariant-loop-place
invariant-loop-place g l = application_at l.protocol (protocols (drop l.place l.slots)) (shown_all (drop l.place l.slots) (drop l.place l.applications))
    ≡ application_at l.protocol (protocols l.slots) (shown_all l.slots l.applications)
