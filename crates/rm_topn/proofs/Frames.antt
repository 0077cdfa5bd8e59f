-- What is kept of reports takes a frame.
use Rattle.std.proofs.Common.{◌≡◌, ℕ, ◌≤◌, ◌∷◌, false, Option, Some, None}
use Rattle.std.specs.Option.{option_and_then}
use Rattle.rm_model.specs.Counting.{Counting}
use Rattle.rm_model.specs.Journal.{Frame, Journal, passes, last_moment}
use Rattle.rm_collect.specs.Rows.{IsKept}
use Rattle.rm_topn.specs.declared.course.Course.{Course}
use Rattle.rm_topn.specs.declared.course.Run.{Run}
use Rattle.rm_topn.specs.Control.{top_control}
use Rattle.rm_topn.specs.Courses.{end_at}
use Rattle.rm_topn.specs.Kept.{IsCourse}
use Rattle.rm_topn.proofs.Going.{frame_passes}

pub kept_frame : (settings : Counting) (journal : Journal) (frame : Frame) (row : ℕ) (o : Option Course) → last_moment journal ≤ frame.moment
    → ((run : Run) → option_and_then (λ course. course.run) o ≡ Some run → run.runs ≡ false → end_at run ≤ frame.moment)
    → IsKept top_control IsCourse settings journal row o → IsKept top_control IsCourse settings (passes frame ∷ journal) row o
kept_frame settings journal frame row None later ended idle = idle
kept_frame settings journal frame row (Some course) later ended is = (is.0, frame_passes settings frame journal row course later ended is.1)
