use Rattle.std.proofs.Common.{ℕ, ◌≤◌, ap, subst, arith}
use Rattle.rm_group.specs.declared.bounds.TheConstants.{MOST_OCTETS}
use Rattle.rm_model.specs.ControlRows.{no_rows}
use Rattle.rm_status.proofs.RowsAfterLemmas.{rows_passes}
use Rattle.rm_pool.specs.Slots.{part_in}
use Rattle.rm_topn.specs.Control.{top_control}
use Rattle.rm_topn.specs.ControlColumns.{set_to}
use Rattle.rm_topn.specs.Courses.{end_at}
use Rattle.rm_topn.proofs.Frames.{kept_frame}
use Rattle.rm_topn.proofs.reports.Reports.frame.Goals as goal

pub returns-clause-stands : goal.returns-clause-stands
returns-clause-stands c settings journal frame stands later asked known at =
    let reports = c.args.self.now in
    let held = stands.held in
    record {
      held = record {
        rows = rows_passes top_control no_rows set_to reports.rows journal frame held.rows;
        given = omega (arith, held.given);
        measured = record { few = omega (arith, held.given, c.requires.room); short = (subst (λ (n : ℕ). n ≤ MOST_OCTETS) (ap (λ f. f.length) known) c.requires.length, held.measured.short) };
      };
      courses = λ row.
          kept_frame settings journal frame row (part_in reports.courses row) (omega (arith, later, at)) (λ run here over. let by : end_at run ≤ reports.last = reports.ended row run here over in omega (arith, by, at, c.requires.later)) (stands.courses row);
      timely = λ row run here runs. let later = asked row run here runs in omega (arith, later, at);
    }
