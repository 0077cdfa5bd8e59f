-- That the samples of alarms make no difference to reports.
use Rattle.std.proofs.Common.{ℕ, ◌≤◌, [], ◌∷◌, Option, Some, None, refl, ◌∙◌, ap, arith}
use Rattle.std.specs.Prelude.{ℤ}
use Rattle.rm_model.specs.ControlRows.{no_rows, is_valid}
use Rattle.rm_model.specs.Counting.{Counting}
use Rattle.rm_model.specs.Journal.{Journal, samples, last_moment}
use Rattle.rm_status.proofs.RowsAfterLemmas.{rows_samples, state_sampled}
use Rattle.rm_pool.specs.Slots.{part_in}
use Rattle.rm_collect.specs.Rows.{IsKept}
use Rattle.rm_topn.specs.declared.course.Course.{Course}
use Rattle.rm_topn.specs.declared.reports.Reports.{Reports}
use Rattle.rm_topn.specs.Control.{top_control}
use Rattle.rm_topn.specs.ControlColumns.{set_to}
use Rattle.rm_topn.specs.Held.{AreAskable}
use Rattle.rm_topn.specs.Kept.{IsCourse}
use Rattle.rm_topn.specs.Standing.{Stands}
use Rattle.rm_topn.specs.Lasting.{sample_passes}

module _ (settings : Counting) (journal : Journal) (moment alarm : ℕ) (reading : Option ℤ) (later : last_moment journal ≤ moment) where
  abbrev sampled : Journal
  sampled = samples moment alarm reading ∷ journal

  kept_sampled : (row : ℕ) (o : Option Course) → IsKept top_control IsCourse settings journal row o → IsKept top_control IsCourse settings sampled row o
  kept_sampled row None idle = ap is_valid (state_sampled top_control no_rows refl journal moment alarm reading (row ∷ [])) ∙ idle
  kept_sampled row (Some course) is = (
    state_sampled top_control no_rows refl journal moment alarm reading (row ∷ []) ∙ is.0,
    sample_passes settings moment alarm reading journal row course later is.1,
  )

  pub stands_sampled : (reports : Reports) → AreAskable reports.courses moment → Stands reports settings journal → Stands reports settings sampled
  stands_sampled reports asked stands = record {
    held = record {
      rows = rows_samples top_control no_rows set_to refl reports.rows journal moment alarm reading stands.held.rows;
      given = stands.held.given;
      measured = record { few = stands.held.measured.few; short = stands.held.measured.short };
    };
    courses = λ row. kept_sampled row (part_in reports.courses row) (stands.courses row);
    timely = λ row run here runs. let now = asked row run here runs in let earlier = stands.timely row run here runs in omega (arith, now, earlier);
  }
