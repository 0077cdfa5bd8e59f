-- A history that has just begun is that of its row.
use Rattle.std.proofs.Common.{◌≡◌, ℕ, ◌*◌, ◌≤◌, [], ◌∷◌, refl, sym, ap, ◌∙◌, arith}
use Rattle.rm_val.specs.Val.{name}
use Rattle.rm_model.specs.Counting.{Counting}
use Rattle.rm_model.specs.Interfaces.{interface_name, frames_of}
use Rattle.rm_model.specs.Journal.{Journal, last_moment, frames_in}
use Rattle.rm_val.specs.Contents.{natural_in}
use Rattle.rm_collect.specs.Rows.{IsFresh}
use Rattle.rm_ether.specs.declared.counter.Counter.{Counter}
use Rattle.rm_history.specs.declared.control_columns.ControlColumns.{ControlColumns}
use Rattle.rm_history.specs.declared.run.Run.{Run}
use Rattle.rm_history.specs.Buckets.{bucket_sum, end_of}
use Rattle.rm_history.specs.ControlColumns.{control_rows}
use Rattle.rm_history.specs.HistoryControl.{control_set, granted, plan_of}
use Rattle.rm_history.specs.Run.{kept_counter}
use Rattle.rm_history.specs.Runs.{plan_from}
use Rattle.rm_history.specs.Standing.{IsRun}

module _ (settings : Counting) (journal : Journal) (row now : ℕ) (columns : ControlColumns) (run : Run) (at : last_moment journal ≡ now) (fresh : IsFresh control_rows columns journal row)
    (source : run.source ≡ columns.source) (plan : run.plan ≡ plan_from columns now) (closed : run.closed ≡ 0)
    (nothing : (bucket : ℕ) (each : Counter) → 1 ≤ bucket → kept_counter run bucket each ≡ 0) where
  same_plan : plan_from columns now ≡ plan_of journal (row ∷ [])
  same_plan = λ d. record {
    start = (sym at ∙ sym fresh.started) d;
    seconds = natural_in (fresh.columns_are.1.1.0.shown d);
    kept = granted (natural_in (fresh.columns_are.1.0.shown d));
  }

  none : (bucket : ℕ) (each : Counter) → bucket_sum settings run.plan (frames_of (control_set journal (row ∷ []) 2) (frames_in [])) bucket each ≡ 0
  none bucket each = refl

  no_end : end_of (plan_from columns now) 0 ≤ last_moment journal
  no_end = let nil : 1000 * columns.interval * 0 ≡ 0 = omega arith in omega (arith, at, nil)

  pub begun_run : IsRun settings journal row run
  begun_run = record {
    plan = plan ∙ same_plan;
    source = ap (λ number. name (interface_name number)) source ∙ fresh.columns_are.0.shown;
    keeps = λ bucket each some within.
        nothing bucket each some ∙ sym (ap (λ acts. bucket_sum settings run.plan (frames_of (control_set journal (row ∷ []) 2) (frames_in acts)) bucket each) fresh.no_acts ∙ none bucket each);
    reached = rw (plan, closed) no_end;
  }
