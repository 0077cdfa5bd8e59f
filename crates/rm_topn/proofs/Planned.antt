-- What rows ask of reports is what they ask after a journal.
use Rattle.std.proofs.Common.{◌≡◌, ℕ, ℤ, List, [], ◌∷◌, false, min, Option, Some, None, refl, sym, ap, ◌∙◌}
use Rattle.std.specs.Prelude.{pos, unwrap_or}
use Rattle.std.specs.Option.{option_and_then, option_map, option_map_or}
use Rattle.rm_val.specs.Val.{Val, int}
use Rattle.rm_model.specs.Alike.{HasSameColumns}
use Rattle.rm_model.specs.ControlRows.{no_rows, is_absent, set_value}
use Rattle.rm_model.specs.ControlTable.{default_of}
use Rattle.rm_model.specs.Journal.{Journal}
use Rattle.rm_columns.specs.Numbering.{variant}
use Rattle.rm_columns.specs.Values.{natural_in, natural_of}
use Rattle.rm_status.specs.declared.row.Row.{Row}
use Rattle.rm_status.specs.Rows.{columns_in, state_in}
use Rattle.rm_status.specs.RowsAfter.{AreRowsAfter}
use Rattle.rm_report.specs.declared.rate_base.RateBase.{RateBase}
use Rattle.rm_report.specs.declared.rate_base.RateBase.TheVariants.{InPkts, OutPkts, InOctets, OutOctets, OutErrors, OutBroadcastPkts, OutMulticastPkts}
use Rattle.rm_report.specs.RateBase.{base_number, numbering}
use Rattle.rm_topn.specs.declared.control_columns.ControlColumns.{ControlColumns}
use Rattle.rm_topn.specs.Control.{top_control}
use Rattle.rm_topn.specs.ControlColumns.{set_to}
use Rattle.rm_topn.specs.Plans.{IsPlan, plan_of}

base_is : (base : RateBase) → variant numbering (base_number base) ≡ base
base_is InPkts = refl
base_is OutPkts = refl
base_is InOctets = refl
base_is OutOctets = refl
base_is OutErrors = refl
base_is OutBroadcastPkts = refl
base_is OutMulticastPkts = refl

host_is : (index : Option ℤ) → option_map_or natural_of index 0 ≡ natural_in (unwrap_or (option_map int index) (int (pos 0)))
host_is None = refl
host_is (Some row) = refl

module _ (rows : List (Row ControlColumns)) (journal : Journal) (is : AreRowsAfter top_control no_rows set_to rows journal) (i : ℕ) (there : is_absent (state_in rows i) ≡ false) (columns : ControlColumns) (here : columns_in rows i ≡ Some columns) where
  same : HasSameColumns top_control (λ n. option_and_then (λ c. set_to c n) (columns_in rows i)) (set_value top_control no_rows journal (i ∷ []))
  same = is.alike.columns i there

  held : (n : ℕ) → unwrap_or (set_to columns n) (default_of top_control n) ≡ unwrap_or (option_and_then (λ c. set_to c n) (columns_in rows i)) (default_of top_control n)
  held n = ap (λ (o : Option ControlColumns). unwrap_or (option_and_then (λ c. set_to c n) o) (default_of top_control n)) (sym here)

  pub plan_is : IsPlan (plan_of columns) journal i
  plan_is = record {
    host = host_is columns.host_index ∙ ap natural_in (held 2 ∙ same.0.shown);
    base = sym (base_is columns.base) ∙ ap (λ (v : Val). variant numbering (natural_in v)) (held 3 ∙ same.1.0.shown);
    most = ap (λ (v : Val). min (natural_in v) 100) (held 6 ∙ same.1.1.1.0.shown);
    seconds = ap natural_in (held 4 ∙ same.1.1.0.shown);
  }
