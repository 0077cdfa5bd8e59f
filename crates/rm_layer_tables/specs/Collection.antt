-- What the active rows of a control table collect.
use Rattle.std.specs.Prelude.{◌≡◌, ℕ, ◌*◌, List, Option, None}
use Rattle.rm_val.specs.Val.{Val}
use Rattle.rm_val.specs.declared.error.ErrorStatus.{ErrorStatus}
use Rattle.rm_model.specs.Counting.{Counting}
use Rattle.rm_model.specs.FrameFacts.{frame_facts}
use Rattle.rm_model.specs.Journal.{Journal}
use Rattle.rm_model.specs.Cells.{Cells}
use Rattle.rm_group.specs.Listed.{ListedTable}
use Rattle.rm_pool.specs.declared.slot.Slot.{Slot}
use Rattle.rm_collect.specs.Collection.{Collection}
use Rattle.rm_collect.specs.declared.sampled_tables.SampledTables.TheVariants.{NoTable}
use Rattle.rm_layer_tables.specs.declared.layer_columns.LayerColumns.{LayerColumns}
use Rattle.rm_layer_tables.specs.declared.shared.LayerShared.{LayerShared}
use Rattle.rm_layer_tables.specs.ControlColumns.{IsInRange, in_range_prop}
use Rattle.rm_layer_tables.specs.Kept.{kept_other}
use Rattle.rm_layer_tables.specs.Layer.{locals_above_ip}
use Rattle.rm_layer_tables.specs.Parts.{Holding, IsPart, IsBegunPart, Takes}
use Rattle.rm_layer_tables.specs.Ready.{IsReady}
use Rattle.rm_layer_tables.specs.Shared.{AreShared}

-- The tables that show parts `P`: which they are, the control table first; what those under it show by the parts at a moment in milliseconds; what all
-- of them have after a journal; and what is wrong with a binding alone that isn't of the control table.
pub record ShownTables (P : Type 0) : Type 0 where
  pub tables : List ListedTable
  pub inner : List (Slot P) → (now : ℕ) → Cells
  pub cells : Counting → Journal → (now : ℕ) → Cells
  pub inner_alone : List ℕ → Val → Option ErrorStatus

-- Each row has a part of its own, and a frame two stamps. What a frame is judged to be are the protocols above ip on its path. Alarms sample none
-- of the tables.
abbrev pub layer_collection : {P K G A T : Type 0} → Holding P K G A → ShownTables P → Collection (LayerColumns T) P LayerShared ℕ
layer_collection holding shown = record {
  suits = AreShared holding.layer.kind;
  in_range = IsInRange;
  in_range_prop = in_range_prop;
  fits = λ last frames part. IsReady (2 * frames) last (holding.table_of part);
  is_of = IsPart holding;
  has_begun = IsBegunPart holding;
  judges = λ settings journal frame judged. judged ≡ locals_above_ip journal (frame_facts settings frame);
  within = λ seen. Unit {0};
  takes = λ judged seen before. Takes holding judged seen.facts (2 * before) seen.moment;
  others = λ rows. kept_other holding.eq holding.table_of;
  inner = λ rows. shown.inner;
  cells = shown.cells;
  sampled_tables = NoTable;
  sampleable = λ settings journal now name. None;
  tables = shown.tables;
  inner_alone = shown.inner_alone;
}
