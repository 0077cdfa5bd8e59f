-- That filters and channels take an act step by step.
use Rattle.std.proofs.Common.{◌≡◌, ℕ, ◌%◌, ◌^◌, List, [], ◌∷◌, Bool, true, false, cond, ◌&&◌, refl, sym, ap, ◌∙◌, Option, Some, None}
use Rattle.std.specs.Prelude.{ℤ, length, filter}
use Rattle.rm_model.specs.Counting.{Counting}
use Rattle.rm_model.specs.Journal.{Act, Journal, passes, assigns, samples}
use Rattle.rm_model.specs.ControlRows.{no_rows, is_valid, state_of}
use Rattle.rm_model.specs.ControlTable.{ControlTable}
use Rattle.rm_val.specs.Val.{Val}
use Rattle.rm_status.specs.declared.row.Row.{Row}
use Rattle.rm_status.specs.RowsAfter.{AreRowsAfter}
use Rattle.rm_status.proofs.RowsAfterLemmas.{rows_passes, rows_samples}
use Rattle.rm_acts.specs.Seen.{Seen, with_act, seen_since}
use Rattle.rm_acts.specs.Filters.{filter_table}
use Rattle.rm_acts.specs.Channels.{channel_table, accepts}
use Rattle.rm_acts.specs.Fired.{act_fires, fired, is_set}
use Rattle.rm_filter.specs.declared.filters.Filters.{Filters}
use Rattle.rm_filter.specs.FilterRows as filter
use Rattle.rm_filter.specs.ChannelForm.{set_to}
use Rattle.rm_filter.specs.Standing.{Stands, IsUnderWay}

-- a channel that isn't valid has accepted nothing
idle_before : (settings : Counting) (channel : ℕ) (journal : Journal) → is_valid (state_of channel_table no_rows journal (channel ∷ [])) ≡ false → seen_since channel_table no_rows journal (channel ∷ []) ≡ []
idle_before settings channel [] idle = refl
idle_before settings channel (act ∷ earlier) idle =
    ap (λ b. cond b (with_act act earlier (seen_since channel_table no_rows earlier (channel ∷ []))) [])
    (ap (λ b. is_valid (state_of channel_table no_rows earlier (channel ∷ [])) && b) idle ∙ and_false (is_valid (state_of channel_table no_rows earlier (channel ∷ []))))
  where
    and_false : (b : Bool) → (b && false) ≡ false
    and_false true = refl
    and_false false = refl

-- a sample is no frame
same_seen : (settings : Counting) (moment alarm : ℕ) (reading : Option ℤ) (earlier : Journal) (channel : ℕ)
    → seen_since channel_table no_rows (samples moment alarm reading ∷ earlier) (channel ∷ []) ≡ seen_since channel_table no_rows earlier (channel ∷ [])
same_seen settings moment alarm reading earlier channel = by_reading reading
  where
    by_valid : (t : Bool) → is_valid (state_of channel_table no_rows earlier (channel ∷ [])) ≡ t
        → cond (t && t) (seen_since channel_table no_rows earlier (channel ∷ [])) [] ≡ seen_since channel_table no_rows earlier (channel ∷ [])
    by_valid true valid = refl
    by_valid false idle = sym (idle_before settings channel earlier idle)

    by_reading : (reading : Option ℤ) → seen_since channel_table no_rows (samples moment alarm reading ∷ earlier) (channel ∷ []) ≡ seen_since channel_table no_rows earlier (channel ∷ [])
    by_reading None = by_valid (is_valid (state_of channel_table no_rows earlier (channel ∷ []))) refl
    by_reading (Some n) = by_valid (is_valid (state_of channel_table no_rows earlier (channel ∷ []))) refl

-- the rows of a table that isn't sampled are the same over an act that is no Set
same_rows : {C : Type 0} (table : ControlTable) (set_to : C → ℕ → Option Val) → table.is_sampled ≡ false → (rows : List (Row C)) (act : Act) (earlier : Journal)
    → is_set act ≡ false → AreRowsAfter table no_rows set_to rows earlier → AreRowsAfter table no_rows set_to rows (act ∷ earlier)
same_rows table set_to unsampled rows (passes frame) earlier unset is = rows_passes table no_rows set_to rows earlier frame is
same_rows table set_to unsampled rows (assigns moment values) earlier unset is = absurd (cc)
same_rows table set_to unsampled rows (samples moment alarm reading) earlier unset is = rows_samples table no_rows set_to unsampled rows earlier moment alarm reading is

-- the sample of an alarm begins
pub begun : (filters : Filters) (settings : Counting) (earlier : Journal) (moment alarm : ℕ) (reading : Option ℤ)
    → Stands filters settings earlier → IsUnderWay filters settings (samples moment alarm reading) earlier []
begun filters settings earlier moment alarm reading stands = record {
  unset = refl;
  filter_rows = stands.first;
  channel_rows = stands.second.rows;
  present = λ index row here. record {
    control = (stands.second.present index row here).control;
    status = (stands.second.present index row here).status;
    matches = (stands.second.present index row here).matches
        ∙ ap (λ seen. length (filter (λ (each : Seen). accepts settings each.before index each.frame) seen) % 2 ^ 32) (sym (same_seen settings moment alarm reading earlier index));
  };
  accepting = tt;
}

-- an act has ended
pub ended : (filters : Filters) (settings : Counting) (act : Act) (earlier : Journal)
    → IsUnderWay filters settings act earlier (act_fires settings act earlier (fired settings earlier)) → Stands filters settings (act ∷ earlier)
ended filters settings act earlier under = record {
  first = same_rows filter_table filter.set_to refl filters.tables.first.rows act earlier under.unset under.filter_rows;
  second = record {
    rows = same_rows channel_table set_to refl filters.tables.second.rows act earlier under.unset under.channel_rows;
    present = λ index row here. record {
      control = (under.present index row here).control;
      status = (under.present index row here).status;
      matches = (under.present index row here).matches;
    };
  };
  tied = tt;
}
