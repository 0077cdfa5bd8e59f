-- That channelTable and bufferControlTable depend on what is read after earlier acts only.
use Rattle.std.proofs.Common.{◌≡◌, ℕ, List, [], ◌∷◌, true, false, cond, Option, Some, None, refl, ap, ◌∙◌}
use Rattle.std.specs.Prelude.{ℤ, filter}
use Rattle.std.specs.Option.{option_or}
use Rattle.rm_model.specs.Counting.{Counting}
use Rattle.rm_model.specs.Journal.{Act, Journal, passes, assigns, samples}
use Rattle.rm_model.specs.Readings.{Readings}
use Rattle.rm_model.specs.Cells.{cells_of, cell_at, instance_of}
use Rattle.rm_model.specs.ControlRows.{no_rows, stays_valid}
use Rattle.rm_acts.specs.Alarms.{base_of, sampled}
use Rattle.rm_acts.specs.Seen.{seen_since}
use Rattle.rm_acts.specs.Fired.{Fired, fired, act_fires}
use Rattle.rm_acts.specs.Buffers.{buffer_table, captures, accepted_by}
use Rattle.rm_acts.specs.Recurring.{Sampleable, with_readings, ReadAlikeBefore, ReadBefore}
use Rattle.rm_acts.specs.Shown.{row_of, channels_shown, buffers_shown, channel_shown, buffer_shown}
use Rattle.rm_model.specs.declared.instance.Instance.{Instance}

module _ (settings : Counting) (one other : Journal → ℕ → Readings) where
  abbrev left : Counting
  left = with_readings settings one

  abbrev right : Counting
  right = with_readings settings other

  same_base : (journal : Journal) (alarm : ℕ) → ReadAlikeBefore one other journal → base_of left journal alarm ≡ base_of right journal alarm
  same_base [] alarm alike = refl
  same_base (act ∷ earlier) alarm alike = rw (same_base earlier alarm alike.1, alike.0) refl

  same_sampled : (journal : Journal) (moment alarm : ℕ) (reading : Option ℤ) → ReadAlikeBefore one other (samples moment alarm reading ∷ journal)
      → sampled left journal moment alarm reading ≡ sampled right journal moment alarm reading
  same_sampled journal moment alarm None alike = refl
  same_sampled journal moment alarm (Some reading) alike = rw (same_base (samples moment alarm (Some reading) ∷ journal) alarm alike) refl

  same_fires : (act : Act) (earlier : Journal) (before : Fired) → ReadAlikeBefore one other (act ∷ earlier) → act_fires left act earlier before ≡ act_fires right act earlier before
  same_fires (passes frame) earlier before alike = refl
  same_fires (assigns moment values) earlier before alike = refl
  same_fires (samples moment alarm reading) earlier before alike = rw (same_sampled earlier moment alarm reading alike) refl

  same_fired : (journal : Journal) → ReadAlikeBefore one other journal → fired left journal ≡ fired right journal
  same_fired [] alike = refl
  same_fired (act ∷ earlier) alike =
      ap (λ (before : Fired). act_fires left act earlier before ∷ before) (same_fired earlier alike.1)
      ∙ ap (λ some. some ∷ fired right earlier) (same_fires act earlier (fired right earlier) alike)

  same_captured : (buffer : ℕ) (journal : Journal) → ReadAlikeBefore one other journal
      → filter (captures left buffer) (seen_since buffer_table no_rows journal (buffer ∷ [])) ≡ filter (captures right buffer) (seen_since buffer_table no_rows journal (buffer ∷ []))
  same_captured buffer [] alike = refl
  same_captured buffer (passes frame ∷ earlier) alike =
      elim (stays_valid buffer_table no_rows (passes frame) earlier (buffer ∷ [])) as (λ stays. filter (captures left buffer) (cond stays (record { frame = frame; before = earlier } ∷ seen_since buffer_table no_rows earlier (buffer ∷ [])) []) ≡ filter (captures right buffer) (cond stays (record { frame = frame; before = earlier } ∷ seen_since buffer_table no_rows earlier (buffer ∷ [])) [])) [
        | true ↦ rw (same_fired earlier alike.1, same_captured buffer earlier alike.1) refl
        | false ↦ refl
      ]
  same_captured buffer (assigns moment values ∷ earlier) alike =
      elim (stays_valid buffer_table no_rows (assigns moment values) earlier (buffer ∷ [])) as (λ stays. filter (captures left buffer) (cond stays (seen_since buffer_table no_rows earlier (buffer ∷ [])) []) ≡ filter (captures right buffer) (cond stays (seen_since buffer_table no_rows earlier (buffer ∷ [])) [])) [
        | true ↦ same_captured buffer earlier alike.1
        | false ↦ refl
      ]
  same_captured buffer (samples moment alarm reading ∷ earlier) alike =
      elim (stays_valid buffer_table no_rows (samples moment alarm reading) earlier (buffer ∷ [])) as (λ stays. filter (captures left buffer) (cond stays (seen_since buffer_table no_rows earlier (buffer ∷ [])) []) ≡ filter (captures right buffer) (cond stays (seen_since buffer_table no_rows earlier (buffer ∷ [])) [])) [
        | true ↦ same_captured buffer earlier alike.1
        | false ↦ refl
      ]

  same_accepted : (buffer : ℕ) (journal : Journal) → ReadAlikeBefore one other journal → accepted_by left journal buffer ≡ accepted_by right journal buffer
  same_accepted buffer journal alike = rw (same_captured buffer journal alike) refl

  same_channel : (journal : Journal) (column : ℕ) (index : List ℕ) → ReadAlikeBefore one other journal → channel_shown left journal column index ≡ channel_shown right journal column index
  same_channel journal column index alike = rw (same_fired journal alike) refl

  same_buffer : (journal : Journal) (column : ℕ) (index : List ℕ) → ReadAlikeBefore one other journal → buffer_shown left journal column index ≡ buffer_shown right journal column index
  same_buffer journal column index alike = rw (same_accepted (row_of index) journal alike) refl

  same_channels_at : (journal : Journal) (at : Option Instance) → ReadAlikeBefore one other journal → cell_at (channels_shown left journal) at ≡ cell_at (channels_shown right journal) at
  same_channels_at journal None alike = refl
  same_channels_at journal (Some at) alike = rw (same_channel journal at.column at.index alike) refl

  same_buffers_at : (journal : Journal) (at : Option Instance) → ReadAlikeBefore one other journal → cell_at (buffers_shown left journal) at ≡ cell_at (buffers_shown right journal) at
  same_buffers_at journal None alike = refl
  same_buffers_at journal (Some at) alike = rw (same_buffer journal at.column at.index alike) refl

-- the cells of each of the two tables do, and so do those of two groups of which each does
pub channels_before : ReadBefore (λ settings journal now. cells_of (channels_shown settings journal))
channels_before settings one other journal alike now variable =
    same_channels_at settings one other journal (instance_of (channels_shown (left settings one other) journal).entry (channels_shown (left settings one other) journal).columns variable) alike

pub buffers_before : ReadBefore (λ settings journal now. cells_of (buffers_shown settings journal))
buffers_before settings one other journal alike now variable =
    same_buffers_at settings one other journal (instance_of (buffers_shown (left settings one other) journal).entry (buffers_shown (left settings one other) journal).columns variable) alike

pub both_before : (first second : Sampleable) → ReadBefore first → ReadBefore second
    → ReadBefore (λ settings journal now variable. option_or (first settings journal now variable) (second settings journal now variable))
both_before first second are also settings one other journal alike now variable =
    rw (are settings one other journal alike now variable, also settings one other journal alike now variable) refl
