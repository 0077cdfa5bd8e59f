-- That the samples of alarms make no difference to what rows collect.
use Rattle.std.proofs.Common.{◌≡◌, ℕ, ◌≤◌, List, [], ◌∷◌, Bool, true, false, cond, ◌&&◌, Option, Some, None, refl, sym, ◌∙◌, ap}
use Rattle.std.specs.Prelude.{ℤ}
use Rattle.rm_model.specs.Counting.{Counting}
use Rattle.rm_model.specs.Journal.{Journal, samples, moment_of, last_moment}
use Rattle.rm_model.specs.ControlTable.{ControlTable, row_index}
use Rattle.rm_model.specs.ControlRows.{no_rows, is_valid, state_of, activated}
use Rattle.rm_acts.specs.Seen.{with_act, seen_since}
use Rattle.rm_columns.specs.RowForm.{RowForm}
use Rattle.rm_status.proofs.RowsAfterLemmas.{state_sampled, rows_samples, frames_sampled}
use Rattle.rm_pool.specs.Slots.{part_in}
use Rattle.rm_collect.specs.Rows.{GoesOn, IsKept}
use Rattle.rm_collect.specs.Collection.{Collection, IsLawful}
use Rattle.rm_collect.specs.Held.{Held}
use Rattle.rm_collect.specs.Group.{Stands}

and_idle : (a b : Bool) → b ≡ false → (a && b) ≡ false
and_idle true b idle = idle
and_idle false b idle = refl

module _ (table : ControlTable) (index : List ℕ) where
  -- a row that isn't valid has no moment at which it became so
  pub never_activated : (journal : Journal) → is_valid (state_of table no_rows journal index) ≡ false → activated table no_rows journal index ≡ 0
  never_activated [] idle = refl
  never_activated (act ∷ earlier) idle =
      ap (λ b. cond b (activated table no_rows earlier index) (cond (is_valid (state_of table no_rows (act ∷ earlier) index)) (moment_of act) 0)) (and_idle (is_valid (state_of table no_rows earlier index)) (is_valid (state_of table no_rows (act ∷ earlier) index)) idle)
      ∙ ap (λ b. cond b (moment_of act) 0) idle

  -- and has seen no frame
  pub never_seen : (journal : Journal) → is_valid (state_of table no_rows journal index) ≡ false → seen_since table no_rows journal index ≡ []
  never_seen [] idle = refl
  never_seen (act ∷ earlier) idle =
      ap (λ b. cond b (with_act act earlier (seen_since table no_rows earlier index)) []) (and_idle (is_valid (state_of table no_rows earlier index)) (is_valid (state_of table no_rows (act ∷ earlier) index)) idle)

module _ (table : ControlTable) (unsampled : table.is_sampled ≡ false) (journal : Journal) (moment alarm : ℕ) (reading : Option ℤ) where
  abbrev after : Journal
  after = samples moment alarm reading ∷ journal

  same_state : (index : List ℕ) → state_of table no_rows after index ≡ state_of table no_rows journal index
  same_state index = state_sampled table no_rows unsampled journal moment alarm reading index

  same_start : (index : List ℕ) → activated table no_rows after index ≡ activated table no_rows journal index
  same_start index =
      ap (λ s. cond (is_valid (state_of table no_rows journal index) && is_valid s) (activated table no_rows journal index) (cond (is_valid s) moment 0)) (same_state index)
      ∙ by_test (is_valid (state_of table no_rows journal index)) refl
    where
      by_test : (valid : Bool) → is_valid (state_of table no_rows journal index) ≡ valid → cond (valid && valid) (activated table no_rows journal index) (cond valid moment 0) ≡ activated table no_rows journal index
      by_test true e = refl
      by_test false e = sym (never_activated table index journal e)

  same_seen : (index : List ℕ) → seen_since table no_rows after index ≡ seen_since table no_rows journal index
  same_seen index =
      ap (λ s. cond (is_valid (state_of table no_rows journal index) && is_valid s) (seen_since table no_rows journal index) []) (same_state index)
      ∙ by_test (is_valid (state_of table no_rows journal index)) refl
    where
      by_test : (valid : Bool) → is_valid (state_of table no_rows journal index) ≡ valid → cond (valid && valid) (seen_since table no_rows journal index) [] ≡ seen_since table no_rows journal index
      by_test true e = refl
      by_test false e = sym (never_seen table index journal e)

  pub goes_on : last_moment journal ≤ moment → (row : ℕ) → GoesOn table row journal after
  goes_on later row = record {
    set = λ column status fixed. refl;
    started = same_start (row_index table row);
    frames = frames_sampled table no_rows unsampled journal moment alarm reading (row_index table row);
    seen = same_seen (row_index table row);
    moment = later;
  }

-- what stands for a journal stands for it with a sample in front, which isn't earlier than its last act
module _ {C P S J : Type 0} (form : RowForm C) (collection : Collection C P S J) (laws : IsLawful form collection) (settings : Counting) (journal : Journal) (moment alarm : ℕ) (reading : Option ℤ) (later : last_moment journal ≤ moment) where
  kept_sampled : (row : ℕ) (o : Option P) → IsKept form.table collection.is_of settings journal row o → IsKept form.table collection.is_of settings (samples moment alarm reading ∷ journal) row o
  kept_sampled row None idle = ap is_valid (same_state form.table laws.unsampled journal moment alarm reading (row_index form.table row)) ∙ idle
  kept_sampled row (Some part) is = (
    same_state form.table laws.unsampled journal moment alarm reading (row_index form.table row) ∙ is.0,
    laws.is_of_sampled settings journal moment alarm reading row part is.0 (goes_on form.table laws.unsampled journal moment alarm reading later row) is.1,
  )

  pub stands_sampled : (held : Held C P S) → Stands form collection held settings journal → Stands form collection held settings (samples moment alarm reading ∷ journal)
  stands_sampled held stands = record {
    suits = laws.suits_sampled settings journal moment alarm reading held.shared stands.suits;
    given = stands.given;
    rows = rows_samples form.table no_rows form.set_to laws.unsampled held.rows journal moment alarm reading stands.rows;
    parts = λ row. kept_sampled row (part_in held.parts row) (stands.parts row);
  }
