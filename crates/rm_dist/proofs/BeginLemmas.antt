-- The rows once a Set was begun.
use Rattle.std.proofs.Common.{◌≡◌, ℕ, List, [], ◌∷◌, true, false, Option, Some, None, option_map, refl, sym, ap, subst, ◌∙◌}
use Rattle.std.specs.Prelude.{unwrap_or}
use Rattle.rm_model.specs.Counting.{Counting}
use Rattle.rm_model.specs.Journal.{Assignments, Journal, assigns}
use Rattle.rm_model.specs.ControlRows.{no_rows, is_valid}
use Rattle.rm_model.specs.Judgement.{Bindings}
use Rattle.rm_model.specs.declared.row.State.{State}
use Rattle.rm_model.specs.declared.row.State.TheVariants.{Absent, UnderCreation, Valid}
use Rattle.rm_status.specs.declared.row.Row.{Row}
use Rattle.rm_status.specs.Rows.{row_in, columns_seen, state_seen}
use Rattle.rm_status.specs.Change.{changed_row}
use Rattle.rm_status.specs.RowsAfter.{AreRowsAfter}
use Rattle.rm_status.proofs.Committed.{IsCommitted, changed_committed, state_committed, other_left}
use Rattle.rm_status.proofs.RowsAfterLemmas.{was_there}
use Rattle.rm_dist.specs.declared.row.DistributionRow.{DistributionRow}
use Rattle.rm_dist.specs.declared.row.Tally.{Tally}
use Rattle.rm_dist.specs.Control.{dist_control, control_state}
use Rattle.rm_dist.specs.ControlColumns.{blank_row, control_rows, set_to}
use Rattle.rm_dist.specs.Group.{AreTallied}
use Rattle.rm_dist.specs.Marks.{marks}
use Rattle.rm_dist.specs.Resting.{resting, tally_after}
use Rattle.rm_dist.specs.Standing.{count_of, IsTallied, IsTalliedBy, unsifted}

-- a row that isn't active has no marks
no_marks : (settings : Counting) (row : ℕ) (journal : Journal) → is_valid (control_state journal row) ≡ false → marks settings row journal ≡ []
no_marks settings row [] idle = refl
no_marks settings row (act ∷ earlier) idle = rw idle refl

module _ (settings : Counting) (journal : Journal) (moment : ℕ) (bs : Bindings) (values : Assignments) (rows middle new : List (Row DistributionRow))
    (set : IsCommitted control_rows no_rows journal values bs rows middle)
    (rested : (i : ℕ) → row_in new i ≡ option_map (changed_row (λ index state row. resting moment state row)) (row_in middle i)) (tallies : AreTallied rows settings journal) where
  abbrev with_set : Journal
  with_set = assigns moment values ∷ journal

  pub rows_begun : AreRowsAfter dist_control no_rows set_to new with_set
  rows_begun = changed_committed control_rows set moment (λ index state row. resting moment state row) (λ index state row n. refl) new rested

  module _ (i : ℕ) (mid : Row DistributionRow) (here : row_in middle i ≡ Some mid) where
    abbrev was : Option (Row DistributionRow)
    was = row_in rows i

    state_then : mid.state ≡ control_state with_set i
    state_then = state_committed control_rows set moment i mid here

    tally_left : mid.columns.tally ≡ (unwrap_or (columns_seen was) blank_row).tally
    tally_left = other_left control_rows set i mid here (λ c. c.tally) (λ c n v. refl)

    -- what it had counted before
    before : (o : Option (Row DistributionRow)) → was ≡ o → IsTallied settings journal i (unwrap_or (columns_seen o) blank_row).tally
    before None e = ap is_valid (sym (ap state_seen (sym e) ∙ set.stood.alike.states i))
    before (Some row) e = tallies i row e

    had : IsTallied settings journal i mid.columns.tally
    had = subst (IsTallied settings journal i) (sym tally_left) (before was refl)

    begun_valid : is_valid (control_state with_set i) ≡ true → (tally : Option Tally) → IsTallied settings journal i tally → IsTalliedBy (marks settings i journal) with_set i (tally_after moment Valid tally)
    begun_valid valid None idle = record {
      active = valid;
      since = sym (rw (idle, valid) refl);
      rise = tt;
      counts = λ local. sym (ap (λ some. count_of some local) (no_marks settings i journal idle));
    }
    begun_valid valid (Some tally) it = record {
      active = valid;
      since = it.since ∙ sym (rw (it.active, valid) refl);
      rise = it.rise;
      counts = it.counts;
    }

    begun_by : (state : State) → control_state with_set i ≡ state → (tally : Option Tally) → IsTallied settings journal i tally → IsTalliedBy (marks settings i journal) with_set i (tally_after moment state tally)
    begun_by Valid e tally it = begun_valid (ap is_valid e) tally it
    begun_by UnderCreation e tally it = ap is_valid e
    begun_by Absent e tally it = ap is_valid e

  pub tallies_begun : (i : ℕ) (row : Row DistributionRow) → row_in new i ≡ Some row → IsTalliedBy (unsifted settings i with_set) with_set i row.columns.tally
  tallies_begun i row here =
      let mid = was_there (changed_row (λ index state row. resting moment state row)) (row_in middle i) row (sym (rested i) ∙ here) in
      subst (λ (r : Row DistributionRow). IsTalliedBy (unsifted settings i with_set) with_set i r.columns.tally) mid.2
      (begun_by i mid.0 mid.1 mid.0.state (sym (state_then i mid.0 mid.1)) mid.0.columns.tally (had i mid.0 mid.1))
