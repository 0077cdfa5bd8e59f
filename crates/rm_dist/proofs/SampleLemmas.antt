-- That the sample of an alarm makes no difference to the distribution.
use Rattle.std.proofs.Common.{◌≡◌, ℕ, [], ◌∷◌, Option, Some, None, refl, sym, ap, subst, ◌∙◌}
use Rattle.std.specs.Prelude.{ℤ}
use Rattle.rm_model.specs.Counting.{Counting}
use Rattle.rm_model.specs.Journal.{Journal, samples}
use Rattle.rm_model.specs.ControlRows.{no_rows, is_valid}
use Rattle.rm_status.proofs.RowsAfterLemmas.{state_sampled, rows_samples}
use Rattle.rm_dir.specs.ProtocolDir.{protocol_dir, directory_beginning}
use Rattle.rm_dist.specs.declared.distribution.Distribution.{Distribution}
use Rattle.rm_dist.specs.declared.row.Tally.{Tally}
use Rattle.rm_dist.specs.Control.{dist_control, control_state}
use Rattle.rm_dist.specs.ControlColumns.{set_to}
use Rattle.rm_dist.specs.Group.{Stands}
use Rattle.rm_dist.specs.Marks.{marks}
use Rattle.rm_dist.specs.Standing.{AreOfMarks, IsTallied}
use Rattle.rm_dist.proofs.MarkFacts.{all_are, all_last}

module _ (settings : Counting) (journal : Journal) (moment alarm : ℕ) (reading : Option ℤ) where
  abbrev longer : Journal
  longer = samples moment alarm reading ∷ journal

  state_is : (i : ℕ) → control_state longer i ≡ control_state journal i
  state_is i = state_sampled dist_control no_rows refl journal moment alarm reading (i ∷ [])

  module _ (i : ℕ) where
    by_tally : (o : Option Tally) → IsTallied settings journal i o → IsTallied settings longer i o
    by_tally None idle = ap is_valid (state_is i) ∙ idle
    by_tally (Some tally) it =
        let valid = ap is_valid (state_is i) ∙ it.active in
        record {
          active = valid;
          since = it.since ∙ sym (rw (it.active, valid) refl);
          rise = it.rise;
          counts = subst (λ some. AreOfMarks some tally.counts) (sym (rw valid (all_last (samples moment alarm reading) journal (λ index. state_sampled protocol_dir directory_beginning refl journal moment alarm reading index) (marks settings i journal) (all_are settings i journal)))) it.counts;
        }

  pub stands_sampled : (distribution : Distribution) → Stands distribution settings journal → Stands distribution settings longer
  stands_sampled distribution stands = record {
    rows = rows_samples dist_control no_rows set_to refl distribution.rows journal moment alarm reading stands.rows;
    tallies = λ i row here. by_tally i row.columns.tally (stands.tallies i row here);
  }
