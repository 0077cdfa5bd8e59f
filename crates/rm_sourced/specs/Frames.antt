-- What is kept of a row after one more act.
use Rattle.std.proofs.Common.{◌≡◌, ℕ, ◌*◌, ◌/◌, List, [], ◌∷◌, ◌++◌, cond, refl, sym, ◌∙◌, ap, subst, length, nat_eq, filter}
use Rattle.std.specs.Prelude.{flat_map}
use Rattle.rm_val.specs.Val.{name}
use Rattle.rm_model.specs.Counting.{Counting}
use Rattle.rm_model.specs.Journal.{Frame, Journal, passes, frames_in}
use Rattle.rm_model.specs.Interfaces.{interface_name, is_interface}
use Rattle.rm_model.specs.FrameFacts.{frame_facts}
use Rattle.rm_model.specs.ControlRows.{no_rows, is_valid, state_of, value_of}
use Rattle.rm_model.specs.declared.row.State.TheVariants.{Valid}
use Rattle.rm_ether.proofs.Sources.{is_source}
use Rattle.rm_evicting.specs.Mention.{Mention}
use Rattle.rm_keyed.specs.SourceControl.{TableEntry, source_control}
use Rattle.rm_keyed.proofs.MentionLaws.{mentions_passed}
use Rattle.rm_collect.specs.Rows.{GoesOn}
use Rattle.rm_sourced.specs.declared.sourced.Sourced.{Sourced}
use Rattle.rm_sourced.specs.Sourcing.{Sourcing, Means, Takes, IsSourced, mentions_of, seen_mentions, taken_from}

module _ (entry : TableEntry) {K C R : Type 0} (sourcing : Sourcing K C R) where
  -- a frame
  module _ (settings : Counting) (journal : Journal) (row : ℕ) (frame : Frame) (part new : Sourced K R) (valid : state_of (source_control entry) no_rows journal (row ∷ []) ≡ Valid) (is : IsSourced entry sourcing settings journal row part) where
    abbrev stamp : ℕ
    stamp = 2 * length (frames_in journal)

    abbrev says : List (Mention K C)
    says = seen_mentions sourcing.mentioned settings (record { frame = frame; before = journal })

    of_source : is_interface (value_of (source_control entry) no_rows journal (row ∷ []) 2) frame.interface ≡ nat_eq part.source frame.interface
    of_source = ap (λ v. is_interface v frame.interface) (sym is.source) ∙ is_source part.source frame.interface

    -- what the frame says is mentioned before the others
    says_more : mentions_of entry sourcing settings (passes frame ∷ journal) row
        ≡ taken_from sourcing part.source stamp (frame.moment / 10) (frame_facts settings frame) ++ mentions_of entry sourcing settings journal row
    says_more =
        mentions_passed (source_control entry) (seen_mentions sourcing.mentioned settings) journal row frame (ap is_valid valid)
        ∙ ap (λ t. cond t says [] ++ mentions_of entry sourcing settings journal row) of_source

    pub one_frame : Takes sourcing (frame_facts settings frame) stamp frame.moment part new → IsSourced entry sourcing settings (passes frame ∷ journal) row new
    one_frame takes = record {
      source = ap (λ n. name (interface_name n)) takes.source ∙ is.source;
      capacity = takes.capacity ∙ is.capacity;
      means = subst (λ (mentions : List (Mention K C)). Means sourcing mentions new.rows) (sym says_more) (takes.means (mentions_of entry sourcing settings journal row) is.means);
    }

  -- an act that is no frame
  pub goes_on : (settings : Counting) (earlier later : Journal) (row : ℕ) (part : Sourced K R) → GoesOn (source_control entry) row earlier later → IsSourced entry sourcing settings earlier row part → IsSourced entry sourcing settings later row part
  goes_on settings earlier later row part going is = record {
    source = is.source ∙ sym (going.set 2 refl refl);
    capacity = is.capacity;
    means = subst (λ (mentions : List (Mention K C)). Means sourcing mentions part.rows) (sym same) is.means;
  }
    where
      same : mentions_of entry sourcing settings later row ≡ mentions_of entry sourcing settings earlier row
      same = λ d. flat_map (seen_mentions sourcing.mentioned settings) (filter (λ seen. is_interface (going.set 2 refl refl d) seen.frame.interface) (going.seen d))
