-- A journal goes on from an earlier one, act by act.
use Rattle.std.proofs.Common.{◌≡◌, ℕ, ◌≤◌, Bool, true, false, List, [], ◌∷◌, length, refl, sym, ap, ◌∙◌, arith, subst}
use Rattle.rm_model.specs.Journal.{Act, Frame, Journal, passes, frames_in}
use Rattle.rm_model.specs.ControlRows.{no_rows, is_valid}
use Rattle.rm_acts.specs.Seen.{Seen, seen_since}
use Rattle.rm_collect.specs.Rows.{GoesOn}
use Rattle.rm_hosts.specs.Control.{host_control, control_state}
use Rattle.rm_report.specs.Linked.{AreLater, HasSeen, IsLinked, goes_on, begins_anew}
use Rattle.rm_report.proofs.SeenLaws.{seen_with, seen_without}

module _ (from : Journal) (row : ℕ) where
  abbrev seen_in : Journal → List Seen
  seen_in journal = seen_since host_control no_rows journal (row ∷ [])

  pub link_begins : IsLinked from from row
  link_begins = record { acts = omega arith; frames = omega arith; seen = goes_on [] tt refl refl }

  -- where the row has seen none, or is as it was
  none_seen : (journal : Journal) → seen_in journal ≡ [] → HasSeen from journal row
  none_seen journal none = begins_anew (subst (AreLater from) (sym none) tt)

  module _ (journal : Journal) (linked : IsLinked from journal row) where
    -- A frame. It makes no difference to the row.
    seen_frame : (frame : Frame) → (t : Bool) → is_valid (control_state journal (row ∷ [])) ≡ t → HasSeen from journal row → HasSeen from (passes frame ∷ journal) row
    seen_frame frame false idle seen = none_seen (passes frame ∷ journal) (seen_without host_control (row ∷ []) from (passes frame) journal refl idle)
    seen_frame frame true valid (goes_on later after same source) =
        goes_on (record { frame = frame; before = journal } ∷ later) ((linked.acts, linked.frames), after)
        (seen_with host_control (row ∷ []) from (passes frame) journal refl valid ∙ ap (λ seen. record { frame = frame; before = journal } ∷ seen) same) source
    seen_frame frame true valid (begins_anew later) =
        begins_anew (subst (AreLater from) (sym (seen_with host_control (row ∷ []) from (passes frame) journal refl valid)) ((linked.acts, linked.frames), later))

    pub link_frame : (frame : Frame) → IsLinked from (passes frame ∷ journal) row
    link_frame frame = record {
      acts = omega (arith, linked.acts);
      frames = omega (arith, linked.frames);
      seen = seen_frame frame (is_valid (control_state journal (row ∷ []))) refl linked.seen;
    }

    -- an act without a frame, over which the row goes on
    seen_going : (later : Journal) → GoesOn host_control row journal later → HasSeen from journal row → HasSeen from later row
    seen_going later going (goes_on some after same source) = goes_on some after (going.seen ∙ same) (going.set 2 refl refl ∙ source)
    seen_going later going (begins_anew some) = begins_anew (subst (AreLater from) (sym going.seen) some)

    pub link_going : (act : Act) → frames_in (act ∷ journal) ≡ frames_in journal → GoesOn host_control row journal (act ∷ journal) → IsLinked from (act ∷ journal) row
    link_going act none going = record {
      acts = omega (arith, linked.acts);
      frames = subst (λ frames. length (frames_in from) ≤ length frames) (sym none) linked.frames;
      seen = seen_going (act ∷ journal) going linked.seen;
    }

    -- one after which the row has seen no frame
    pub link_ends : (act : Act) → frames_in (act ∷ journal) ≡ frames_in journal → seen_in (act ∷ journal) ≡ [] → IsLinked from (act ∷ journal) row
    link_ends act none unseen = record {
      acts = omega (arith, linked.acts);
      frames = subst (λ frames. length (frames_in from) ≤ length frames) (sym none) linked.frames;
      seen = none_seen (act ∷ journal) unseen;
    }
