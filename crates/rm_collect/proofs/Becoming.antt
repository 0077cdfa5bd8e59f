-- The parts of rows that take a frame.
use Rattle.std.proofs.Common.{◌≡◌, ℕ, suc, ◌+◌, ◌≤◌, List, ◌∷◌, length, Option, Some, None, refl, subst, ◌∙◌, arith}
use Rattle.std.specs.Prelude.{is_some}
use Rattle.rm_proto.specs.declared.known.Facts.{Facts}
use Rattle.rm_model.specs.Counting.{Counting}
use Rattle.rm_model.specs.Journal.{Frame, Journal, passes, frames_in}
use Rattle.rm_model.specs.ControlRows.{no_rows}
use Rattle.rm_group.specs.Passing.{IsOf}
use Rattle.rm_columns.specs.RowForm.{RowForm}
use Rattle.rm_status.proofs.RowsAfterLemmas.{rows_passes}
use Rattle.rm_pool.specs.declared.slot.Slot.{Slot}
use Rattle.rm_pool.specs.Slots.{part_in}
use Rattle.rm_pool.specs.Pools.{Allowed, Became}
use Rattle.rm_collect.specs.Passed.{Passed, passed, frame_passed}
use Rattle.rm_collect.specs.Rows.{IsKept}
use Rattle.rm_collect.specs.Collection.{Collection, IsLawful}
use Rattle.rm_collect.specs.Held.{Held}
use Rattle.rm_collect.specs.WellHeld.{IsWellHeld}
use Rattle.rm_collect.specs.Group.{Stands}

-- no row gets a part or loses its own
pub still_has : {P : Type 0} (makes : P → P → Type 0) (o n : Option P) → Became makes o n → is_some n ≡ is_some o
still_has makes None None b = refl
still_has makes None (Some new) b = absurd b
still_has makes (Some part) None b = absurd b
still_has makes (Some part) (Some new) b = refl

module _ {C P S J : Type 0} (form : RowForm C) (collection : Collection C P S J) (laws : IsLawful form collection) where
  -- parts that fit at a moment fit later
  pub fit_later : (last moment frames : ℕ) → last ≤ moment → (o : Option P) → Allowed (collection.fits last frames) o → Allowed (collection.fits moment frames) o
  fit_later last moment frames later None fit = tt
  fit_later last moment frames later (Some part) fit = laws.fits_later last moment frames part later fit

  -- parts fit that took a frame
  pub fit_taken : (judged : List J) (seen : Passed) (frames : ℕ) (o n : Option P) → Became (collection.takes judged seen frames) o n → Allowed (collection.fits seen.moment frames) o → Allowed (collection.fits seen.moment (frames + 1)) n
  fit_taken judged seen frames None None b fit = tt
  fit_taken judged seen frames None (Some new) b fit = absurd b
  fit_taken judged seen frames (Some part) None b fit = absurd b
  fit_taken judged seen frames (Some part) (Some new) b fit = laws.fits_taken judged seen frames part new fit b

  -- A frame passes that is the next one after a journal.
  module _ (settings : Counting) (journal : Journal) (frame : Frame) (judged : List J) (judges : collection.judges settings journal frame judged) (row : ℕ) where
    abbrev given : ℕ
    given = length (frames_in journal)

    pub kept_taken : (o n : Option P) → Became (collection.takes judged (frame_passed settings frame) given) o n → Allowed (collection.fits frame.moment given) o
        → IsKept form.table collection.is_of settings journal row o → IsKept form.table collection.is_of settings (passes frame ∷ journal) row n
    kept_taken None None b fit is = is
    kept_taken None (Some new) b fit is = absurd b
    kept_taken (Some part) None b fit is = absurd b
    kept_taken (Some part) (Some new) b fit is = (is.0, laws.is_of_taken settings journal row frame judged part new is.0 judges fit is.1 b)

-- What is held after one more frame, where this is what a caller sees before it.
module _ {C P S J : Type 0} (form : RowForm C) (collection : Collection C P S J) (laws : IsLawful form collection) {held seen : Held C P S} (is_seen : held ≡ seen) (well : IsWellHeld collection held) (judged : List J)
    (facts : Facts) (octets : List ℕ) (number moment : ℕ) (later : seen.last ≤ moment)
    (parts : List (Slot P)) (became : (row : ℕ) → Became (collection.takes judged (passed facts octets number moment) held.frames) (part_in held.parts row) (part_in parts row)) where
  abbrev with_frame : Held C P S
  with_frame = record { rows = held.rows; parts = parts; shared = held.shared; frames = held.frames + 1; last = moment }

  fit_then : (row : ℕ) → Allowed (collection.fits moment held.frames) (part_in held.parts row)
  fit_then row = fit_later form collection laws held.last moment held.frames (rw is_seen later) (part_in held.parts row) (well.fits row)

  pub well_with_frame : IsWellHeld collection with_frame
  well_with_frame = record {
    in_range = well.in_range;
    fits = λ row. fit_taken form collection laws judged (passed facts octets number moment) held.frames (part_in held.parts row) (part_in parts row) (became row) (fit_then row);
    of_valid = λ row. still_has (collection.takes judged (passed facts octets number moment) held.frames) (part_in held.parts row) (part_in parts row) (became row) ∙ well.of_valid row;
  }

  pub stands_with_frame : (settings : Counting) (journal : Journal) (frame : Frame) → Stands form collection seen settings journal → IsOf settings frame facts octets number moment
      → collection.judges settings journal frame judged → Stands form collection with_frame settings (passes frame ∷ journal)
  stands_with_frame settings journal frame stands of judges =
      let stood : Stands form collection held settings journal = rw is_seen stands in
      record {
        suits = laws.suits_taken settings journal frame held.shared stood.suits;
        given = more held.frames (length (frames_in journal)) stood.given;
        rows = rows_passes form.table no_rows form.set_to held.rows journal frame stood.rows;
        parts = λ row.
            let by_frame = subst (λ (by : Passed). Became (collection.takes judged by held.frames) (part_in held.parts row) (part_in parts row)) of_frame (became row) in
            let took = subst (λ n. Became (collection.takes judged (frame_passed settings frame) n) (part_in held.parts row) (part_in parts row)) stood.given by_frame in
            let fit = subst (λ n. Allowed (collection.fits n held.frames) (part_in held.parts row)) of.at (fit_then row) in
            kept_taken form collection laws settings journal frame judged judges row (part_in held.parts row) (part_in parts row) took (subst (λ n. Allowed (collection.fits frame.moment n) (part_in held.parts row)) stood.given fit) (stood.parts row);
      }
    where
      more : (n k : ℕ) → n ≡ k → n + 1 ≡ suc k
      more n k same = omega arith

      of_frame : passed facts octets number moment ≡ frame_passed settings frame
      of_frame = λ d. passed (of.known d) (of.captured d) (of.counted d) (of.at d)
