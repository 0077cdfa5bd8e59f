-- The rows of a control table after each act.
use Rattle.std.proofs.Common.{◌≡◌, ℕ, List, [], ◌∷◌, Bool, true, false, cond, not, ◌&&◌, Option, Some, None, refl, sym, ap, subst, ◌∙◌, nat_eq, find, option_map}
use Rattle.std.specs.Prelude.{ℤ, is_some, unwrap_or}
use Rattle.std.specs.Option.{option_or}
use Rattle.std.specs.Str.{bytes_eq}
use Rattle.std.proofs.lemmas.Option.{none-some, same_Some}
use Rattle.std.proofs.lemmas.Slice.Eq.{bytes_eq-Decides}
use Rattle.rm_val.specs.Val.{Val}
use Rattle.rm_val.specs.declared.error.ErrorStatus.{ErrorStatus}
use Rattle.rm_val.specs.declared.error.ErrorStatus.TheVariants.{NoCreation}
use Rattle.rm_model.specs.declared.row.State.{State}
use Rattle.rm_model.specs.declared.row.Ask.TheVariants.{Nothing, Destroy}
use Rattle.rm_model.specs.declared.place.Place.{Place}
use Rattle.rm_model.specs.declared.place.Place.TheVariants.{Outside, Entry, Column, Cell}
use Rattle.rm_model.specs.Journal.{Act, Frame, Assignments, passes, assigns, samples, Journal, frames_in, value_given}
use Rattle.rm_model.specs.ControlTable.{row_index, ControlTable}
use Rattle.rm_model.specs.ControlRows.{Beginning, cell_name, value_ask, set_ask, act_ask, next_state, is_absent, is_valid, state_of, stays_valid, since}
use Rattle.rm_model.specs.Judgement.{Bindings, place_in, place_of, place_behind, value_fault, writable_kind, alone_fault, column_kind, is_sound}
use Rattle.rm_model.specs.Alike.{HasSameColumns}
use Rattle.rm_model.proofs.Tables.{behind_front}
use Rattle.rm_status.specs.declared.row.Row.{Row}
use Rattle.rm_status.specs.Rows.{row_in, rows_before, state_seen, columns_seen, AreControlRows}
use Rattle.rm_status.specs.Change.{changed_row}
use Rattle.rm_status.specs.Commit.{put_at, put_all, row_after}
use Rattle.rm_status.specs.Indexes.{has_number, is_index_in}
use Rattle.rm_status.specs.RowsAfter.{is_numbered, AreRowsAfter}
use Rattle.rm_status.proofs.RowsBefore.{state_before, after_alike, changed_before}
use Rattle.rm_status.proofs.After.{alike_after}
use Rattle.rm_status.proofs.Held.{held_is}
use Rattle.rm_status.proofs.Puts.{AllFine}

-- A name that isn't that of a cell has no fault alone only outside the table, so that a Set with which nothing is wrong
-- makes no row whose index isn't one number.

place_other : (t : ControlTable) (column : ℕ) (index : List ℕ) → is_numbered t index ≡ false → place_of t (cell_name t.entry column index) ≡ Column column
place_other t column index other = ap (place_behind t) (behind_front t.entry (column ∷ index)) ∙ by_number (t.indexing.number_of index) other
  where
    by_number : (o : Option ℕ) → is_some o ≡ false → place_in column o ≡ Column column
    by_number None none = refl
    by_number (Some n) none = absurd (cc)

never_none : (o : Option ErrorStatus) → option_or o (Some NoCreation) ≡ None → ⊥
never_none None e = cc
never_none (Some x) e = cc

none_given : (t : ControlTable) (column : ℕ) (index : List ℕ) → is_numbered t index ≡ false → (bs : Bindings) → AllFine t bs → value_given bs (cell_name t.entry column index) ≡ None
none_given t column index other [] fine = refl
none_given t column index other (b ∷ more) fine =
    elim (bytes_eq b.name (cell_name t.entry column index)) as (λ s. bytes_eq b.name (cell_name t.entry column index) ≡ s → option_map (λ a. a.value) (cond s (Some b) (find (λ a. bytes_eq a.name (cell_name t.entry column index)) more)) ≡ None) [
      | true ↦ λ e.
          let is : b.name ≡ cell_name t.entry column index = (bytes_eq-Decides b.name (cell_name t.entry column index)).0 e in
          let place : place_of t b.name ≡ Column column = ap (place_of t) is ∙ place_other t column index other in
          let fault : alone_fault t (Column column) b.value ≡ None = ap (λ p. alone_fault t p b.value) (sym place) ∙ fine.0 in
          absurd (never_none (value_fault (writable_kind t column) b.value) fault)
      | false ↦ λ _. none_given t column index other more fine.1
    ] refl

-- A sample asks nothing of a row of a table that isn't sampled.

module _ (t : ControlTable) (beginning : Beginning) (unsampled : t.is_sampled ≡ false) (journal : Journal) (moment alarm : ℕ) (reading : Option ℤ) (index : List ℕ) where
  asks_nothing : (r : Option ℤ) → act_ask t (samples moment alarm r) index ≡ Nothing
  asks_nothing (Some number) = refl
  asks_nothing None = ap (λ b. cond (b && bytes_eq index (alarm ∷ [])) Destroy Nothing) unsampled

  pub state_sampled : state_of t beginning (samples moment alarm reading ∷ journal) index ≡ state_of t beginning journal index
  state_sampled = ap (λ ask. next_state ask (state_of t beginning journal index)) (asks_nothing reading)

-- a row that is there after a change was there before it
pub was_there : {C : Type 0} (f : Row C → Row C) (o : Option (Row C)) (row : Row C) → option_map f o ≡ Some row → (old : Row C) × (o ≡ Some old) × (f old ≡ row)
was_there f None row e = absurd (none-some row e)
was_there f (Some old) row e = (old, refl, same_Some (f old) row e)

module _ {C : Type 0} (t : ControlTable) (beginning : Beginning) (set_to : C → ℕ → Option Val) where
  -- a frame changes no row
  pub rows_passes : (rows : List (Row C)) (journal : Journal) (frame : Frame) → AreRowsAfter t beginning set_to rows journal → AreRowsAfter t beginning set_to rows (passes frame ∷ journal)
  rows_passes rows journal frame is = record { alike = record { states = is.alike.states; columns = is.alike.columns }; others = is.others }

  -- a sample changes no row of a table that isn't sampled
  pub rows_samples : t.is_sampled ≡ false → (rows : List (Row C)) (journal : Journal) (moment alarm : ℕ) (reading : Option ℤ) → AreRowsAfter t beginning set_to rows journal → AreRowsAfter t beginning set_to rows (samples moment alarm reading ∷ journal)
  rows_samples unsampled rows journal moment alarm reading is = record {
    alike = record { states = λ i. is.alike.states i ∙ sym (state_sampled t beginning unsampled journal moment alarm reading (row_index t i)); columns = is.alike.columns };
    others = λ index other. state_sampled t beginning unsampled journal moment alarm reading index ∙ is.others index other;
  }

  -- a change of the rows' other data leaves what their columns were set to
  module _ (change : ℕ → State → C → C) (keeps : (index : ℕ) (state : State) (columns : C) (n : ℕ) → set_to (change index state columns) n ≡ set_to columns n) (rows new : List (Row C)) (changed : (i : ℕ) → row_in new i ≡ option_map (changed_row change) (row_in rows i)) where
    pub same_before : rows_before t set_to new ≡ rows_before t set_to rows
    same_before = changed_before t set_to set_to (changed_row change) (λ row. refl) (λ row. keeps row.index row.state row.columns) rows new changed

    pub rows_changed : (journal : Journal) → AreRowsAfter t beginning set_to rows journal → AreRowsAfter t beginning set_to new journal
    rows_changed journal is = after_alike t beginning set_to set_to rows new journal same_before is

  -- the indexes of the rows are those of the rows after the journal
  pub is_row_after : (rows : List (Row C)) (journal : Journal) → AreControlRows t rows → AreRowsAfter t beginning set_to rows journal → (index : List ℕ) → not (is_absent (state_of t beginning journal index)) ≡ is_index_in t rows index
  is_row_after rows journal held is index = by_number (t.indexing.number_of index) refl
    where
      by_number : (o : Option ℕ) → t.indexing.number_of index ≡ o → not (is_absent (state_of t beginning journal index)) ≡ has_number rows o
      by_number None e = ap (λ s. not (is_absent s)) (is.others index (ap is_some e))
      by_number (Some n) e =
          subst (λ (at : List ℕ). not (is_absent (state_of t beginning journal at)) ≡ is_some (row_in rows n)) (t.indexed.one_to_one.forth index n e)
          (ap (λ s. not (is_absent s)) (sym (is.alike.states n) ∙ state_before t set_to rows n) ∙ held_is t rows n held.1)

  -- a Set with which nothing is wrong
  module _ (with_column : C → ℕ → Val → C) (blank : ℕ → C)
      (set_with : (c : C) (n m : ℕ) (v : Val) → value_fault (column_kind t n) v ≡ None → set_to (with_column c n v) m ≡ cond (nat_eq n m) (Some v) (set_to c m))
      (blank_alike : (i : ℕ) → HasSameColumns t (set_to (blank i)) (t.rules.first (row_index t i)))
      (sound : is_sound t ≡ true)
      (journal : Journal) (moment : ℕ) (bs : Bindings) (values : Assignments)
      (gives : (name : List ℕ) → value_given values name ≡ value_given bs name)
      (fine : AllFine t bs)
      (rows new : List (Row C)) (held : AreControlRows t rows)
      (is : AreRowsAfter t beginning set_to rows journal)
      (after : (i : ℕ) → row_in new i ≡ row_after t with_column blank bs i (row_in rows i)) where
    pub rows_assigns : AreRowsAfter t beginning set_to new (assigns moment values ∷ journal)
    rows_assigns = record {
      alike = alike_after t with_column blank set_to set_with blank_alike sound beginning journal moment bs values gives fine rows new held is.alike after;
      others = λ index other.
          ap (λ value. next_state (value_ask t.status_kind value) (state_of t beginning journal index)) (gives (cell_name t.entry t.status index) ∙ none_given t t.status index other bs fine)
          ∙ is.others index other;
    }

-- What a row counts after a Set, by what it counted before.

pub since_idle : (t : ControlTable) (beginning : Beginning) (journal : Journal) (index : List ℕ) → is_valid (state_of t beginning journal index) ≡ false → since t beginning journal index ≡ []
since_idle t beginning [] index idle = refl
since_idle t beginning (act ∷ earlier) index idle =
    ap (λ b. cond b (act ∷ since t beginning earlier index) []) (ap (λ b. is_valid (state_of t beginning earlier index) && b) idle ∙ and_false (is_valid (state_of t beginning earlier index)))
  where
    and_false : (b : Bool) → (b && false) ≡ false
    and_false true = refl
    and_false false = refl

-- a row counts nothing from the act on by which it became valid, and where it isn't valid
pub since_starts : (t : ControlTable) (beginning : Beginning) (act : Act) (journal : Journal) (index : List ℕ) → stays_valid t beginning act journal index ≡ false → since t beginning (act ∷ journal) index ≡ []
since_starts t beginning act journal index starts = ap (λ b. cond b (act ∷ since t beginning journal index) []) starts

-- of two of which not both hold, the first doesn't where the second does: a row that an act makes valid wasn't valid before it
pub not_first : (a b : Bool) → b ≡ true → (a && b) ≡ false → a ≡ false
not_first true b is starts = absurd (cc)
not_first false b is starts = refl

-- a Set is no frame
pub frames_kept : (t : ControlTable) (beginning : Beginning) (moment : ℕ) (values : Assignments) (journal : Journal) (index : List ℕ) → stays_valid t beginning (assigns moment values) journal index ≡ true → frames_in (since t beginning (assigns moment values ∷ journal) index) ≡ frames_in (since t beginning journal index)
frames_kept t beginning moment values journal index stays = ap (λ b. frames_in (cond b (assigns moment values ∷ since t beginning journal index) [])) stays

-- a sample is no frame
pub frames_sampled : (t : ControlTable) (beginning : Beginning) → t.is_sampled ≡ false → (journal : Journal) (moment alarm : ℕ) (reading : Option ℤ) (index : List ℕ) → frames_in (since t beginning (samples moment alarm reading ∷ journal) index) ≡ frames_in (since t beginning journal index)
frames_sampled t beginning unsampled journal moment alarm reading index =
    ap (λ s. frames_in (cond (is_valid (state_of t beginning journal index) && is_valid s) (samples moment alarm reading ∷ since t beginning journal index) [])) (state_sampled t beginning unsampled journal moment alarm reading index)
    ∙ by_state (is_valid (state_of t beginning journal index)) refl
  where
    by_state : (valid : Bool) → is_valid (state_of t beginning journal index) ≡ valid → frames_in (cond (valid && valid) (samples moment alarm reading ∷ since t beginning journal index) []) ≡ frames_in (since t beginning journal index)
    by_state true e = refl
    by_state false e = ap frames_in (sym (since_idle t beginning journal index e))

-- other data of a row stays where each column leaves it
module _ {C D : Type 0} (t : ControlTable) (with_column : C → ℕ → Val → C) (blank : ℕ → C) (other : C → D) (leaves : (c : C) (n : ℕ) (v : Val) → other (with_column c n v) ≡ other c) where
  put_leaves : (i : ℕ) (p : Place) (v : Val) (c : C) → other (put_at t with_column blank i p v c) ≡ other c
  put_leaves i Outside v c = refl
  put_leaves i Entry v c = refl
  put_leaves i (Column n) v c = refl
  put_leaves i (Cell n k) v c =
      elim (nat_eq k i) as (λ s. other (cond s (cond (nat_eq n t.status) c (with_column c n v)) c) ≡ other c) [
        | true ↦ elim (nat_eq n t.status) as (λ s. other (cond s c (with_column c n v)) ≡ other c) [ true ↦ refl | false ↦ leaves c n v ]
        | false ↦ refl
      ]

  pub all_leave : (bs : Bindings) (i : ℕ) (c : C) → other (put_all t with_column blank bs i c) ≡ other c
  all_leave [] i c = refl
  all_leave (b ∷ more) i c = put_leaves i (place_of t b.name) b.value (put_all t with_column blank more i c) ∙ all_leave more i c

-- a row that is there after a Set has its next state and the bindings in its columns
pub is_after : {C : Type 0} (t : ControlTable) (with_column : C → ℕ → Val → C) (blank : ℕ → C) (bs : Bindings) (i : ℕ) (o : Option (Row C)) (row : Row C) → row_after t with_column blank bs i o ≡ Some row
    → (row.state ≡ next_state (set_ask t bs (row_index t i)) (state_seen o)) × (row.columns ≡ put_all t with_column blank bs i (unwrap_or (columns_seen o) (blank i)))
is_after {C} t with_column blank bs i o row is =
    let next : State = next_state (set_ask t bs (row_index t i)) (state_seen o) in
    let made : Row C = record { index = i; state = next; columns = put_all t with_column blank bs i (unwrap_or (columns_seen o) (blank i)) } in
    let same : made ≡ row = there made (is_absent next) is in
    (ap (λ r. r.state) (sym same), ap (λ r. r.columns) (sym same))
  where
    there : (made : Row C) (b : Bool) → cond b None (Some made) ≡ Some row → made ≡ row
    there made true e = absurd (none-some row e)
    there made false e = same_Some made row e
