-- A control table whose valid rows collect, as a caller sees it.
use Rattle.std.specs.Prelude.{◌≡◌, ℕ, [], ◌∷◌, length}
use Rattle.rm_model.specs.Counting.{Counting}
use Rattle.rm_model.specs.Journal.{Act, Journal, passes, assigns, samples, frames_in}
use Rattle.rm_model.specs.ControlRows.{no_rows}
use Rattle.rm_model.specs.Judgement.{Bindings}
use Rattle.rm_group.specs.Alone.{AreFineAlone}
use Rattle.rm_columns.specs.RowForm.{RowForm}
use Rattle.rm_status.specs.Fine as rows
use Rattle.rm_status.specs.RowsAfter.{AreRowsAfter}
use Rattle.rm_pool.specs.Room as pool
use Rattle.rm_pool.specs.Slots.{part_in}
use Rattle.rm_collect.specs.Rows.{IsKept}
use Rattle.rm_collect.specs.Collection.{Collection, alone, begun_by}
use Rattle.rm_collect.specs.Held.{Held}

module _ {C P S : Type 0} where
  -- how many frames it was given
  abbrev pub frames_given : Held C P S → ℕ
  frames_given held = held.frames

  -- the moment of the frame or the Set that it was given last, 0 before the first
  abbrev pub last_given : Held C P S → ℕ
  last_given held = held.last

  -- there is the storage of one row, whether it is spare or not
  abbrev pub IsStocked : Held C P S → Type 0
  IsStocked held = pool.IsStocked held.parts

module _ {C P S : Type 0} (form : RowForm C) where
  -- there is storage for the valid rows only, or for one row where none is valid
  abbrev pub IsReleased : Held C P S → Type 0
  IsReleased held = pool.IsReleased form held.rows held.parts

module _ {C P S J : Type 0} (form : RowForm C) (collection : Collection C P S J) where
  -- It stands for a journal: what the rows share is what the probe was set to and what another group makes of the journal, it was given as
  -- many frames as the journal has, its rows are those after it, and exactly the valid ones have what they have collected.
  pub record Stands (held : Held C P S) (settings : Counting) (journal : Journal) : Type 0 where
    pub suits : collection.suits held.shared settings journal
    pub given : held.frames ≡ length (frames_in journal)
    pub rows : AreRowsAfter form.table no_rows form.set_to held.rows journal
    pub parts : (row : ℕ) → IsKept form.table collection.is_of settings journal row (part_in held.parts row)

  -- It has begun a Set, the act after a journal: its rows are those after the Set, and what they share is still what it was before.
  pub record HasBegunSet (held : Held C P S) (settings : Counting) (act : Act) (earlier : Journal) : Type 0 where
    pub suits : collection.suits held.shared settings earlier
    pub given : held.frames ≡ length (frames_in earlier)
    pub rows : AreRowsAfter form.table no_rows form.set_to held.rows (act ∷ earlier)
    pub parts : (row : ℕ) → IsKept form.table (begun_by collection act earlier) settings (act ∷ earlier) row (part_in held.parts row)

  -- It has begun the Set that is the last act of a journal.
  abbrev pub HasBegun : Held C P S → Counting → Journal → Type 0
  HasBegun held settings [] = ⊥
  HasBegun held settings (passes frame ∷ earlier) = ⊥
  HasBegun held settings (samples moment alarm reading ∷ earlier) = ⊥
  HasBegun held settings (assigns moment values ∷ earlier) = HasBegunSet held settings (assigns moment values) earlier

  -- both passes find nothing wrong with a Set, by the rows that are held
  pub record AreFine (held : Held C P S) (bindings : Bindings) : Type 0 where
    pub each : AreFineAlone (alone form collection) bindings
    pub by_rows : rows.AreFine form held.rows bindings

  -- nothing is wrong with a Set, and there is storage for each row that is valid after it
  pub record IsPrepared (held : Held C P S) (bindings : Bindings) : Type 0 where
    pub fine : AreFine held bindings
    pub room : pool.HasRoom form held.rows held.parts bindings
