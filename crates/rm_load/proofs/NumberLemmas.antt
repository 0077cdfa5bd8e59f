-- A variable of row 1 of a table has a number where the row is there once the Sets are made, and stays when a frame passes.
use Rattle.std.proofs.Common.{◌≡◌, ◌∙◌, ℕ, zero, suc, [], ◌∷◌, true, Option, Some, None}
use Rattle.std.specs.Option.{option_or}
use Rattle.rm_val.specs.Val.{Val}
use Rattle.rm_model.specs.Cells.{Table, cell_at}
use Rattle.rm_model.specs.Journal.{Frame, Journal, passes}
use Rattle.rm_load.specs.Acts.{rows_made, acts_of}
use Rattle.rm_load.specs.Frames.{frame_at}
use Rattle.rm_load.specs.Text.{IsNumber}

-- the first that has a value gives it
in_front : (one other : Option Val) → IsNumber one → IsNumber (option_or one other)
in_front (Some value) other is = is
in_front None other is = absurd is

pub in_three : (one a b c : Option Val) → IsNumber one → IsNumber (option_or (option_or (option_or one a) b) c)
in_three one a b c is = in_front (option_or (option_or one a) b) c (in_front (option_or one a) b (in_front one a is))

pub in_four : (one a b c d : Option Val) → IsNumber one → IsNumber (option_or (option_or (option_or (option_or one a) b) c) d)
in_four one a b c d is = in_three (option_or one a) b c d (in_front one a is)

pub in_five : (one a b c d e : Option Val) → IsNumber one → IsNumber (option_or (option_or (option_or (option_or (option_or one a) b) c) d) e)
in_five one a b c d e is = in_four (option_or one a) b c d e (in_front one a is)

module _ (table : Journal → Table)
    (made : (table rows_made).is_row (1 ∷ []) ≡ true)
    (goes_on : (frame : Frame) (earlier : Journal) → (table (passes frame ∷ earlier)).is_row (1 ∷ []) ≡ (table earlier).is_row (1 ∷ []))
    (start : ℕ) where
  stays : (count : ℕ) → (table (acts_of start count)).is_row (1 ∷ []) ≡ true
  stays zero = made
  stays (suc i) = goes_on (frame_at start (suc i)) (acts_of start i) ∙ stays i

  pub in_row : (count column : ℕ) → IsNumber (Some ((table (acts_of start count)).value column (1 ∷ [])))
      → IsNumber (cell_at (table (acts_of start count)) (Some (record { column = column; index = 1 ∷ [] })))
  in_row count column is = rw (stays count) is
