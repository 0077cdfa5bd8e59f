-- That the cells of eventTable and logTable are finitely many.
use Rattle.std.proofs.Common.{◌≡◌, ℕ, ◌≤◌, List, Contains, Bool, true, arith}
use Rattle.std.specs.Prelude.{length}
use Rattle.std.specs.Option.{option_or}
use Rattle.std.proofs.lemmas.Bool.Decides.{nat_tests}
use Rattle.rm_model.specs.Counting.{Counting}
use Rattle.rm_model.specs.Journal.{Journal}
use Rattle.rm_model.specs.Cells.{cells_of}
use Rattle.rm_model.specs.Finite.{AreFinite}
use Rattle.rm_model.proofs.Finite.{both_finite, table_finite}
use Rattle.rm_nested.proofs.Finite.{rows_of, in_rows, numbered_of, in_numbered}
use Rattle.rm_event.specs.EventTable.{event_table}
use Rattle.rm_event.specs.Tables.{events_table, log_of, is_shown, log_table}

within : (entries number : ℕ) → is_shown entries number ≡ true → number ≤ entries
within entries number h = grind (arith, nat_tests)

module _ (settings : Counting) (journal : Journal) where
  -- how many entries the log of an event has, and which of them are shown
  abbrev entries : ℕ → ℕ
  entries event = length (log_of settings journal event)

  abbrev shows : ℕ → ℕ → Bool
  shows event number = is_shown (entries event) number

  -- the indexes that entries can have
  abbrev entries_of : List (List ℕ)
  entries_of = numbered_of event_table journal shows entries (λ event number. within (entries event) number)

  in_entries : (index : List ℕ) → (log_table settings journal).is_row index ≡ true → Contains entries_of index
  in_entries = in_numbered event_table journal shows entries (λ event number. within (entries event) number)

-- the cells of both are finitely many
pub event_finite : (settings : Counting) (journal : Journal) → AreFinite (λ name. option_or (cells_of (events_table settings journal) name) (cells_of (log_table settings journal) name))
event_finite settings journal =
    both_finite (cells_of (events_table settings journal)) (cells_of (log_table settings journal))
    (table_finite (events_table settings journal) (rows_of event_table journal) (in_rows event_table journal))
    (table_finite (log_table settings journal) (entries_of settings journal) (in_entries settings journal))
