-- What the columns of a row of bufferControlTable say of its buffer, where they are those after a journal.
use Rattle.std.proofs.Common.{◌≡◌, ℕ, ◌≤◌, Bool, true, false, cond, ◌||◌, Option, Some, None, refl, sym, ap, ◌∙◌, subst, nat_eq, nat_le, arith}
use Rattle.std.specs.Prelude.{pos, unwrap_or, ℤ}
use Rattle.std.proofs.lemmas.Bool.{and_parts, leb-true, eqb-true}
use Rattle.rm_val.specs.Val.{Val, int}
use Rattle.rm_val.specs.Contents.{natural_in}
use Rattle.rm_val.specs.declared.error.ErrorStatus.TheVariants.{WrongValue}
use Rattle.rm_model.specs.Alike.{HasSameColumns}
use Rattle.rm_model.specs.ControlTable.{number, up_from, default_of}
use Rattle.rm_model.specs.Judgement.{column_kind, value_fault, unless}
use Rattle.rm_columns.specs.Kinds.{numbers, needed_numbers}
use Rattle.rm_acts.specs.Buffers.{buffer_table, granted_for}
use Rattle.rm_capture.specs.declared.buffer_row.BufferRow.{BufferRow}
use Rattle.rm_capture.specs.declared.full_action.FullAction.{FullAction}
use Rattle.rm_capture.specs.declared.full_action.FullAction.TheVariants.{Lock, Wrap}
use Rattle.rm_capture.specs.FullAction.{action_number}
use Rattle.rm_capture.specs.Captured.{wraps}
use Rattle.rm_capture.specs.BufferRows.{set_to, blank_row, with_column}
use Rattle.rm_capture.specs.InRange.{IsInRange, channel_kept, slice_kept}

same_action : (action : FullAction) → nat_eq (action_number action) 2 ≡ wraps action
same_action Lock = refl
same_action Wrap = refl

same_channel : (channel : Option ℤ) → natural_in (int (unwrap_or channel (pos 0))) ≡ natural_in (unwrap_or (needed_numbers.shown channel) (int (pos 0)))
same_channel None = refl
same_channel (Some n) = refl

module _ (row : BufferRow) (other : ℕ → Option Val) (same : HasSameColumns buffer_table (set_to row) other) where
  abbrev shown : ℕ → Val
  shown column = unwrap_or (other column) (default_of buffer_table column)

  pub channel_is : channel_kept row ≡ natural_in (shown 2)
  channel_is = same_channel row.channel ∙ ap natural_in same.0.shown

  pub action_is : wraps row.full_action ≡ nat_eq (natural_in (shown 4)) 2
  action_is = sym (same_action row.full_action) ∙ ap (λ v. nat_eq (natural_in v) 2) same.1.0.shown

  pub slice_is : slice_kept row ≡ natural_in (shown 5)
  slice_is = ap natural_in same.1.1.0.shown

  pub size_is : natural_in (int row.download_slice_size) ≡ natural_in (shown 6)
  size_is = ap natural_in same.1.1.1.0.shown

  pub offset_is : natural_in (int row.download_offset) ≡ natural_in (shown 7)
  offset_is = ap natural_in same.1.1.1.1.0.shown

  pub granted_is : granted_for (slice_kept row) (int row.requested) ≡ granted_for (natural_in (shown 5)) (shown 8)
  granted_is = λ d. granted_for (slice_is d) (same.1.1.1.1.1.0.shown d)

-- the size of a slice stays in range

passes : (t : Bool) → unless (t || false) WrongValue ≡ None → t ≡ true
passes true fine = refl
passes false wrong = absurd (cc)

bounded : (greatest : ℕ) (value : Val) → value_fault (Some (number (up_from 0 greatest))) value ≡ None → natural_in (int (numbers.taken value)) ≤ greatest
bounded greatest (int (pos n)) fine = let both = and_parts (nat_le 0 n) (nat_le n greatest) (passes _ fine) in leb-true n greatest both.1
bounded greatest other fine = absurd (cc)

pub blank_in_range : IsInRange blank_row
blank_in_range = omega arith

pub put_in_range : (row : BufferRow) (n : ℕ) (value : Val) → value_fault (column_kind buffer_table n) value ≡ None → IsInRange row → IsInRange (with_column row n value)
put_in_range row n value fine is =
    elim (nat_eq 5 n) as (λ t. nat_eq 5 n ≡ t → natural_in (int (cond t (numbers.taken value) row.slice_size)) ≤ 262144) [
      | true ↦ λ e. bounded 262144 value (subst (λ k. value_fault (column_kind buffer_table k) value ≡ None) (sym (eqb-true 5 n e)) fine)
      | false ↦ λ _. is
    ] refl
