-- What the table of packets shows at an index.
use Rattle.std.proofs.Common.{◌≡◌, ℕ, List, [], ◌∷◌, true, cond, Option, Some, None, sym, ap, ◌∙◌}
use Rattle.std.proofs.lemmas.Option.{same_Some}
use Rattle.rm_val.specs.Val.{Val}
use Rattle.rm_status.specs.declared.row.Row.{Row}
use Rattle.rm_pool.specs.declared.slot.Slot.{Slot}
use Rattle.rm_pool.specs.Slots.{part_in}
use Rattle.rm_nested.specs.Nested.{is_nested}
use Rattle.rm_nested.specs.NumberedRows.{is_kept_of, shown_by, two_numbers, value_by, value_at}
use Rattle.rm_capture.specs.declared.buffer.Buffer.{Buffer}
use Rattle.rm_capture.specs.declared.buffer_row.BufferRow.{BufferRow}
use Rattle.rm_capture.specs.BufferShown.{shows, packet_value}

module _ (rows : List (Row BufferRow)) (buffers : List (Slot Buffer)) (now column : ℕ) where
  abbrev shown : ℕ → ℕ → Option Buffer → Option Val
  shown row number o = cond (shown_by shows o now number) (Some (value_by (packet_value rows) row o number column)) None

  -- the packet of a buffer, by the two numbers of an index
  pub shown_at : (index : List ℕ) (row number : ℕ) (buffer : Buffer) → two_numbers index ≡ Some (row, number) → part_in buffers row ≡ Some buffer → shows buffer now number ≡ true
      → Some (packet_value rows row buffer number column) ≡ cond (is_nested (is_kept_of shows buffers now) index) (Some (value_at (packet_value rows) buffers column index)) None
  shown_at [] row number buffer e here is = absurd (cc)
  shown_at (a ∷ []) row number buffer e here is = absurd (cc)
  shown_at (a ∷ b ∷ []) row number buffer e here is =
      sym (ap (λ (p : ℕ × ℕ). shown p.0 p.1 (part_in buffers p.0)) (same_Some _ _ e)
      ∙ ap (shown row number) here
      ∙ ap (λ t. cond t (Some (packet_value rows row buffer number column)) None) is)
  shown_at (a ∷ b ∷ next ∷ more) row number buffer e here is = absurd (cc)
