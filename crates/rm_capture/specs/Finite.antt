-- That the cells of bufferControlTable and captureBufferTable are finitely many.
use Rattle.std.proofs.Common.{◌≡◌, ℕ, ◌+◌, ◌≤◌, List, [], ◌∷◌, Bool, true, false, cond, Some, find, nat_eq, refl, arith}
use Rattle.std.specs.Prelude.{is_some}
use Rattle.std.proofs.lemmas.Bool.Decides.{nat_tests}
use Rattle.rm_model.specs.Counting.{Counting}
use Rattle.rm_model.specs.Journal.{Journal}
use Rattle.rm_model.specs.Cells.{cells_of}
use Rattle.rm_model.specs.Finite.{AreFinite}
use Rattle.rm_model.proofs.Finite.{both_finite, table_finite}
use Rattle.rm_nested.proofs.Finite.{rows_of, in_rows, numbered_of, in_numbered}
use Rattle.rm_acts.specs.Buffers.{Packet, buffer_table}
use Rattle.rm_acts.specs.Shown.{buffers_shown}
use Rattle.rm_capture.specs.PacketTable.{has_number, packets_kept, packet_of, packet_table, buffer_cells}

-- no packet has a number above the sum of all
abbrev sum_of : List Packet → ℕ
sum_of [] = 0
sum_of (packet ∷ packets) = packet.number + sum_of packets

below_sum : (number : ℕ) (packets : List Packet) → is_some (find (has_number number) packets) ≡ true → number ≤ sum_of packets
below_sum number [] is = absurd (cc)
below_sum number (packet ∷ packets) is =
    elim (nat_eq packet.number number) as (λ t. nat_eq packet.number number ≡ t → is_some (cond t (Some packet) (find (has_number number) packets)) ≡ true → number ≤ packet.number + sum_of packets) [
      | true ↦ λ same _. let e : packet.number ≡ number = grind (arith, nat_tests) in omega (arith, e)
      | false ↦ λ _ more. let rest = below_sum number packets more in omega (arith, rest)
    ] refl is

module _ (settings : Counting) (journal : Journal) where
  -- which packets a buffer shows, and a number that none is above
  abbrev shows : ℕ → ℕ → Bool
  shows row number = is_some (packet_of settings journal row number)

  abbrev last : ℕ → ℕ
  last row = sum_of (packets_kept settings journal row)

  low : (row number : ℕ) → shows row number ≡ true → number ≤ last row
  low row number shown = below_sum number (packets_kept settings journal row) shown

  -- the indexes that packets can have
  abbrev packets_of : List (List ℕ)
  packets_of = numbered_of buffer_table journal shows last low

  -- the cells of both tables
  pub buffers_finite : AreFinite (buffer_cells settings journal)
  buffers_finite =
      both_finite (cells_of (buffers_shown settings journal)) (cells_of (packet_table settings journal))
      (table_finite (buffers_shown settings journal) (rows_of buffer_table journal) (in_rows buffer_table journal))
      (table_finite (packet_table settings journal) packets_of (in_numbered buffer_table journal shows last low))
