-- The laws of what the rows of bufferControlTable collect.
use Rattle.std.proofs.Common.{[], ◌∷◌, refl, arith}
use Rattle.rm_model.specs.Journal.{assigns, samples}
use Rattle.rm_model.specs.Cells.{cells_of}
use Rattle.rm_group.specs.Listed.{of_table, with_table, beside_listed}
use Rattle.rm_acts.specs.Buffers.{buffer_table}
use Rattle.rm_acts.specs.Shown.{buffers_shown}
use Rattle.rm_acts.proofs.ShownLaws.{buffers_before}
use Rattle.rm_collect.specs.Collection.{IsLawful}
use Rattle.rm_collect.specs.Turned.{IsByItself}
use Rattle.rm_capture.specs.BufferRows.{buffer_columns, buffer_rows}
use Rattle.rm_capture.specs.BufferColumns.{blank_in_range, put_in_range}
use Rattle.rm_capture.specs.PacketTable.{packet_listed, packet_table}
use Rattle.rm_capture.specs.TakingLaws.{buffer_taken, buffer_going}
use Rattle.rm_capture.specs.SameCells.{same_control, same_cells}
use Rattle.rm_capture.specs.Finite.{buffers_finite}
use Rattle.rm_capture.specs.Collection.{buffer_collection}

pub buffer_lawful : IsLawful buffer_rows buffer_collection
unfolding buffer_collection
buffer_lawful = record {
  blank_in_range = λ index. blank_in_range;
  put_in_range = put_in_range;
  fits_later = λ last now frames buffer later fits. fits;
  fits_taken = λ judged seen frames buffer new fits takes. omega (arith, fits, takes.accepted);
  is_of_taken = λ settings journal row frame judged buffer new valid judges fits is takes. buffer_taken settings journal row frame judged buffer new valid judges is takes;
  is_of_sampled = λ settings journal moment alarm reading row part valid. buffer_going settings journal (samples moment alarm reading ∷ journal) row part;
  begun_going = λ settings moment values earlier row part before after. buffer_going settings earlier (assigns moment values ∷ earlier) row part;
  suits_taken = λ settings journal frame shared suits. suits;
  suits_sampled = λ settings journal moment alarm reading shared suits. suits;
  same = λ settings journal now rows buffers held is are later. same_cells settings journal rows buffers held is are;
  same_sampled = λ settings journal now rows buffers held is are later. same_control settings journal rows buffers held is are;
  recurring = buffers_before;
  finite = λ settings journal now. buffers_finite settings journal;
  by_number = refl;
  unsampled = refl;
  shows_listed = λ settings journal now. with_table (buffers_shown settings journal) (packet_listed ∷ []) (cells_of (packet_table settings journal)) (of_table (packet_table settings journal));
  refuses_listed = beside_listed buffer_table buffer_columns packet_listed;
}

-- no other group makes a difference to them
pub by_itself : IsByItself buffer_collection
unfolding buffer_collection
by_itself = record {
  whole = λ settings moment values earlier row part begun. begun;
  lasting = λ settings moment values earlier shared suits. suits;
}
