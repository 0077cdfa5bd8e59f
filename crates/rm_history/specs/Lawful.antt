-- What holds of the histories that the valid rows of historyControl collect.
use Rattle.std.specs.Prelude.{[], ◌∷◌, refl}
use Rattle.rm_model.specs.Counting.{Counting}
use Rattle.rm_model.specs.Journal.{Frame, Journal, assigns, samples}
use Rattle.rm_model.specs.Cells.{cells_of}
use Rattle.rm_group.specs.Listed.{of_table, with_table, beside_listed}
use Rattle.rm_collect.specs.Passed.{Passed}
use Rattle.rm_collect.specs.Collection.{IsLawful}
use Rattle.rm_collect.specs.Turned.{IsByItself}
use Rattle.rm_history.specs.Columns.{control_columns}
use Rattle.rm_history.specs.HistoryControl.{history_control, control_table}
use Rattle.rm_history.specs.EtherHistory.{sample_listed, sample_table}
use Rattle.rm_history.specs.ControlColumns.{control_rows}
use Rattle.rm_history.specs.Finite.{history_finite}
use Rattle.rm_history.specs.RangeLaws.{blank_in_range, put_in_range}
use Rattle.rm_history.specs.RunLaws.{fits_later, fits_counted, run_taken, run_going}
use Rattle.rm_history.specs.SameCells.{same_cells}
use Rattle.rm_history.specs.Collection.{history_collection}

pub history_lawful : IsLawful control_rows history_collection
unfolding history_collection
history_lawful = record {
  blank_in_range = λ index. blank_in_range;
  put_in_range = put_in_range;
  fits_later = fits_later;
  fits_taken = λ judged seen. fits_counted seen.facts seen.moment;
  is_of_taken = λ settings journal row frame judged run new valid judges. run_taken settings journal row frame run new valid;
  is_of_sampled = λ settings journal moment alarm reading row part valid. run_going settings journal (samples moment alarm reading ∷ journal) row part;
  begun_going = λ settings moment values earlier row part before after. run_going settings earlier (assigns moment values ∷ earlier) row part;
  suits_taken = λ settings journal frame shared suits. suits;
  suits_sampled = λ settings journal moment alarm reading shared suits. suits;
  same = same_cells;
  same_sampled = same_cells;
  recurring = λ settings one other journal alike now name. refl;
  finite = history_finite;
  by_number = refl;
  unsampled = refl;
  shows_listed = λ settings journal now. with_table (control_table journal) (sample_listed ∷ []) (cells_of (sample_table settings journal now)) (of_table (sample_table settings journal now));
  refuses_listed = beside_listed history_control control_columns sample_listed;
}

-- the facts of a frame are all that counts, and each frame may be taken
pub unjudged : (settings : Counting) (journal : Journal) (frame : Frame) → history_collection.judges settings journal frame []
unfolding history_collection
unjudged settings journal frame = tt

pub all_within : (seen : Passed) → history_collection.within seen
unfolding history_collection
all_within seen = tt

-- no other group makes a difference to them
pub by_itself : IsByItself history_collection
unfolding history_collection
by_itself = record {
  whole = λ settings moment values earlier row part begun. begun;
  lasting = λ settings moment values earlier shared suits. suits;
}
