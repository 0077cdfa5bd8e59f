-- That alarms read the cells of the examples.
use Rattle.std.proofs.Common.{◌≡◌, ℕ, List, refl}
use Rattle.std.specs.Option.{option_or}
use Rattle.rm_model.specs.Journal.{Journal}
use Rattle.rm_model.specs.Cells.{cells_of}
use Rattle.rm_model.proofs.ExampleSettings.{plain}
use Rattle.rm_acts.specs.Recurring.{ReadBefore, read}
use Rattle.rm_acts.specs.Shown.{channels_shown, buffers_shown}
use Rattle.rm_acts.proofs.RecurringLaws.{reads_cells}
use Rattle.rm_acts.proofs.ShownLaws.{channels_before, buffers_before, both_before}
use Rattle.rm_acts.proofs.ExampleActs.{pkts_cell, sampleable, settings}

before : ReadBefore sampleable
before =
    both_before (λ settings journal now. pkts_cell journal) (λ settings journal now variable. option_or (cells_of (channels_shown settings journal) variable) (cells_of (buffers_shown settings journal) variable))
    (λ settings one other journal alike now variable. refl)
    (both_before (λ settings journal now. cells_of (channels_shown settings journal)) (λ settings journal now. cells_of (buffers_shown settings journal)) channels_before buffers_before)

reads : (journal : Journal) (now : ℕ) (variable : List ℕ) → settings.readings journal now variable ≡ read (sampleable settings journal now) variable
reads = reads_cells sampleable plain before
