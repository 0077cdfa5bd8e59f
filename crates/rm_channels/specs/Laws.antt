-- The laws of filters, channels and buffers as one group.
use Rattle.std.specs.Prelude.{ℕ}
use Rattle.rm_model.specs.Counting.{Counting}
use Rattle.rm_model.specs.Journal.{Journal}
use Rattle.rm_model.specs.Cells.{cells_of}
use Rattle.rm_model.specs.Finite.{AreFinite}
use Rattle.rm_model.proofs.Finite.{both_finite}
use Rattle.rm_acts.specs.Recurring.{ReadBefore}
use Rattle.rm_acts.specs.Shown.{channels_shown}
use Rattle.rm_acts.proofs.ShownLaws.{channels_before, both_before}
use Rattle.rm_group.specs.Listed.{is_listed, is_settable, AreOfObjects, AreRefused, both_of_objects, both_refused}
use Rattle.rm_collect.specs.Collection.{alone}
use Rattle.rm_filter.specs.Group.{filter_cells, filters_alone, group_tables, are_settable, cells_finite, shown_listed, refused_listed}
use Rattle.rm_capture.specs.BufferRows.{buffer_rows}
use Rattle.rm_capture.specs.Collection.{buffer_collection}
use Rattle.rm_capture.specs.Lawful.{buffer_lawful}
use Rattle.rm_channels.specs.Group.{channel_cells, channel_sampleable, channel_objects, channel_settable, channel_alone}

-- the cells are finitely many
pub all_finite : (settings : Counting) (journal : Journal) (now : ℕ) → AreFinite (channel_cells settings journal now)
all_finite settings journal now =
    both_finite (filter_cells settings journal) (buffer_collection.cells settings journal now) (cells_finite settings journal) (buffer_lawful.finite settings journal now)

-- they depend on what alarms read after earlier acts only
pub all_recurring : ReadBefore channel_sampleable
all_recurring = both_before (λ settings journal now. cells_of (channels_shown settings journal)) buffer_collection.sampleable channels_before buffer_lawful.recurring

-- each has a name that begins with one of the objects
pub all_listed : (settings : Counting) (journal : Journal) (now : ℕ) → AreOfObjects channel_objects (channel_cells settings journal now)
all_listed settings journal now =
    both_of_objects (is_listed group_tables) (is_listed buffer_collection.tables) (filter_cells settings journal) (buffer_collection.cells settings journal now)
    (shown_listed settings journal) (buffer_lawful.shows_listed settings journal now)

-- an object that can't be set is notWritable
pub all_refused : AreRefused channel_objects channel_settable channel_alone
all_refused =
    both_refused (is_listed group_tables) (is_listed buffer_collection.tables) are_settable (is_settable buffer_rows.table) filters_alone (alone buffer_rows buffer_collection)
    refused_listed buffer_lawful.refuses_listed
