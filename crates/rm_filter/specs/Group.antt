-- The group filter, as a caller sees it.
use Rattle.std.specs.Prelude.{◌≡◌, ◌⊎◌, ℕ, List, [], ◌∷◌, Bool, true, false, ◌||◌, Option, Some, None, refl}
use Rattle.std.proofs.Common.{subst}
use Rattle.std.specs.Option.{option_or}
use Rattle.rm_val.specs.Val.{Val}
use Rattle.rm_val.specs.declared.error.ErrorStatus.{ErrorStatus}
use Rattle.rm_val.specs.declared.error.ErrorStatus.TheVariants.{NotWritable}
use Rattle.rm_model.specs.Counting.{Counting}
use Rattle.rm_model.specs.Journal.{Journal}
use Rattle.rm_model.specs.Cells.{Cells, cells_of, is_of_column}
use Rattle.rm_model.specs.ControlRows.{no_rows}
use Rattle.rm_model.specs.Finite.{AreFinite}
use Rattle.rm_model.specs.Judgement.{Bindings, second_pass, rows_after}
use Rattle.rm_model.proofs.Finite.{both_finite}
use Rattle.rm_group.specs.Listed.{ListedTable, AreOfObjects, AreRefused, is_listed, is_settable, with_table, of_table, both_refused, control_listed}
use Rattle.rm_acts.specs.Filters.{filter_entry, filter_table}
use Rattle.rm_acts.specs.Channels.{channel_table}
use Rattle.rm_acts.specs.Shown.{channels_shown}
use Rattle.rm_filter.specs.FilterRows.{filter_columns}
use Rattle.rm_filter.specs.ChannelRows.{channel_columns}
use Rattle.rm_filter.specs.Tables.{filters_shown, channel_tables, filter_alone, channel_alone}
use Rattle.rm_filter.specs.Finite.{filters_finite, channels_finite}

-- the cells of filterTable and channelTable after a journal
abbrev pub filter_cells : Counting → Journal → Cells
filter_cells settings journal name = option_or (cells_of (filters_shown journal) name) (cells_of (channels_shown settings journal) name)

-- what is wrong with a binding alone, and together with the others of its row
abbrev pub filters_alone : List ℕ → Val → Option ErrorStatus
filters_alone name value = option_or (filter_alone name value) (channel_alone name value)

abbrev pub filters_together : Journal → Bindings → ℕ → Option ErrorStatus
filters_together journal bindings place =
    option_or (second_pass filter_table (rows_after filter_table no_rows journal) bindings place)
    (second_pass channel_table (rows_after channel_table no_rows journal) bindings place)

-- the cells are finitely many
pub cells_finite : (settings : Counting) (journal : Journal) → AreFinite (filter_cells settings journal)
cells_finite settings journal =
    both_finite (cells_of (filters_shown journal)) (cells_of (channels_shown settings journal)) (filters_finite journal) (channels_finite settings journal)

-- the tables of the group
abbrev pub group_tables : List ListedTable
group_tables = record { entry = filter_entry; columns = filter_columns } ∷ channel_tables

-- whether a name begins with a column that can be set
abbrev pub are_settable : List ℕ → Bool
are_settable name = is_settable filter_table name || is_settable channel_table name

pub shown_listed : (settings : Counting) (journal : Journal) → AreOfObjects (is_listed group_tables) (filter_cells settings journal)
shown_listed settings journal = with_table (filters_shown journal) channel_tables (cells_of (channels_shown settings journal)) (of_table (channels_shown settings journal))

or_false : (b : Bool) → (b || false) ≡ b
or_false true = refl
or_false false = refl

pub refused_listed : AreRefused (is_listed group_tables) are_settable filters_alone
refused_listed name value none =
    subst (λ (b : Bool). (filters_alone name value ≡ Some NotWritable) ⊎ (((b || is_listed channel_tables name) ≡ false) × (filters_alone name value ≡ None)))
    (or_false (is_of_column filter_entry filter_columns name))
    (both_refused (is_listed (record { entry = filter_entry; columns = filter_columns } ∷ [])) (is_listed channel_tables) (is_settable filter_table) (is_settable channel_table) filter_alone channel_alone
    (control_listed filter_table filter_columns) (control_listed channel_table channel_columns) name value none)
