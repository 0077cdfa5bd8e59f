-- The laws of the groups whose variables alarms may sample, as one group.
use Rattle.std.specs.Prelude.{◌↔◌, ℕ, ◌||◌, List, Bool, Option, refl}
use Rattle.std.specs.Option.{option_or}
use Rattle.rm_val.specs.Val.{Val}
use Rattle.rm_val.specs.declared.error.ErrorStatus.{ErrorStatus}
use Rattle.rm_model.specs.Counting.{Counting}
use Rattle.rm_model.specs.Journal.{Journal}
use Rattle.rm_model.specs.Cells.{Cells, cells_of}
use Rattle.rm_model.specs.Finite.{AreFinite}
use Rattle.rm_model.proofs.Finite.{both_finite}
use Rattle.rm_acts.specs.Recurring.{ReadBefore}
use Rattle.rm_acts.proofs.ShownLaws.{both_before}
use Rattle.rm_group.specs.Due.{HaveEnded}
use Rattle.rm_group.specs.Listed.{is_listed, is_settable, AreOfObjects, AreRefused, both_of_objects, both_refused, control_listed, of_table}
use Rattle.rm_ether.specs.Columns.{ether_columns}
use Rattle.rm_ether.specs.EtherStats.{ether_stats, ether_table}
use Rattle.rm_ether.specs.FiniteLaws.{ether_finite}
use Rattle.rm_ether.specs.Group.{ether_tables, ether_alone}
use Rattle.rm_collectors.specs.Group.{collected_cells, collected_objects, collected_settable, collected_alone}
use Rattle.rm_collectors.specs.Laws.{all_asked as collectors_asked, all_finite as collected_finite, all_listed as collected_listed, all_recurring as collected_recurring, all_refused as collected_refused}
use Rattle.rm_protocols.specs.Group.{protocol_cells, distributed_cells, protocol_objects, protocol_settable, protocol_alone}
use Rattle.rm_protocols.specs.Laws.{all_finite as protocols_finite, all_listed as protocols_listed, all_recurring as protocols_recurring, all_refused as protocols_refused}
use Rattle.rm_channels.specs.Group.{channel_cells, channel_sampleable, channel_objects, channel_settable, channel_alone}
use Rattle.rm_channels.specs.Laws.{all_finite as channels_finite, all_listed as channels_listed, all_recurring as channels_recurring, all_refused as channels_refused}
use Rattle.rm_sources.specs.Group.{IsAskable, FallsDue, collectors_of, source_cells, sampled_cells, source_objects, source_settable, source_alone}
use Rattle.rm_sources.specs.declared.sources.Sources.{Sources}

-- etherStats and the tables that collect, and the protocols with the channels
abbrev counted_cells : Counting → Journal → (now : ℕ) → Cells
counted_cells settings journal now name = option_or (cells_of (ether_table settings journal) name) (collected_cells settings journal now name)

abbrev classified_cells : Counting → Journal → (now : ℕ) → Cells
classified_cells settings journal now name = option_or (protocol_cells settings journal now name) (channel_cells settings journal now name)

abbrev counted_objects : List ℕ → Bool
counted_objects name = is_listed ether_tables name || collected_objects name

abbrev classified_objects : List ℕ → Bool
classified_objects name = protocol_objects name || channel_objects name

abbrev counted_settable : List ℕ → Bool
counted_settable name = is_settable ether_stats name || collected_settable name

abbrev classified_settable : List ℕ → Bool
classified_settable name = protocol_settable name || channel_settable name

abbrev counted_alone : List ℕ → Val → Option ErrorStatus
counted_alone name value = option_or (ether_alone name value) (collected_alone name value)

abbrev classified_alone : List ℕ → Val → Option ErrorStatus
classified_alone name value = option_or (protocol_alone name value) (channel_alone name value)

-- the cells are finitely many
pub all_finite : (settings : Counting) (journal : Journal) (now : ℕ) → AreFinite (source_cells settings journal now)
unfolding source_cells
all_finite settings journal now =
    both_finite (counted_cells settings journal now) (classified_cells settings journal now)
    (both_finite (cells_of (ether_table settings journal)) (collected_cells settings journal now) (ether_finite settings journal) (collected_finite settings journal now))
    (both_finite (protocol_cells settings journal now) (channel_cells settings journal now) (protocols_finite settings journal now) (channels_finite settings journal now))

-- those that alarms may sample depend on what alarms read after earlier acts only
pub all_recurring : ReadBefore sampled_cells
unfolding sampled_cells
all_recurring =
    both_before counted_cells (λ settings journal now name. option_or (distributed_cells settings journal name) (channel_sampleable settings journal now name))
    (both_before (λ settings journal now. cells_of (ether_table settings journal)) collected_cells (λ settings one other journal alike now name. refl) collected_recurring)
    (both_before (λ settings journal now. distributed_cells settings journal) channel_sampleable protocols_recurring channels_recurring)

-- each has a name that begins with one of the objects
pub all_listed : (settings : Counting) (journal : Journal) (now : ℕ) → AreOfObjects source_objects (source_cells settings journal now)
unfolding source_cells source_objects
all_listed settings journal now =
    both_of_objects counted_objects classified_objects (counted_cells settings journal now) (classified_cells settings journal now)
    (both_of_objects (is_listed ether_tables) collected_objects (cells_of (ether_table settings journal)) (collected_cells settings journal now)
    (of_table (ether_table settings journal)) (collected_listed settings journal now))
    (both_of_objects protocol_objects channel_objects (protocol_cells settings journal now) (channel_cells settings journal now)
    (protocols_listed settings journal now) (channels_listed settings journal now))

-- an object that can't be set is notWritable
pub all_refused : AreRefused source_objects source_settable source_alone
unfolding source_objects source_settable source_alone
all_refused =
    both_refused counted_objects classified_objects counted_settable classified_settable counted_alone classified_alone
    (both_refused (is_listed ether_tables) collected_objects (is_settable ether_stats) collected_settable ether_alone collected_alone
    (control_listed ether_stats ether_columns) collected_refused)
    (both_refused protocol_objects channel_objects protocol_settable channel_settable protocol_alone channel_alone protocols_refused channels_refused)

-- they may be asked at a moment exactly where the reports have ended that are due by then
pub all_asked : (held : Sources) (moment : ℕ) → IsAskable held moment ↔ HaveEnded (FallsDue held) moment
all_asked held moment =
    let asked = collectors_asked (collectors_of held) moment in
    (λ may. asked.0 may.0.1, λ ended. ((tt, asked.1 ended), (tt, (tt, tt))))
