-- That the samples of alarms make no difference to the group.
use Rattle.std.specs.Prelude.{◌≡◌, ℕ, ◌%◌, ◌^◌, ℤ, List, [], ◌∷◌, Option, refl}
use Rattle.std.specs.List.{sum_by}
use Rattle.std.proofs.Common.{ap, sym, ◌∙◌}
use Rattle.rm_model.specs.Counting.{Counting}
use Rattle.rm_model.specs.Journal.{Journal, samples}
use Rattle.rm_model.specs.FrameFacts.{frame_facts}
use Rattle.rm_model.specs.Interfaces.{frames_of}
use Rattle.rm_status.proofs.RowsAfterLemmas.{rows_samples, frames_sampled}
use Rattle.rm_ether.specs.declared.ether.Ether.{Ether}
use Rattle.rm_ether.specs.EtherStats.{ether_stats, ether_beginning, ether_column, counter_sum}
use Rattle.rm_ether.specs.Counted.{counted}
use Rattle.rm_ether.specs.declared.counter.Counter.{Counter}
use Rattle.rm_ether.specs.StatisticsRows.{set_to}
use Rattle.rm_ether.specs.Group.{Stands}

module _ (settings : Counting) (journal : Journal) (moment alarm : ℕ) (reading : Option ℤ) where
  same_sum : (index : List ℕ) (each : Counter) → counter_sum settings (samples moment alarm reading ∷ journal) index each ≡ counter_sum settings journal index each
  same_sum index each =
      ap (λ frames. sum_by (λ frame. counted each (frame_facts settings frame)) (frames_of (ether_column settings journal index 2) frames))
      (frames_sampled ether_stats (ether_beginning settings) refl journal moment alarm reading index)

  pub ether_sampled : (ether : Ether) → Stands ether settings journal → Stands ether settings (samples moment alarm reading ∷ journal)
  ether_sampled ether stands = record {
    rows = rows_samples ether_stats (ether_beginning settings) set_to refl ether.rows journal moment alarm reading stands.rows;
    counters = λ index row here each. stands.counters index row here each ∙ ap (λ sum. sum % 2 ^ 64) (sym (same_sum (index ∷ []) each));
  }
