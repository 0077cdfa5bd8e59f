-- What alarms read of the group that they watch.
use Rattle.std.proofs.Common.{◌≡◌, ℕ, List, sym, ap, ◌∙◌}
use Rattle.rm_model.specs.Counting.{Counting}
use Rattle.rm_model.specs.Journal.{Journal}
use Rattle.rm_model.specs.Cells.{Cells}
use Rattle.rm_acts.specs.Recurring.{reading_of}
use Rattle.rm_acts.specs.Recurring.{Sampleable}
use Rattle.rm_alarm.specs.Watched.{ReadsFrom}

-- what the group shows reads as the settings say
module _ (cells : Sampleable) (shown : Cells) (settings : Counting) (journal : Journal) (now : ℕ) (shows : (name : List ℕ) → shown name ≡ cells settings journal now name) (readings : ReadsFrom cells settings) where
  pub reads : (name : List ℕ) → reading_of (shown name) ≡ settings.readings journal now name
  reads name = ap reading_of (shows name) ∙ sym (readings journal now name)

  pub same_readings : (λ name. reading_of (shown name)) ≡ settings.readings journal now
  same_readings = λ d name. reads name d
