-- What all rows of a control table share.
use Rattle.std.specs.Prelude.{◌≡◌}
use Rattle.rm_model.specs.Counting.{Counting}
use Rattle.rm_model.specs.Journal.{Journal}
use Rattle.rm_layer_slots.specs.declared.slots.TableKind.{TableKind}
use Rattle.rm_layer_slots.specs.On.{is_ip_on}
use Rattle.rm_layer_tables.specs.Standing.{AreOn}
use Rattle.rm_layer_tables.specs.declared.shared.LayerShared.{LayerShared}

-- it is what the probe was set to, and what is on for tables of a kind after a journal
pub record AreShared (kind : TableKind) (shared : LayerShared) (settings : Counting) (journal : Journal) : Type 0 where
  pub upper : settings.upper ≡ shared.upper
  pub on : shared.on ≡ is_ip_on kind journal
  pub slots : AreOn kind shared.slots journal
