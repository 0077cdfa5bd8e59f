use Rattle.rm_evicting.proofs.EntryLemmas.{least, keys-since_entry}
use Rattle.rm_evicting.proofs.entries.Goals as goal

pub returns : goal.returns
returns g c = record { keys = λ cap h r. keys-since_entry g.K.PartialEq.eq cap h r; least = λ cap h ks. least g.K.PartialEq.eq cap h ks }
