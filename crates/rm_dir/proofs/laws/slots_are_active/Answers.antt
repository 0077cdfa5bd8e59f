use Rattle.rm_dir.proofs.Actives.{are_active}
use Rattle.rm_dir.proofs.laws.slots_are_active.Goals as goal

pub returns : goal.returns
returns c = record {
  active = λ directory journal stands. are_active directory.rows journal stands.rows stands.locals directory.protocols directory.active;
  apart = λ directory. directory.apart;
}
