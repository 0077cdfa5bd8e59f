use Rattle.rm_dir.proofs.Actives.{are_active}
use Rattle.rm_dir.proofs.directory.Directory.protocols.Goals as goal

pub returns-clause-active : goal.returns-clause-active
returns-clause-active c journal stands = are_active c.args.self.now.rows journal stands.rows stands.locals c.args.self.now.protocols c.args.self.now.active
