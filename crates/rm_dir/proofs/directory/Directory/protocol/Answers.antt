use Rattle.std.proofs.Common.{◌∙◌}
use Rattle.rm_dir.proofs.Actives.{held_is_active}
use Rattle.rm_dir.proofs.directory.Directory.protocol.Goals as goal

pub returns : goal.returns
returns c journal stands = c.held_protocol.ensures ∙ rw c.rows.ensures (held_is_active c.args.self.now.rows journal stands.rows stands.locals c.args.identifier)
