use Rattle.std.proofs.Common.{map, Some, ap, ◌∙◌}
use Rattle.rm_dir.proofs.Actives.{path_is}
use Rattle.rm_dir.proofs.directory.Directory.path.Goals as goal

pub returns-clause-protocols : goal.returns-clause-protocols
returns-clause-protocols c journal stands =
    c.path.ensures.protocols ∙ ap (map Some) (path_is c.args.self.now.rows journal stands.rows stands.locals c.args.self.now.protocols c.args.self.now.active c.args.facts.now)
