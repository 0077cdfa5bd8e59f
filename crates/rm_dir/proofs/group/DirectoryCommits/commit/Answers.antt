use Rattle.rm_dir.proofs.Actives.{slots_kept}
use Rattle.rm_dir.proofs.group.DirectoryCommits.commit.Goals as goal

pub returns-clause-stands : goal.returns-clause-stands
returns-clause-stands g c settings journal values stands later askable gives = c.assign.ensures.stands journal values stands gives

pub returns-clause-keeps : goal.returns-clause-keeps
returns-clause-keeps g c journal stands = slots_kept c.assign.new.self.rows journal stands.rows stands.locals c.args.self.now.protocols c.assign.new.self.protocols c.assign.ensures.stay
