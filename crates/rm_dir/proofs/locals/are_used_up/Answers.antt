use Rattle.rm_dir.proofs.Judged.{used_counted, enough_left}
use Rattle.rm_dir.proofs.locals.are_used_up.Goals as goal

pub returns-then-given-count : goal.returns-then-given-count
returns-then-given-count g c =
    used_counted c.args.rows.now (g.A.Assigns.bindings c.args.set.now) c.requires c.args.given c.count_made.result c.count_made.ensures.value

pub returns-else-given-count : goal.returns-else-given-count
returns-else-given-count g c =
    enough_left c.args.rows.now (g.A.Assigns.bindings c.args.set.now) c.requires c.args.given c.count.result c.count.ensures.value c.if-given-count.false
