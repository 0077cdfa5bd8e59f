use Rattle.rm_rows.proofs.PlaceLemmas.{moved_up, moved_down}
use Rattle.rm_rows.proofs.index.move_item.Goals as goal

pub returns-then-from-to-clause-moved : goal.returns-then-from-to-clause-moved
returns-then-from-to-clause-moved g c = λ item e. moved_up c.args.items.now c.args.from c.args.to item c.rotate_left.new.self c.if-from-to.true e c.rotate_left.ensures.after

pub returns-else-from-to-clause-moved : goal.returns-else-from-to-clause-moved
returns-else-from-to-clause-moved g c = λ item e. moved_down c.args.items.now c.args.from c.args.to item c.rotate_right.new.self c.if-from-to.false c.requires.from e c.rotate_right.ensures.after
