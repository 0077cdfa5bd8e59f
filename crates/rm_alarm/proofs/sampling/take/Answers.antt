use Rattle.std.proofs.lemmas.Int.{to_z-of_z}
use Rattle.rm_alarm.proofs.Taken.{taken_rows}
use Rattle.rm_alarm.proofs.sampling.take.Goals as goal

pub returns-in-Some : goal.returns-in-Some
returns-in-Some c =
    taken_rows c.args.rows.now c.args.index c.args.moment c.args.number c.take.result c.in-Some.row.now c.take.new.self c.in-Some.ensures.value c.take.ensures.columns (simp (to_z-of_z, c.ranges.number) at c.take.ensures.course)
