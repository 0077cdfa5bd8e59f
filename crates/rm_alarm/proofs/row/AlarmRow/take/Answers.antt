use Rattle.std.proofs.Common.{◌≡◌, Option, Some, refl, sym, subst, ◌∙◌}
use Rattle.std.proofs.lemmas.Int.{to_z-of_z}
use Rattle.rm_alarm.specs.declared.course.Course.{Course}
use Rattle.rm_alarm.specs.Taking.{Took}
use Rattle.rm_alarm.proofs.row.AlarmRow.take.Goals as goal

in_some : (x y : Course) → ◌≡◌ {A = Option Course} (Some x) (Some y) → x ≡ y
in_some x y e = cc

pub returns-clause-course : goal.returns-clause-course
returns-clause-course c course is =
    let same : c.in-Some.course ≡ course = in_some c.in-Some.course course (sym c.in-Some.is ∙ is) in (
      c.take-sampled.new.self,
      refl,
      subst (λ x. Took c.args.self.now x c.args.moment c.args.number c.take-sampled.new.self c.take-sampled.result) same (record {
        due = rw (← c.seconds.ensures) c.take-sampled.ensures.due;
        counter = c.take-sampled.ensures.counter;
        reading = simp (to_z-of_z, c.ranges.number) at c.take-sampled.ensures.reading;
        keeps = simp (to_z-of_z, c.ranges.number, c.is_delta-delta.ensures) at c.take-sampled.ensures.keeps;
        crosses = simp (to_z-of_z, c.ranges.number, c.is_delta-delta.ensures) at c.take-sampled.ensures.crossing;
      }),
    )
