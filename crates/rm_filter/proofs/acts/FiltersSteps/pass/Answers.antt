use Rattle.std.proofs.Common.{◌∙◌, sym, refl, subst}
use Rattle.rm_filter.specs.Judging.{AreAccepting}
use Rattle.rm_filter.proofs.Passed.{rows_with_frame, present_with_frame}
use Rattle.rm_filter.proofs.AcceptingLists.{accepting_are}
use Rattle.rm_filter.proofs.acts.FiltersSteps.pass.Goals as goal

pub returns-clause-begins : goal.returns-clause-begins
returns-clause-begins c settings earlier frame of stands later askable =
    let rows = c.args.self.now.tables.second.rows in
    let rising = c.len.ensures.rows.0 in
    let is = stands.second.rows in
    let are = stands.second.present in
    let found = c.judge.ensures settings earlier frame c.args.passing.now.number c.args.passing.now.moment stands.first is of in
    let list = c.as_slice-accepting.result.now in
    let listed = c.as_slice-accepting.ensures.value ∙ found in
    record {
      unset = refl;
      filter_rows = stands.first;
      channel_rows = rows_with_frame settings earlier frame rows c.change_each.new.self rising list listed c.change_each.ensures is are;
      present = present_with_frame settings earlier frame rows c.change_each.new.self rising list listed c.change_each.ensures is are;
      accepting = subst (AreAccepting settings frame earlier) (sym found) (accepting_are settings earlier frame rows is are rising);
    }
