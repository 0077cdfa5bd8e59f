use Rattle.std.proofs.Common.{sym, ◌∙◌, ap, Some}
use Rattle.rm_acts.specs.Events.{event_table}
use Rattle.rm_val.specs.Val.{octets}
use Rattle.rm_status.proofs.RowFacts.{some_there, none_there}
use Rattle.rm_event.proofs.Fires.{some_community, no_community}
use Rattle.rm_event.proofs.events.Events.community.Goals as goal

pub returns-in-Some-clause-value : goal.returns-in-Some-clause-value
returns-in-Some-clause-value c journal is =
    ap (λ l. Some (octets l)) c.as_slice.ensures.value
    ∙ some_community c.args.self.now.rows journal c.args.index c.in-Some.row.now is (sym c.in-Some.ensures) (some_there event_table c.args.self.now.rows c.args.index c.in-Some.row.now c.len.ensures.rows c.in-Some.ensures)

pub returns-in-None-clause-value : goal.returns-in-None-clause-value
returns-in-None-clause-value c journal is = no_community c.args.self.now.rows journal c.args.index is (none_there c.args.self.now.rows c.args.index c.in-None.ensures)
