use Rattle.std.proofs.Common.{rules, refl}
use Rattle.rm_acts.specs.Events.{event_table}
use Rattle.rm_pool.proofs.Numbered.{numbered}
use Rattle.rm_event.proofs.SameCells.{next_cell}
use Rattle.rm_event.proofs.group.EventsGroup.after.Goals as goal

pub next_of_both-requires : goal.next_of_both-requires
next_of_both-requires c = λ k. (search rules, ((refl, tt), (λ index row here. tt, numbered event_table refl c.args.self.now.logs c.args.self.now.rows c.len.ensures.rows c.args.self.now.of_valid)))

pub returns-clause-next : goal.returns-clause-next
returns-clause-next c settings journal stands later askable =
    next_cell c.args.self.now.rows c.len.ensures.rows c.args.self.now.logs settings journal stands.rows stands.logs c.args.name.now _ _ c.next_of_both.ensures.next
