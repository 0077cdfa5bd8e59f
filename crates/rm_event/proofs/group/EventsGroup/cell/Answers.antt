use Rattle.std.proofs.Common.{rules, refl, ◌∙◌}
use Rattle.rm_acts.specs.Events.{event_table}
use Rattle.rm_pool.proofs.Numbered.{numbered}
use Rattle.rm_event.proofs.SameCells.{same_cells}
use Rattle.rm_event.proofs.group.EventsGroup.cell.Goals as goal

pub cell_of_both-requires : goal.cell_of_both-requires
cell_of_both-requires c = λ k. (search rules, ((refl, tt), (λ index row here. tt, numbered event_table refl c.args.self.now.logs c.args.self.now.rows c.len.ensures.rows c.args.self.now.of_valid)))

pub returns-clause-value : goal.returns-clause-value
returns-clause-value c settings journal stands later askable =
    c.cell_of_both.ensures.value ∙ same_cells c.args.self.now.rows c.len.ensures.rows c.args.self.now.logs settings journal stands.rows stands.logs c.args.name.now
