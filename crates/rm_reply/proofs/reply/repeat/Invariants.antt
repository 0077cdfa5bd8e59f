use Rattle.std.proofs.Common.{◌-◌, List, All}
use Rattle.rm_val.specs.Spellable.{IsSpellable}
use Rattle.rm_pdu.specs.Message.{Binding, Message}
use Rattle.rm_reply.specs.Answered.{IsNextBinding}
use Rattle.rm_reply.specs.Drafting.{OfCells, IsDrafted}
use Rattle.rm_reply.proofs.BulkLemmas.{Repeats}
use Rattle.rm_reply.proofs.reply.repeat.Given as goal

abbrev pub invariant-loop : goal.invariant-loop
invariant-loop g l =
    OfCells (g.G.Group.stands l.groups) (g.G.Group.askable l.groups) g.G.Group.cells l.now
    (λ cells. (m : Message) (list : List Binding) → IsDrafted m list l.fn.draft → Repeats (IsNextBinding cells) l.most l.fn.names m list (l.most - l.counter) l.names l.draft)
    × All IsSpellable l.names
