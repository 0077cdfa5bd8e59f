use Rattle.std.proofs.Common.{List, take}
use Rattle.rm_pdu.specs.Message.{Binding, Message}
use Rattle.rm_reply.specs.Replies.{names_of}
use Rattle.rm_reply.specs.Drafting.{OfCells, IsFound, IsAsked, IsDrafted}
use Rattle.rm_reply.proofs.AnswersLemmas.{IsSoFar}
use Rattle.rm_reply.proofs.asked.put_asked.Given as goal

abbrev pub invariant-loop-place : goal.invariant-loop-place
invariant-loop-place g l =
    OfCells (g.G.Group.stands l.groups) (g.G.Group.askable l.groups) g.G.Group.cells l.now
    (λ cells. (m : Message) (list : List Binding) → IsAsked l.request m → IsDrafted m list l.fn.draft
    → IsSoFar (IsFound cells g.G.Objects.objects l.lookup) (take l.to (names_of m.bindings)) m list l.place l.draft)
