use Rattle.std.proofs.Common.{◌≡◌, List, All, length}
use Rattle.rm_val.specs.Spellable.{IsSpellable}
use Rattle.rm_pdu.specs.Message.{Binding, Message}
use Rattle.rm_reply.specs.Answered.{IsNextBinding}
use Rattle.rm_reply.specs.Drafting.{OfCells, IsDrafted}
use Rattle.rm_reply.proofs.AnswersLemmas.{IsSoFar, AreReplaced}
use Rattle.rm_reply.proofs.repetition.put_repetition.Given as goal

abbrev pub invariant-loop-place : goal.invariant-loop-place
invariant-loop-place g l =
    OfCells (g.G.Group.stands l.groups) (g.G.Group.askable l.groups) g.G.Group.cells l.now
    (λ cells. (m : Message) (list : List Binding) → IsDrafted m list l.fn.draft
    → (so_far : IsSoFar (IsNextBinding cells) l.fn.names m list l.place l.draft) × AreReplaced l.fn.names l.place so_far.answers l.names l.is_end)
    × All IsSpellable l.names × (length l.names ≡ length l.fn.names)
