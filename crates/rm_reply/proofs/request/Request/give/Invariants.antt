use Rattle.std.proofs.Common.{◌≡◌, length, take}
use Rattle.rm_pdu.specs.Message.{Message}
use Rattle.rm_reply.specs.Drafting.{IsAsked}
use Rattle.rm_reply.specs.Sets.{given_by}
use Rattle.rm_reply.proofs.request.Request.give.Given as goal

abbrev pub invariant-loop-place : goal.invariant-loop-place
invariant-loop-place g l =
    ((m : Message) → IsAsked l.self m → l.given ≡ given_by (take l.place m.bindings)) × (length l.given ≡ l.place)
