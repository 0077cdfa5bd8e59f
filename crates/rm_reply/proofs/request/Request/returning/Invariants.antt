use Rattle.std.proofs.Common.{◌≡◌, ◌≤◌, length, take}
use Rattle.rm_pdu.specs.Message.{Message, message_octets}
use Rattle.rm_pdu.specs.Draft.{drafted}
use Rattle.rm_reply.specs.Drafting.{IsAsked}
use Rattle.rm_reply.specs.Replies.{response_to}
use Rattle.rm_reply.proofs.request.Request.returning.Given as goal

abbrev pub invariant-loop-place : goal.invariant-loop-place
invariant-loop-place l =
    (m : Message) → IsAsked l.self m
    → (l.draft ≡ drafted (response_to m l.fn.status l.index (take l.place m.bindings))) × (length (message_octets (response_to m l.fn.status l.index (take l.place m.bindings))) ≤ 1472)
