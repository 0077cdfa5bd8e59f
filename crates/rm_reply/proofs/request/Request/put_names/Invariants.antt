use Rattle.std.proofs.Common.{◌≡◌, ◌+◌, length, All}
use Rattle.std.specs.Prelude.{slice_range}
use Rattle.rm_val.specs.Spellable.{IsSpellable}
use Rattle.rm_pdu.specs.Message.{Message as Whole}
use Rattle.rm_reply.specs.Replies.{names_of}
use Rattle.rm_reply.specs.Drafting.{IsAsked}
use Rattle.rm_reply.proofs.request.Request.put_names.Given as goal

abbrev pub invariant-loop-place : goal.invariant-loop-place
invariant-loop-place g l =
    ((m : Whole) → IsAsked l.self m → l.names ≡ slice_range (names_of m.bindings) l.from l.place)
    × (length l.names + l.from ≡ l.place) × All IsSpellable l.names
