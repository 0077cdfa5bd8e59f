use Rattle.std.proofs.Common.{◌≡◌, ◌+◌, ◌≤◌, ℕ, Bool, List, length}
use Rattle.rm_ber.specs.Grammar.{end_of}
use Rattle.rm_pdu.specs.Parse.{binding}
use Rattle.rm_pdu.specs.Reading.{IsAt}
use Rattle.rm_pdu.proofs.ListLemmas.{InList}
use Rattle.rm_pdu.proofs.message.read_bindings.Given as goal

abbrev pub invariant-loop-list : goal.invariant-loop-list
invariant-loop-list l = (end_of l.list ≡ end_of l.initial.list) × (l.count + length l.list.left ≤ length l.initial.list.left)
    × ((requests : Bool) (bytes : List ℕ) (outer : List (List ℕ)) → IsAt requests bytes binding outer l.initial.list
    → IsAt requests bytes binding outer l.list × InList bytes l.initial.list.left l.list.left l.into l.count)

abbrev pub decreases-loop-list : goal.decreases-loop-list
decreases-loop-list l = length l.list.left
