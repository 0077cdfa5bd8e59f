use Rattle.rm_pdu.proofs.Bounds.{number_binding, ticks_binding, name_binding}
use Rattle.rm_pdu.proofs.laws.bindings_are_bounded.Goals as goal

pub returns-clause-numbers : goal.returns-clause-numbers
returns-clause-numbers c = number_binding

pub returns-clause-ticks : goal.returns-clause-ticks
returns-clause-ticks c = ticks_binding

pub returns-clause-names : goal.returns-clause-names
returns-clause-names c = name_binding
