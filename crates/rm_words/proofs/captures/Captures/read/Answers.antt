use Rattle.rm_words.proofs.CaptureLemmas.{captures_read, no_second, no_third, no_fourth}
use Rattle.rm_words.proofs.captures.Captures.read.Goals as goal

pub invariant_of-captures : goal.invariant_of-captures
invariant_of-captures c = record { ladder = (c.in_ok-if3.ensures.1, c.in_ok-if4.ensures.1) }

pub returns : goal.returns
returns c =
    captures_read _ c.args.capture.now c.in_ok-if2.if2 c.in_ok-if3.if3 c.in_ok-if4.if4 c.in_ok-if2.ensures c.in_ok-if3.ensures.0 c.in_ok-if4.ensures.0
    (c.in_ok-if3.ensures.1, c.in_ok-if4.ensures.1)

pub returns-in_err-if2 : goal.returns-in_err-if2
returns-in_err-if2 c = rw c.from_residual.ensures (no_second _ c.args.capture.now c.in_err-if2.ensures)

pub returns-in_err-if3 : goal.returns-in_err-if3
returns-in_err-if3 c = rw c.from_residual-in_err-if3.ensures (no_third _ c.args.capture.now c.in_ok-if2.if2 c.in_ok-if2.ensures c.in_err-if3.ensures)

pub returns-in_err-if4 : goal.returns-in_err-if4
returns-in_err-if4 c = rw c.from_residual-in_err-if4.ensures (no_fourth _ c.args.capture.now c.in_ok-if3.if3 c.in_ok-if3.ensures.0 c.in_err-if4.ensures)
