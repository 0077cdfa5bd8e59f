use Rattle.std.proofs.Common.{◌++◌, List, ℕ, ap, ◌∙◌, append_assoc, codes, decimal}
use Rattle.rm_probe.proofs.line.push_reason.Goals as goal

pub returns-in-Malformed-clause-text : goal.returns-in-Malformed-clause-text
returns-in-Malformed-clause-text c =
    rw c.in-Malformed.is (c.push_number.ensures.text ∙ ap (λ (front : List ℕ). front ++ decimal c.in-Malformed.at) c.push-in-Malformed.ensures
    ∙ append_assoc c.args.line.now.items (codes "malformed ") (decimal c.in-Malformed.at))

pub returns-in-NotRequest-clause-text : goal.returns-in-NotRequest-clause-text
returns-in-NotRequest-clause-text c = rw c.in-NotRequest.is c.push-in-NotRequest.ensures

pub returns-in-Community-clause-text : goal.returns-in-Community-clause-text
returns-in-Community-clause-text c = rw c.in-Community.is c.push-in-Community.ensures
