use Rattle.std.proofs.Common.{ℕ, List, sym, subst, ◌∙◌}
use Rattle.rm_ber.specs.Grammar.{ValueFirst}
use Rattle.rm_pdu.proofs.PlacedLemmas.{from_here}
use Rattle.rm_pdu.proofs.places.value_at.Goals as goal

pub returns-in-Ok : goal.returns-in-Ok
returns-in-Ok c = λ v rest first.
    let left = c.new.ensures.whole ∙ from_here c.args.bytes.now c.args.at in
    let read = (c.value.ensures.exact v rest (subst (λ (x : List ℕ). ValueFirst v rest x) (sym left) first)).0 in
    rw c.in-Ok.is at read

pub returns-in-Err : goal.returns-in-Err
returns-in-Err c = λ v rest first.
    let left = c.new.ensures.whole ∙ from_here c.args.bytes.now c.args.at in
    let read = (c.value.ensures.exact v rest (subst (λ (x : List ℕ). ValueFirst v rest x) (sym left) first)).0 in
    absurd (rw c.in-Err.is at read)
