use Rattle.std.proofs.Common.{ℕ, List, sym, subst, ◌∙◌}
use Rattle.rm_val.specs.Val.{name}
use Rattle.rm_ber.specs.Grammar.{ValueFirst}
use Rattle.rm_pdu.proofs.PlacedLemmas.{from_here, same_name}
use Rattle.rm_pdu.proofs.places.name_at.Goals as goal

pub returns-in-Ok : goal.returns-in-Ok
returns-in-Ok c = λ numbers rest first.
    let left = c.new.ensures.whole ∙ from_here c.args.bytes.now c.args.at in
    let read = (c.name.ensures.exact numbers rest (subst (λ (x : List ℕ). ValueFirst (name numbers) rest x) (sym left) first)).0 in
    same_name c.name.result c.in-Ok.name numbers c.in-Ok.is read

pub returns-in-Err : goal.returns-in-Err
returns-in-Err c = λ numbers rest first.
    let left = c.new.ensures.whole ∙ from_here c.args.bytes.now c.args.at in
    let read = (c.name.ensures.exact numbers rest (subst (λ (x : List ℕ). ValueFirst (name numbers) rest x) (sym left) first)).0 in
    let no = sym c.in-Err.is ∙ read in absurd cc
