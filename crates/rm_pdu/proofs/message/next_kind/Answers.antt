use Rattle.std.proofs.Common.{◌≡◌, ℕ, ◌∷◌, sym, ap, ◌∙◌}
use Rattle.rm_pdu.specs.Message.{kind_tag}
use Rattle.rm_pdu.proofs.Steps.{first_then}
use Rattle.rm_pdu.proofs.message.next_kind.Goals as goal

pub returns-in-Some-of_tag-clause-other : goal.returns-in-Some-of_tag-clause-other
returns-in-Some-of_tag-clause-other c = λ other.
    let then = first_then c.args.content.now.left c.in-Some.tag (sym c.peek.ensures ∙ c.in-Some.is) in
    let tag : kind_tag c.in-Some-of_tag.kind ≡ c.in-Some.tag = (c.of_tag.ensures c.in-Some-of_tag.kind).1 c.in-Some-of_tag.is in
    (then.0, then.1 ∙ ap (λ (x : ℕ). x ∷ then.0) (sym tag))
