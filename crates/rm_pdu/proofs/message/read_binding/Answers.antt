use Rattle.std.proofs.Common.{◌≡◌, ℕ, List, [], ◌∷◌, refl, ◌∙◌, subst, inl, inr}
use Rattle.rm_ber.specs.Grammar.{ValueFirst}
use Rattle.rm_pdu.specs.Parse.{binding, binding_name, binding_end}
use Rattle.rm_pdu.specs.Reading.{Fails}
use Rattle.rm_pdu.proofs.Steps.{breaks, errs, opens, closes, not_ok, no_binding, not_ended}
use Rattle.rm_pdu.proofs.message.read_binding.Goals as goal

pub returns-in_err-content-clause-part : goal.returns-in_err-content-clause-part
returns-in_err-content-clause-part c = λ requests bytes outer at some.
    breaks c.from_residual.result _ c.from_residual.ensures.1 c.in_err-content.ensures.place (no_binding requests bytes outer c.args.list.now at some
    (λ content rest first. not_ok c.enter.result c.in_err-content.field-0.0 (λ inner. inner.left ≡ content) c.in_err-content.was (c.enter.ensures.exact content rest first).0))

pub returns-in_err-offsets-clause-part : goal.returns-in_err-offsets-clause-part
returns-in_err-offsets-clause-part c = λ requests bytes outer at some.
    let opened = opens requests bytes binding binding_name outer c.args.list.now c.enter.new.self c.in_ok-content.content at
    (inr (c.in_ok-content.content.left, c.enter.new.self.left, c.in_ok-content.ensures.found, refl)) c.in_ok-content.ensures.ends c.in_ok-content.ensures.end in
    errs c.from_residual-in_err-offsets.result c.in_err-offsets.field-0.0 _ (Fails requests bytes) c.from_residual-in_err-offsets.ensures.1 (c.in_err-offsets.ensures.part requests bytes (c.enter.new.self.left ∷ outer) opened)

pub returns-in_err-finish-clause-part : goal.returns-in_err-finish-clause-part
returns-in_err-finish-clause-part c = λ requests bytes outer at some.
    let opened = opens requests bytes binding binding_name outer c.args.list.now c.enter.new.self c.in_ok-content.content at
    (inr (c.in_ok-content.content.left, c.enter.new.self.left, c.in_ok-content.ensures.found, refl)) c.in_ok-content.ensures.ends c.in_ok-content.ensures.end in
    let ended = (c.in_ok-offsets.ensures.part requests bytes (c.enter.new.self.left ∷ outer) opened).0 in
    breaks c.from_residual-in_err-finish.result _ c.from_residual-in_err-finish.ensures.1 c.in_err-finish.ensures.place (not_ended requests bytes binding_end (c.enter.new.self.left ∷ outer) c.read_pair.new.content (inl refl) ended
    (λ none. let no = c.in_err-finish.ensures.done.1 none in absurd cc))

pub returns-clause-part : goal.returns-clause-part
returns-clause-part c = λ requests bytes outer at some.
    let opened = opens requests bytes binding binding_name outer c.args.list.now c.enter.new.self c.in_ok-content.content at
    (inr (c.in_ok-content.content.left, c.enter.new.self.left, c.in_ok-content.ensures.found, refl)) c.in_ok-content.ensures.ends c.in_ok-content.ensures.end in
    let part = c.in_ok-offsets.ensures.part requests bytes (c.enter.new.self.left ∷ outer) opened in
    let none : c.read_pair.new.content.left ≡ [] = c.in_ok-finish.ensures.done.0 refl in
    let pair = part.1 in (
      closes requests bytes binding_end binding outer c.read_pair.new.content c.enter.new.self part.0 (c.enter.new.self.left, outer, none, refl, refl) none
          (c.in_ok-offsets.ensures.end ∙ c.in_ok-content.ensures.ends),
      (
        pair.0,
        c.in_ok-content.content.left,
        c.in_ok-content.ensures.found,
        (pair.1, pair.2, subst (λ (x : List ℕ). ValueFirst pair.0.value x pair.1) none pair.3),
        pair.4,
      ),
    )
