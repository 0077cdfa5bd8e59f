use Rattle.std.proofs.Common.{◌≡◌, ℕ, List, [], ◌∷◌, refl, ◌∙◌, subst, inl, inr}
use Rattle.rm_ber.specs.Grammar.{StandsFirst}
use Rattle.rm_pdu.specs.Parse.{bindings, binding, pdu_end}
use Rattle.rm_pdu.specs.Reading.{Fails}
use Rattle.rm_pdu.proofs.Steps.{breaks, errs, opens, closes, not_ok, no_header, not_ended}
use Rattle.rm_pdu.proofs.message.read_pdu.Goals as goal

pub returns-in_err-list-clause-part : goal.returns-in_err-list-clause-part
returns-in_err-list-clause-part c = λ requests bytes outer at.
    let numbers = c.in_ok-numbers.ensures.part requests bytes outer at in
    breaks c.from_residual-in_err-list.result _ c.from_residual-in_err-list.ensures.1 c.in_err-list.ensures.place (no_header requests bytes bindings outer c.read_numbers.new.pdu (inr refl) numbers.0
    (λ content rest first. not_ok c.enter.result c.in_err-list.field-0.0 (λ inner. inner.left ≡ content) c.in_err-list.was (c.enter.ensures.exact content rest first).0))

pub returns-in_err-count-clause-part : goal.returns-in_err-count-clause-part
returns-in_err-count-clause-part c = λ requests bytes outer at.
    let numbers = c.in_ok-numbers.ensures.part requests bytes outer at in
    let opened = opens requests bytes bindings binding outer c.read_numbers.new.pdu c.enter.new.self c.in_ok-list.list numbers.0
    (c.in_ok-list.list.left, c.enter.new.self.left, c.in_ok-list.ensures.found, refl) c.in_ok-list.ensures.ends c.in_ok-list.ensures.end in
    errs c.from_residual-in_err-count.result c.in_err-count.field-0.0 _ (Fails requests bytes) c.from_residual-in_err-count.ensures.1 (c.in_err-count.ensures.part requests bytes (c.enter.new.self.left ∷ outer) opened)

pub returns-in_err-finish-clause-part : goal.returns-in_err-finish-clause-part
returns-in_err-finish-clause-part c = λ requests bytes outer at.
    let opened = opens requests bytes bindings binding outer c.read_numbers.new.pdu c.enter.new.self c.in_ok-list.list (c.in_ok-numbers.ensures.part requests bytes outer at).0
    (c.in_ok-list.list.left, c.enter.new.self.left, c.in_ok-list.ensures.found, refl) c.in_ok-list.ensures.ends c.in_ok-list.ensures.end in
    let part = c.in_ok-count.ensures.part requests bytes (c.enter.new.self.left ∷ outer) opened in
    let closed = closes requests bytes binding pdu_end outer c.read_bindings.new.list c.enter.new.self part.0 (inl (c.enter.new.self.left, outer, part.1, refl, refl)) part.1
    (c.in_ok-count.ensures.end ∙ c.in_ok-list.ensures.ends) in
    breaks c.from_residual-in_err-finish.result _ c.from_residual-in_err-finish.ensures.1 c.in_err-finish.ensures.place (not_ended requests bytes pdu_end outer c.enter.new.self (inr (inl refl)) closed
    (λ none. let no = c.in_err-finish.ensures.done.1 none in absurd cc))

pub returns-clause-part : goal.returns-clause-part
returns-clause-part c = λ requests bytes outer at.
    let numbers = c.in_ok-numbers.ensures.part requests bytes outer at in
    let opened = opens requests bytes bindings binding outer c.read_numbers.new.pdu c.enter.new.self c.in_ok-list.list numbers.0
    (c.in_ok-list.list.left, c.enter.new.self.left, c.in_ok-list.ensures.found, refl) c.in_ok-list.ensures.ends c.in_ok-list.ensures.end in
    let part = c.in_ok-count.ensures.part requests bytes (c.enter.new.self.left ∷ outer) opened in
    let closed = closes requests bytes binding pdu_end outer c.read_bindings.new.list c.enter.new.self part.0 (inl (c.enter.new.self.left, outer, part.1, refl, refl)) part.1
    (c.in_ok-count.ensures.end ∙ c.in_ok-list.ensures.ends) in
    let none : c.enter.new.self.left ≡ [] = c.in_ok-finish.ensures.done.0 refl in (
      closed,
      none,
      (
        c.read_numbers.new.pdu.left,
        c.in_ok-list.list.left,
        numbers.1,
        subst (λ (x : List ℕ). StandsFirst 0x30 c.in_ok-list.list.left x c.read_numbers.new.pdu.left) none c.in_ok-list.ensures.found,
        part.2,
      ),
    )
