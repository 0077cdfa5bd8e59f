use Rattle.std.proofs.Common.{refl, inl, inr}
use Rattle.rm_pdu.specs.Parse.{request_id, first_number, second_number, bindings}
use Rattle.rm_pdu.proofs.Steps.{breaks, moves, not_both, no_number, same_number}
use Rattle.rm_pdu.proofs.message.read_numbers.Goals as goal

pub returns-in_err-id-clause-part : goal.returns-in_err-id-clause-part
returns-in_err-id-clause-part c = λ requests bytes outer at.
    breaks c.from_residual.result _ c.from_residual.ensures.1 c.in_err-id.ensures.place (no_number requests bytes request_id outer c.args.pdu.now (inl refl) at
    (λ z rest first. not_both c.int.result c.in_err-id.field-0.0 z c.in_err-id.was (c.int.ensures.exact z rest first).0))

pub returns-in_err-first-clause-part : goal.returns-in_err-first-clause-part
returns-in_err-first-clause-part c = λ requests bytes outer at.
    let after_id = moves requests bytes request_id first_number outer c.args.pdu.now c.int.new.self at (c.in_ok-id.id, c.int.new.self.left, c.in_ok-id.ensures.found, refl) c.in_ok-id.ensures.end in
    breaks c.from_residual-in_err-first.result _ c.from_residual-in_err-first.ensures.1 c.in_err-first.ensures.place (no_number requests bytes first_number outer c.int.new.self (inr (inl refl)) after_id
    (λ z rest first. not_both c.int-2.result c.in_err-first.field-0.0 z c.in_err-first.was (c.int-2.ensures.exact z rest first).0))

pub returns-in_err-second-clause-part : goal.returns-in_err-second-clause-part
returns-in_err-second-clause-part c = λ requests bytes outer at.
    let after_id = moves requests bytes request_id first_number outer c.args.pdu.now c.int.new.self at (c.in_ok-id.id, c.int.new.self.left, c.in_ok-id.ensures.found, refl) c.in_ok-id.ensures.end in
    let after_first = moves requests bytes first_number second_number outer c.int.new.self c.int-2.new.self after_id (c.in_ok-first.first, c.int-2.new.self.left, c.in_ok-first.ensures.found, refl) c.in_ok-first.ensures.end in
    breaks c.from_residual-in_err-second.result _ c.from_residual-in_err-second.ensures.1 c.in_err-second.ensures.place (no_number requests bytes second_number outer c.int-2.new.self (inr (inr refl)) after_first
    (λ z rest first. not_both c.int-3.result c.in_err-second.field-0.0 z c.in_err-second.was (c.int-3.ensures.exact z rest first).0))

pub returns-clause-part : goal.returns-clause-part
returns-clause-part c = λ requests bytes outer at.
    let after_id = moves requests bytes request_id first_number outer c.args.pdu.now c.int.new.self at (c.in_ok-id.id, c.int.new.self.left, c.in_ok-id.ensures.found, refl) c.in_ok-id.ensures.end in
    let after_first = moves requests bytes first_number second_number outer c.int.new.self c.int-2.new.self after_id (c.in_ok-first.first, c.int-2.new.self.left, c.in_ok-first.ensures.found, refl) c.in_ok-first.ensures.end in (
      moves requests bytes second_number bindings outer c.int-2.new.self c.int-3.new.self after_first (c.in_ok-second.second, c.int-3.new.self.left, c.in_ok-second.ensures.found, refl) c.in_ok-second.ensures.end,
      (
        c.int.new.self.left,
        c.int-2.new.self.left,
        same_number c.new.result.id c.in_ok-id.id c.int.new.self.left c.args.pdu.now.left c.new.ensures.0 c.in_ok-id.ensures.found,
        same_number c.new.result.first c.in_ok-first.first c.int-2.new.self.left c.int.new.self.left c.new.ensures.1 c.in_ok-first.ensures.found,
        same_number c.new.result.second c.in_ok-second.second c.int-3.new.self.left c.int-2.new.self.left c.new.ensures.2 c.in_ok-second.ensures.found,
      ),
    )
