use Rattle.std.proofs.Common.{◌≡◌, refl, drop}
use Rattle.rm_val.specs.Val.{val_of, name}
use Rattle.rm_ber.specs.Grammar.{ValueFirst}
use Rattle.rm_pdu.specs.Message.{Binding}
use Rattle.rm_pdu.specs.Parse.{binding_name, binding_value, binding_end}
use Rattle.rm_pdu.proofs.Steps.{breaks, moves, not_ok, not_both, no_name, no_value}
use Rattle.rm_pdu.proofs.Octets.{value_at}
use Rattle.rm_pdu.proofs.message.read_pair.Goals as goal

pub returns-in_err-name-clause-part : goal.returns-in_err-name-clause-part
returns-in_err-name-clause-part c = λ requests bytes outer at.
    breaks c.from_residual.result _ c.from_residual.ensures.1 c.in_err-name.ensures.place (no_name requests bytes outer c.args.content.now at (λ numbers rest first. not_both c.name.result c.in_err-name.field-0.0 numbers c.in_err-name.was (c.name.ensures.exact numbers rest first).0))

pub returns-in_err-value-clause-part : goal.returns-in_err-value-clause-part
returns-in_err-value-clause-part c = λ requests bytes outer at.
    let named = moves requests bytes binding_name binding_value outer c.args.content.now c.name.new.self at (c.in_ok-name.field-0, c.name.new.self.left, c.in_ok-name.ensures.found, refl) c.in_ok-name.ensures.end in
    breaks c.from_residual-in_err-value.result _ c.from_residual-in_err-value.ensures.1 c.in_err-value.ensures.place (no_value requests bytes outer c.name.new.self named (λ v rest first. not_ok c.value.result c.in_err-value.field-0.0 (λ x. val_of x ≡ v) c.in_err-value.was (c.value.ensures.exact v rest first).0))

pub returns-clause-part : goal.returns-clause-part
returns-clause-part c = λ requests bytes outer at.
    let binding : Binding = record { name = c.in_ok-name.field-0; value = val_of c.in_ok-value.field-0 } in
    let named = moves requests bytes binding_name binding_value outer c.args.content.now c.name.new.self at (binding.name, c.name.new.self.left, c.in_ok-name.ensures.found, refl) c.in_ok-name.ensures.end in
    let valued = moves requests bytes binding_value binding_end outer c.name.new.self c.value.new.self named (binding.value, c.value.new.self.left, c.in_ok-value.ensures.found, refl) c.in_ok-value.ensures.end in
    let name_at = value_at requests bytes binding_name outer c.args.content.now (name binding.name) c.name.new.self.left at c.in_ok-name.ensures.found in
    let value_there = value_at requests bytes binding_value outer c.name.new.self binding.value c.value.new.self.left named c.in_ok-value.ensures.found in
    let first : ValueFirst (name binding.name) name_at.0 (drop c.offset-at_name.result bytes) = rw c.offset-at_name.ensures name_at.1 in
    let second : ValueFirst binding.value value_there.0 (drop c.offset-at_value.result bytes) = rw c.offset-at_value.ensures value_there.1 in
    (valued, (binding, c.name.new.self.left, c.in_ok-name.ensures.found, c.in_ok-value.ensures.found, (name_at.0, value_there.0, first, second)))
