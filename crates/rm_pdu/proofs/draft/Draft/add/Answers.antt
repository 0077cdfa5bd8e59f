use Rattle.std.proofs.Common.{◌≡◌, ℕ, ◌+◌, List, ◌++◌, length, sym, ap, ◌∙◌, arith}
use Rattle.rm_val.specs.Val.{val_of, name}
use Rattle.rm_ber.specs.Element.{value_element}
use Rattle.rm_pdu.specs.Message.{binding_octets}
use Rattle.rm_pdu.specs.Draft.{Drafted, binding_of}
use Rattle.rm_pdu.specs.DraftParts.{element_size, message_size}
use Rattle.rm_pdu.specs.contracts.draft.Draft.{the_view}
use Rattle.rm_pdu.proofs.DraftSizes.{longer, length-and, binding_size, binding_written, added}
use Rattle.rm_pdu.proofs.draft.Draft.add.Goals as goal

pub returns-in_err-content-clause-room : goal.returns-in_err-content-clause-room
returns-in_err-content-clause-room c m is =
    let d = c.args.self.now in
    let e = length-and d m c.args.name.now (val_of c.args.value.now) is in
    let l = longer d (length d.list + length (binding_octets (binding_of c.args.name.now (val_of c.args.value.now)))) in
    grind (arith, e, l)

pub returns-then-size_with-gt-MOST_OCTETS-clause-room : goal.returns-then-size_with-gt-MOST_OCTETS-clause-room
returns-then-size_with-gt-MOST_OCTETS-clause-room c m is =
    let d = c.args.self.now in
    let binding = binding_size c.args.name.now (val_of c.args.value.now) ∙ ap element_size (sym c.in_ok-content.ensures.ok) ∙ sym c.element_size.ensures.value in
    let list : length d.list + length (binding_octets (binding_of c.args.name.now (val_of c.args.value.now))) ≡ c.len.result + c.element_size.result =
    omega (arith, binding, c.len.ensures.value, ap (λ (x : Drafted). length x.list) c.self.view_is) in
    let all = length-and d m c.args.name.now (val_of c.args.value.now) is ∙ ap (message_size d) list ∙ sym c.size_with.ensures in
    grind (arith, all)

pub returns-clause-room : goal.returns-clause-room
returns-clause-room c m is =
    let d = c.args.self.now in
    let binding = binding_size c.args.name.now (val_of c.args.value.now) ∙ ap element_size (sym c.in_ok-content.ensures.ok) ∙ sym c.element_size.ensures.value in
    let list : length d.list + length (binding_octets (binding_of c.args.name.now (val_of c.args.value.now))) ≡ c.len.result + c.element_size.result =
    omega (arith, binding, c.len.ensures.value, ap (λ (x : Drafted). length x.list) c.self.view_is) in
    let all = length-and d m c.args.name.now (val_of c.args.value.now) is ∙ ap (message_size d) list ∙ sym c.size_with.ensures in
    grind (arith, all)

pub returns-clause-ok : goal.returns-clause-ok
returns-clause-ok c m is =
    let header = c.put_name.ensures.octets ∙ ap (λ (x : List ℕ). x ++ value_element (name c.args.name.now)) c.put_header.ensures.octets in
    let bytes = c.put.ensures.octets ∙ ap (λ (x : List ℕ). x ++ value_element (val_of c.args.value.now)) header in
    added (the_view c.self.inside) c.put.new.out m c.args.name.now (val_of c.args.value.now) (c.self.view_is ∙ is)
    (binding_written c.self.inside.list c.put.new.out c.args.name.now (val_of c.args.value.now) c.in_ok-content.content c.in_ok-content.ensures.ok bytes)
