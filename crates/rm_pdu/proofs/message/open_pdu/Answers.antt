use Rattle.std.proofs.Common.{◌≡◌, ℕ, Bool, true, false, List, ◌∷◌, refl, sym, ap, ◌∙◌, subst}
use Rattle.rm_ber.specs.Grammar.{StandsFirst}
use Rattle.rm_pdu.specs.declared.kind.Kind.{Kind}
use Rattle.rm_pdu.specs.Message.{kind_tag}
use Rattle.rm_pdu.specs.Parse.{pdu, request_id, Begins, is_read, is_request}
use Rattle.rm_pdu.proofs.Steps.{breaks, opens, not_ok, no_pdu, not_read, other_tag, tag_then, kind_of_other}
use Rattle.rm_pdu.proofs.message.open_pdu.Goals as goal

pub returns-then-not-is_read-clause-part : goal.returns-then-not-is_read-clause-part
returns-then-not-is_read-clause-part c = λ bytes outer at.
    let none : is_read c.args.requests c.next_kind-kind.result ≡ false = sym c.is_read.ensures ∙ c.if-not-is_read.true in
    let other = not_read c.args.requests c.next_kind-kind.result none in
    let stands = c.next_kind-kind.ensures.other other.1 in
    let left : c.args.content.now.left ≡ c.tag.result ∷ stands.0 = stands.1 ∙ ap (λ (x : ℕ). x ∷ stands.0) (sym c.tag.ensures) in
    let here = subst (λ (x : List ℕ). Begins c.args.requests bytes (record { awaited = pdu; left = x; outer = outer })) left at.begins in (
      other.0,
      record {
        more = stands.0;
        outer = outer;
        begins = subst (λ (r : Bool). Begins r bytes (record { awaited = pdu; left = c.tag.result ∷ stands.0; outer = outer })) other.0 here;
        other = rw c.tag.ensures (other_tag c.next_kind-kind.result other.1);
      },
    )

pub returns-in_err-pdu-clause-part : goal.returns-in_err-pdu-clause-part
returns-in_err-pdu-clause-part c = λ bytes outer at.
    let read : is_read c.args.requests c.next_kind-kind.result ≡ true = sym c.is_read.ensures ∙ c.if-not-is_read.false in
    breaks c.from_residual.result _ c.from_residual.ensures.1 c.in_err-pdu.ensures.place (no_pdu c.args.requests bytes outer c.args.content.now at
    (λ kind content rest only first.
    let then = tag_then (kind_tag kind) content rest c.args.content.now.left first in
    let same = c.next_kind-kind.ensures.comes kind then.0 then.1 in
    let here : StandsFirst c.tag-2.result content rest c.args.content.now.left = rw (c.tag-2.ensures, same) first in
    not_ok c.enter.result c.in_err-pdu.field-0.0 (λ inner. inner.left ≡ content) c.in_err-pdu.was (c.enter.ensures.exact content rest here).0)
    (λ only tag more left tags.
    let other = kind_of_other tag tags in
    let same = c.next_kind-kind.ensures.comes other.0 more (left ∙ ap (λ (x : ℕ). x ∷ more) other.1) in
    let yes : is_request other.0 ≡ true = subst (λ (k : Kind). is_request k ≡ true) same (subst (λ (r : Bool). is_read r c.next_kind-kind.result ≡ true) only read) in
    let no : true ≡ false = sym yes ∙ other.2 in cc))

pub returns-clause-part : goal.returns-clause-part
returns-clause-part c = λ bytes outer at.
    let read : is_read c.args.requests c.next_kind-kind.result ≡ true = sym c.is_read.ensures ∙ c.if-not-is_read.false in
    let first : StandsFirst (kind_tag c.next_kind-kind.result) c.in_ok-pdu.pdu.left c.enter.new.self.left c.args.content.now.left =
    subst (λ (tag : ℕ). StandsFirst tag c.in_ok-pdu.pdu.left c.enter.new.self.left c.args.content.now.left) c.tag-2.ensures c.in_ok-pdu.ensures.found in (
      opens c.args.requests bytes pdu request_id outer c.args.content.now c.enter.new.self c.in_ok-pdu.pdu at
          (c.next_kind-kind.result, c.in_ok-pdu.pdu.left, c.enter.new.self.left, read, first, refl) c.in_ok-pdu.ensures.ends c.in_ok-pdu.ensures.end,
      read,
      first,
    )
