use Rattle.std.proofs.Common.{◌≡◌, ℕ, List, [], ◌∷◌, refl, ◌∙◌, subst, inl, inr}
use Rattle.rm_ber.specs.Grammar.{StandsFirst}
use Rattle.rm_pdu.specs.Message.{Message, kind_tag}
use Rattle.rm_pdu.specs.Parse.{whole, pdu_end, message_end, datagram_end}
use Rattle.rm_pdu.specs.Reading.{Fails}
use Rattle.rm_pdu.proofs.Steps.{breaks, errs, begin_at, in_message, closes, not_ok, no_header, not_ended, not_all, kept_number}
use Rattle.rm_pdu.proofs.message.read_whole.Goals as goal

pub returns-in_err-content : goal.returns-in_err-content
returns-in_err-content c =
    let bytes = c.args.bytes.now in
    let at = begin_at c.args.requests bytes c.new-datagram.result c.new-datagram.ensures.begins c.new-datagram.ensures.whole in
    breaks c.from_residual.result _ c.from_residual.ensures.1 c.in_err-content.ensures.place (no_header c.args.requests bytes whole [] c.new-datagram.result (inl refl) at
    (λ content rest first. not_ok c.enter.result c.in_err-content.field-0.0 (λ inner. inner.left ≡ content) c.in_err-content.was (c.enter.ensures.exact content rest first).0))

pub returns-in_err-community : goal.returns-in_err-community
returns-in_err-community c =
    let bytes = c.args.bytes.now in
    let opened = in_message c.args.requests bytes c.new-datagram.result c.enter.new.self c.in_ok-content.content c.new-datagram.ensures.begins c.new-datagram.ensures.whole c.in_ok-content.ensures.found c.in_ok-content.ensures.ends c.in_ok-content.ensures.end in
    errs c.from_residual-in_err-community.result c.in_err-community.field-0.0 _ (Fails c.args.requests bytes) c.from_residual-in_err-community.ensures.1 (c.in_err-community.ensures.part c.args.requests bytes (c.enter.new.self.left ∷ []) opened)

pub returns-in_err-kind : goal.returns-in_err-kind
returns-in_err-kind c =
    let bytes = c.args.bytes.now in
    let opened = in_message c.args.requests bytes c.new-datagram.result c.enter.new.self c.in_ok-content.content c.new-datagram.ensures.begins c.new-datagram.ensures.whole c.in_ok-content.ensures.found c.in_ok-content.ensures.ends c.in_ok-content.ensures.end in
    let envelope = c.in_ok-community.ensures.part c.args.requests bytes (c.enter.new.self.left ∷ []) opened in
    errs c.from_residual-in_err-kind.result c.in_err-kind.field-0.0 _ (Fails c.args.requests bytes) c.from_residual-in_err-kind.ensures.1 (c.in_err-kind.ensures.part bytes (c.enter.new.self.left ∷ []) envelope.0)

pub returns-in_err-read : goal.returns-in_err-read
returns-in_err-read c =
    let bytes = c.args.bytes.now in
    let opened = in_message c.args.requests bytes c.new-datagram.result c.enter.new.self c.in_ok-content.content c.new-datagram.ensures.begins c.new-datagram.ensures.whole c.in_ok-content.ensures.found c.in_ok-content.ensures.ends c.in_ok-content.ensures.end in
    let envelope = c.in_ok-community.ensures.part c.args.requests bytes (c.enter.new.self.left ∷ []) opened in
    let in_pdu = c.in_ok-kind.ensures.part bytes (c.enter.new.self.left ∷ []) envelope.0 in
    errs c.from_residual-in_err-read.result c.in_err-read.field-0.0 _ (Fails c.args.requests bytes) c.from_residual-in_err-read.ensures.1 (c.in_err-read.ensures.part c.args.requests bytes (c.open_pdu.new.content.left ∷ c.enter.new.self.left ∷ []) in_pdu.0)

pub returns-in_err-finish : goal.returns-in_err-finish
returns-in_err-finish c =
    let bytes = c.args.bytes.now in
    let opened = in_message c.args.requests bytes c.new-datagram.result c.enter.new.self c.in_ok-content.content c.new-datagram.ensures.begins c.new-datagram.ensures.whole c.in_ok-content.ensures.found c.in_ok-content.ensures.ends c.in_ok-content.ensures.end in
    let pdu = c.in_ok-read.ensures.part c.args.requests bytes _ (c.in_ok-kind.ensures.part bytes _ (c.in_ok-community.ensures.part c.args.requests bytes _ opened).0).0 in
    let after_pdu = closes c.args.requests bytes pdu_end message_end (c.enter.new.self.left ∷ []) c.read_pdu.new.pdu c.open_pdu.new.content pdu.0
    (c.open_pdu.new.content.left, c.enter.new.self.left ∷ [], pdu.1, refl, refl) pdu.1 (c.in_ok-read.ensures.end ∙ c.in_ok-kind.ensures.inside) in
    breaks c.from_residual-in_err-finish.result _ c.from_residual-in_err-finish.ensures.1 c.in_err-finish.ensures.place (not_ended c.args.requests bytes message_end (c.enter.new.self.left ∷ []) c.open_pdu.new.content (inr (inr refl)) after_pdu
    (λ none. let no = c.in_err-finish.ensures.done.1 none in absurd cc))

pub returns-in_err-finish-2 : goal.returns-in_err-finish-2
returns-in_err-finish-2 c =
    let bytes = c.args.bytes.now in
    let opened = in_message c.args.requests bytes c.new-datagram.result c.enter.new.self c.in_ok-content.content c.new-datagram.ensures.begins c.new-datagram.ensures.whole c.in_ok-content.ensures.found c.in_ok-content.ensures.ends c.in_ok-content.ensures.end in
    let pdu = c.in_ok-read.ensures.part c.args.requests bytes _ (c.in_ok-kind.ensures.part bytes _ (c.in_ok-community.ensures.part c.args.requests bytes _ opened).0).0 in
    let after_pdu = closes c.args.requests bytes pdu_end message_end (c.enter.new.self.left ∷ []) c.read_pdu.new.pdu c.open_pdu.new.content pdu.0
    (c.open_pdu.new.content.left, c.enter.new.self.left ∷ [], pdu.1, refl, refl) pdu.1 (c.in_ok-read.ensures.end ∙ c.in_ok-kind.ensures.inside) in
    let none : c.open_pdu.new.content.left ≡ [] = c.in_ok-finish.ensures.done.0 refl in
    let after_message = closes c.args.requests bytes message_end datagram_end [] c.open_pdu.new.content c.enter.new.self after_pdu
    (c.enter.new.self.left, [], none, refl, refl) none (c.in_ok-kind.ensures.end ∙ c.in_ok-community.ensures.end ∙ c.in_ok-content.ensures.ends) in
    breaks c.from_residual-in_err-finish-2.result _ c.from_residual-in_err-finish-2.ensures.1 c.in_err-finish-2.ensures.place (not_all c.args.requests bytes c.enter.new.self after_message
    (λ empty. let no = c.in_err-finish-2.ensures.done.1 empty in absurd cc))

pub returns : goal.returns
returns c =
    let bytes = c.args.bytes.now in
    let opened = in_message c.args.requests bytes c.new-datagram.result c.enter.new.self c.in_ok-content.content c.new-datagram.ensures.begins c.new-datagram.ensures.whole c.in_ok-content.ensures.found c.in_ok-content.ensures.ends c.in_ok-content.ensures.end in
    let envelope = c.in_ok-community.ensures.part c.args.requests bytes (c.enter.new.self.left ∷ []) opened in
    let in_pdu = c.in_ok-kind.ensures.part bytes (c.enter.new.self.left ∷ []) envelope.0 in
    let pdu = c.in_ok-read.ensures.part c.args.requests bytes (c.open_pdu.new.content.left ∷ c.enter.new.self.left ∷ []) in_pdu.0 in
    let none : c.open_pdu.new.content.left ≡ [] = c.in_ok-finish.ensures.done.0 refl in
    let end : c.enter.new.self.left ≡ [] = c.in_ok-finish-2.ensures.done.0 refl in
    let numbers = c.in_ok-read.read.numbers in
    let part = pdu.2 in
    let named = part.2 in
    let all = part.4 in
    let m : Message = record { community = c.in_ok-community.community.now; kind = c.in_ok-kind.kind; id = numbers.id; first = numbers.first; second = numbers.second; bindings = all.0 } in
    let outside = subst (λ (x : List ℕ). StandsFirst 0x30 c.in_ok-content.content.left x bytes) end
    (subst (λ (x : List ℕ). StandsFirst 0x30 c.in_ok-content.content.left c.enter.new.self.left x) c.new-datagram.ensures.whole c.in_ok-content.ensures.found) in
    let inside = subst (λ (x : List ℕ). StandsFirst (kind_tag c.in_ok-kind.kind) c.in_ok-kind.pdu.left x c.read_envelope.new.content.left) none in_pdu.2 in (
      m,
      record {
        content = c.in_ok-content.content.left;
        after_version = envelope.1.0;
        after_community = c.read_envelope.new.content.left;
        pdu = c.in_ok-kind.pdu.left;
        opens = outside;
        version = envelope.1.1;
        community = envelope.1.2;
        opens_pdu = inside;
        is_pdu = record {
          after_id = named.0;
          after_first = named.1;
          after_second = part.0;
          list = part.1;
          id = named.2;
          first = named.3;
          second = named.4;
          opens = part.3;
          bindings = all.1;
        };
      },
      in_pdu.1,
      record {
        community = refl;
        kind = refl;
        id = kept_number numbers.id named.0 c.in_ok-kind.pdu.left named.2;
        first = kept_number numbers.first named.1 named.0 named.3;
        second = kept_number numbers.second part.0 named.1 named.4;
        count = all.2;
        kept = all.3;
      },
    )
