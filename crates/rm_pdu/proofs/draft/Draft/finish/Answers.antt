use Rattle.std.proofs.Common.{ℕ, List, ◌++◌, length, drop, ap, ◌∙◌, length-append, arith}
use Rattle.rm_pdu.specs.Draft.{Drafted}
use Rattle.rm_pdu.specs.DraftParts.{front_octets}
use Rattle.rm_pdu.proofs.DraftSizes.{whole, placed}
use Rattle.rm_pdu.proofs.draft.Draft.finish.Goals as goal

pub returns-clause-count : goal.returns-clause-count
returns-clause-count c m is =
    let front = c.bytes.ensures ∙ c.front-front.ensures.octets ∙ ap front_octets is in
    let list = c.bytes-2.ensures ∙ ap (λ (x : Drafted). x.list) (c.self.view_is ∙ is) in
    let message = (λ i. front i ++ list i) ∙ whole m in
    omega (arith, c.place_at.ensures.end, c.place_at-after_front.ensures.end, length-append c.bytes.result.now c.bytes-2.result.now, ap length message)

pub returns-clause-written : goal.returns-clause-written
returns-clause-written c m is =
    let front = c.bytes.ensures ∙ c.front-front.ensures.octets ∙ ap front_octets is in
    let list = c.bytes-2.ensures ∙ ap (λ (x : Drafted). x.list) (c.self.view_is ∙ is) in
    let message = (λ i. front i ++ list i) ∙ whole m in
    let all = placed c.bytes.result.now c.bytes-2.result.now c.args.out.now c.place_at-after_front.new.out c.place_at.new.out c.place_at-after_front.result c.place_at.result
    c.place_at-after_front.ensures.value c.place_at-after_front.ensures.end c.place_at.ensures.value c.place_at.ensures.end in
    all ∙ ap (λ (x : List ℕ). x ++ drop c.place_at.result c.args.out.now) message
