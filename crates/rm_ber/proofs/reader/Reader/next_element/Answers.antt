use Rattle.std.proofs.Common.{◌≡◌, ◌∙◌, sym, ap}
use Rattle.std.proofs.lemmas.Option.{none-some, same_Some}
use Rattle.rm_ber.specs.Grammar.{Left}
use Rattle.rm_ber.specs.Reading.{Parts, element_at}
use Rattle.rm_ber.proofs.GrammarElements.{element_found, element_finds}
use Rattle.rm_ber.proofs.reader.Reader.next_element.Goals as goal

pub returns-in-Some-clause-found : goal.returns-in-Some-clause-found
returns-in-Some-clause-found c =
    let e = c.in-Some.element in
    let left : c.self.inside.rest.now ≡ c.args.self.now.left = ap (λ (l : Left). l.left) c.self.view_is in
    element_found c.args.self.now.left (record { tag = e.tag; content = e.content.now; rest = e.rest.now }) (ap element_at (sym left) ∙ c.in-Some.ensures)

pub returns-in-Some-clause-exact : goal.returns-in-Some-clause-exact
returns-in-Some-clause-exact c tag content rest h =
    let left : c.self.inside.rest.now ≡ c.args.self.now.left = ap (λ (l : Left). l.left) c.self.view_is in
    let same = same_Some _ _ (sym c.in-Some.ensures ∙ ap element_at left ∙ element_finds tag content rest c.args.self.now.left h) in
    (ap (λ (p : Parts). p.tag) same, ap (λ (p : Parts). p.content) same, ap (λ (p : Parts). p.rest) same)

pub returns-in-None-clause-exact : goal.returns-in-None-clause-exact
returns-in-None-clause-exact c tag content rest h =
    let left : c.self.inside.rest.now ≡ c.args.self.now.left = ap (λ (l : Left). l.left) c.self.view_is in
    none-some _ (sym c.in-None.ensures ∙ ap element_at left ∙ element_finds tag content rest c.args.self.now.left h)
