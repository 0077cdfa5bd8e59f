use Rattle.std.proofs.Common.{ℕ, List, Option, Some, sym, ap, ◌∙◌}
use Rattle.std.specs.Borrow.{Bor}
use Rattle.rm_words.specs.Scan.{so_far}
use Rattle.rm_words.proofs.CaptureLemmas.{no_name_above}
use Rattle.rm_words.proofs.captures.name_above.Goals as goal

pub returns-then-is_some : goal.returns-then-is_some
returns-then-is_some c = (c.in_ok-name.ensures, λ some. sym c.is_some.ensures ∙ c.if-is_some.true)

pub returns-in-None : goal.returns-in-None
returns-in-None c = (c.in_ok-name.ensures ∙ ap (λ (name : Option (Bor (List ℕ))). Some (so_far name)) c.in-None.is, λ some. absurd cc)

pub returns-in-Some : goal.returns-in-Some
returns-in-Some c = no_name_above _ c.args.below c.in_ok-name.name _ (sym c.is_some.ensures ∙ c.if-is_some.false) c.in-Some.is c.in_ok-name.ensures
