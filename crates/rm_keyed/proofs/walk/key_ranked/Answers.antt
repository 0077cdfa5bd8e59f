use Rattle.std.proofs.Common.{◌≡◌, ◌-◌, length, ◌∙◌, arith}
use Rattle.std.proofs.lemmas.Bool.Decides.{nat_tests}
use Rattle.rm_keyed.proofs.Ranked.{ranked_at, none_ranked}
use Rattle.rm_keyed.proofs.walk.key_ranked.Goals as goal

pub returns-then-saturating_sub-eq1 : goal.returns-then-saturating_sub-eq1
returns-then-saturating_sub-eq1 g c =
    let one : length c.args.numbers.now - c.args.from ≡ 1 = grind (arith, nat_tests, c.if-saturating_sub-eq1.true) in
    rw c.at.ensures at c.made.ensures ∙ ranked_at c.args.rows.now.rows c.args.numbers.now c.args.from one

pub returns-else-saturating_sub-eq1 : goal.returns-else-saturating_sub-eq1
returns-else-saturating_sub-eq1 g c = none_ranked c.args.rows.now.rows c.args.numbers.now c.args.from (λ one. absurd (grind (arith, nat_tests, c.if-saturating_sub-eq1.false)))
