use Rattle.std.proofs.Common.{true, false, cond, ◌≡◌, sym, subst, ◌∙◌, nat_cmp}
use Rattle.std.specs.Option.{option_or}
use Rattle.std.specs.Ordering.{is_lt}
use Rattle.std.specs.Cmp.Lexicographic.{slice_cmp}
use Rattle.rm_group.specs.Least.{AreFrom}
use Rattle.rm_group.proofs.Leasts.{from_lesser}
use Rattle.rm_group.proofs.least.lesser.Goals as goal

pub returns-then-is_before-clause-from : goal.returns-then-is_before-clause-from
returns-then-is_before-clause-from c cells others first second =
    let less : is_lt (slice_cmp nat_cmp c.args.second.now c.args.first.now) ≡ true = sym c.is_before.ensures ∙ c.if-is_before.true in
    subst (λ test. AreFrom (cond test c.args.second.now c.args.first.now) (λ name. option_or (cells name) (others name))) less
    (from_lesser cells others c.args.first.now c.args.second.now first second)

pub returns-else-is_before-clause-from : goal.returns-else-is_before-clause-from
returns-else-is_before-clause-from c cells others first second =
    let not_less : is_lt (slice_cmp nat_cmp c.args.second.now c.args.first.now) ≡ false = sym c.is_before.ensures ∙ c.if-is_before.false in
    subst (λ test. AreFrom (cond test c.args.second.now c.args.first.now) (λ name. option_or (cells name) (others name))) not_less
    (from_lesser cells others c.args.first.now c.args.second.now first second)
