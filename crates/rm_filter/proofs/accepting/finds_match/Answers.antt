use Rattle.std.proofs.Common.{sym, ◌∙◌}
use Rattle.rm_filter.proofs.FindLemmas.{none_at_first, none_up_to_next, none_at_all}
use Rattle.rm_filter.proofs.accepting.finds_match.Goals as goal

pub loop-index-init : goal.loop-index-init
loop-index-init c = none_at_first c.args.filters.now c.args.channel c.args.facts.now.status c.args.octets.now c.len.ensures.rows.1

pub loop-index-preserved : goal.loop-index-preserved
loop-index-preserved c =
    none_up_to_next c.args.filters.now c.args.channel c.args.facts.now.status c.args.octets.now c.loop-index.last c.in-Some.index c.loop-index.invariant c.in-Some.ensures.least
    (sym c.matches_at.ensures ∙ c.if-matches_at.false)

pub returns-clause-none : goal.returns-clause-none
returns-clause-none c none =
    none_at_all c.args.filters.now c.args.channel c.args.facts.now.status c.args.octets.now c.loop-index.last c.loop-index.invariant c.in_default.ensures.least
