use Rattle.rm_filter.proofs.MatchLemmas.{as_found}
use Rattle.rm_filter.proofs.accepting.is_matched.Goals as goal

pub returns : goal.returns
returns c settings journal frame number moment is of =
    as_found c.args.filters.now journal is settings frame c.args.channel c.args.facts.now c.args.octets.now number moment of c.finds_match.result c.finds_match.ensures.some c.finds_match.ensures.none
