use Rattle.std.proofs.Common.{◌/◌, List, subst}
use Rattle.std.specs.Str.{bytes_eq}
use Rattle.rm_keyed.specs.Entered.{IsOf}
use Rattle.rm_hosts.specs.Counts.{no_counts, with_gain}
use Rattle.rm_hosts.specs.Mentions.{HostMention}
use Rattle.rm_hosts.proofs.Taking.{good_taken, bad_taken}
use Rattle.rm_hosts.proofs.host_rows.HostRowsSourceRowsArrayU86.take.Goals as goal

pub returns-then-facts-clause-means : goal.returns-then-facts-clause-means
returns-then-facts-clause-means c mentions means =
    let facts = c.args.facts.now in
    subst (λ (said : List HostMention). IsOf bytes_eq no_counts with_gain said c.refer-then-facts.new.self)
    (good_taken c.args.stamp (c.args.moment / 10) facts c.in-Some.pair c.in-Some.is mentions c.sent-sent.result c.sent-sent.ensures c.if-facts.true c.received-received.result c.received-received.ensures)
    (c.refer-then-facts.ensures.means _ (c.refer.ensures.means mentions means))

pub returns-else-facts-clause-means : goal.returns-else-facts-clause-means
returns-else-facts-clause-means c mentions means =
    let facts = c.args.facts.now in
    subst (λ (said : List HostMention). IsOf bytes_eq no_counts with_gain said c.stray.new.self)
    (bad_taken c.args.stamp (c.args.moment / 10) facts c.in-Some.pair c.in-Some.is mentions c.sent-sent.result c.sent-sent.ensures c.if-facts.false)
    (c.stray.ensures.means mentions means)
