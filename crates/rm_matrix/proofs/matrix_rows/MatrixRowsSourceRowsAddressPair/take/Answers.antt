use Rattle.std.proofs.Common.{◌/◌, ◌≤◌, List, length, subst}
use Rattle.std.proofs.Math.Nat.{le_trans}
use Rattle.std.proofs.lemmas.List.{length-map}
use Rattle.rm_rows.specs.Table.{key_of, keys_of}
use Rattle.rm_keyed.specs.declared.address_pair.AddressPair.{AddressPair}
use Rattle.rm_keyed.specs.Addresses.{pair_eq, reversed}
use Rattle.rm_keyed.proofs.Pairs.{exact_pair}
use Rattle.rm_keyed.proofs.ReversedKeys.{members_reversed, found_reversed}
use Rattle.rm_keyed.specs.Entered.{IsOf}
use Rattle.rm_matrix.specs.Counts.{no_counts, with_gain}
use Rattle.rm_matrix.specs.Mentions.{PairMention}
use Rattle.rm_matrix.proofs.Taking.{good_taken, bad_taken}
use Rattle.rm_matrix.proofs.matrix_rows.MatrixRowsSourceRowsAddressPair.take.Goals as goal

pub follow-requires : goal.follow-requires
follow-requires c =
    let rows = c.args.self.now in
    let before : List AddressPair = keys_of rows.pairs.rows.rows in
    let after : List AddressPair = keys_of c.refer-touch.new.self.rows.rows in
    let few : length after ≤ rows.reverse.room = rw (length-map c.refer-touch.new.self.rows.rows key_of) (le_trans c.refer-touch.ensures.few rows.room) in
    record {
      few = (before, after, members_reversed pair_eq exact_pair reversed rows.reverse.keys before rows.alike, c.refer-touch.ensures.keys, few);
    }

pub invariant_of-self : goal.invariant_of-self
invariant_of-self c =
    let rows = c.args.self.now in
    let before : List AddressPair = keys_of rows.pairs.rows.rows in
    let after : List AddressPair = keys_of c.refer-touch.new.self.rows.rows in
    record {
      alike = found_reversed pair_eq exact_pair reversed c.follow.new.self.keys after
          (c.follow.ensures.keys before after (members_reversed pair_eq exact_pair reversed rows.reverse.keys before rows.alike) c.refer-touch.ensures.keys);
      room = rw c.follow.ensures.room rows.room;
    }

pub returns-then-facts-clause-means : goal.returns-then-facts-clause-means
returns-then-facts-clause-means c mentions means =
    let facts = c.args.facts.now in
    subst (λ (said : List PairMention). IsOf pair_eq no_counts with_gain said c.refer-touch.new.self)
    (good_taken c.args.stamp (c.args.moment / 10) facts c.in-Some.addresses c.in-Some.is c.new-pair.result c.new-pair.ensures c.of-gain.result c.of-gain.ensures mentions c.if-facts.true)
    (c.refer-touch.ensures.means mentions means)

pub returns-else-facts-clause-means : goal.returns-else-facts-clause-means
returns-else-facts-clause-means c mentions means =
    let facts = c.args.facts.now in
    subst (λ (said : List PairMention). IsOf pair_eq no_counts with_gain said c.stray.new.self)
    (bad_taken c.args.stamp (c.args.moment / 10) facts c.in-Some.addresses c.in-Some.is c.new-pair.result c.new-pair.ensures c.of-gain.result c.of-gain.ensures mentions c.if-facts.false)
    (c.stray.ensures.means mentions means)
