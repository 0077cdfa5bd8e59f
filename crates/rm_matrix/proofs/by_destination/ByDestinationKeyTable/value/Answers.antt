use Rattle.std.proofs.Common.{◌≡◌, Some, drop, ◌∙◌, ap}
use Rattle.std.specs.Option.{option_map}
use Rattle.rm_keyed.specs.declared.address_pair.AddressPair.{AddressPair}
use Rattle.rm_keyed.specs.Addresses.{pair_index, reversed}
use Rattle.rm_keyed.specs.Indexes.{key_with}
use Rattle.rm_keyed.proofs.Pairs.{pair_again}
use Rattle.rm_matrix.specs.Shown.{kept_value}
use Rattle.rm_matrix.proofs.by_destination.ByDestinationKeyTable.value.Goals as goal

pub returns-clause-value : goal.returns-clause-value
returns-clause-value c =
    let rows = c.args.rows.now in
    let shown = λ (pair : AddressPair). kept_value c.args.row rows pair c.args.column in
    let found : Some c.in_ok-pair.pair.now ≡ key_with pair_index rows.reverse.keys (drop 1 c.args.index.now) = c.in_ok-pair.ensures in
    ap Some (c.pair_value.ensures.value ∙ ap shown (pair_again (reversed c.in_ok-pair.pair.now))) ∙ ap (λ o. option_map shown (option_map reversed o)) found
