use Rattle.std.proofs.Common.{◌≡◌, Some, drop, ◌∙◌, ap}
use Rattle.std.specs.Option.{option_map}
use Rattle.rm_keyed.specs.declared.address_pair.AddressPair.{AddressPair}
use Rattle.rm_keyed.proofs.Pairs.{pair_again}
use Rattle.rm_matrix.specs.Shown.{kept_value, by_source}
use Rattle.rm_matrix.proofs.by_source.BySourceKeyTable.value.Goals as goal

pub returns-clause-value : goal.returns-clause-value
returns-clause-value c =
    let rows = c.args.rows.now in
    let shown = λ (pair : AddressPair). kept_value c.args.row rows pair c.args.column in
    let found : Some c.in_ok-pair.pair.now ≡ by_source rows (drop 1 c.args.index.now) = rw c.rows.ensures.value at c.in_ok-pair.ensures in
    ap Some (c.pair_value.ensures.value ∙ ap shown (pair_again c.in_ok-pair.pair.now)) ∙ ap (option_map shown) found
