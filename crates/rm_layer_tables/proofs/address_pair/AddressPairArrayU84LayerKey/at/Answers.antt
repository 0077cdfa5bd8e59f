use Rattle.std.proofs.Common.{sym, ◌∙◌}
use Rattle.rm_layer_tables.specs.Addresses.{pair_of}
use Rattle.rm_layer_tables.proofs.PlaceLemmas.{pair_from}
use Rattle.rm_layer_tables.proofs.address_pair.AddressPairArrayU84LayerKey.at.Goals as goal

pub returns-in_err-second : goal.returns-in_err-second
returns-in_err-second c =
    c.from_residual-in_err-second.ensures
    ∙ sym (pair_from c.args.index.now c.args.from ∙ (λ d. pair_of ((sym c.address_at.ensures ∙ c.in_ok-first.was) d) ((sym c.address_at-2.ensures ∙ c.in_err-second.was) d)))

pub returns : goal.returns
returns c =
    sym (pair_from c.args.index.now c.args.from ∙ (λ d. pair_of ((sym c.address_at.ensures ∙ c.in_ok-first.was) d) ((sym c.address_at-2.ensures ∙ c.in_ok-second.was) d)))
