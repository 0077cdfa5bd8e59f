use Rattle.std.proofs.Common.{sym, subst}
use Rattle.rm_group.specs.Least.{AreFrom}
use Rattle.rm_keyed.specs.PartRows.{parts_table}
use Rattle.rm_keyed.specs.TwoTables.{cells_of_two}
use Rattle.rm_keyed.proofs.TwoLaws.{two_from}
use Rattle.rm_sourced.specs.Shown.{key_in_rows, value_in_rows}
use Rattle.rm_sourced.specs.Collection.{source_collection}
use Rattle.rm_sourced.proofs.collected.SourcedCollected.inner_least.Goals as goal

pub returns-clause-from : goal.returns-clause-from
unfolding source_collection
returns-clause-from g c rows parts now =
    let F = g.R.First.KeyTable in
    let S = g.R.Second.KeyTable in
    let first = parts_table (key_in_rows F.key_at) (value_in_rows F.value_of) (F.is_open now) F.entry F.columns parts in
    let second = parts_table (key_in_rows S.key_at) (value_in_rows S.value_of) (S.is_open now) S.entry S.columns parts in
    subst (λ least. AreFrom least (cells_of_two first second)) (sym c.objects.ensures.entry) (two_from first second g.met.R.SourceRows.laws.second_below)
