use Rattle.std.proofs.Common.{sym, subst}
use Rattle.rm_group.specs.Least.{AreFrom}
use Rattle.rm_sourced.specs.Shown.{shown_by}
use Rattle.rm_sourced.specs.Collection.{source_cells, source_collection}
use Rattle.rm_sourced.proofs.Leasts.{cells_from}
use Rattle.rm_sourced.proofs.collected.SourcedCollected.least.Goals as goal

pub returns-clause-from : goal.returns-clause-from
unfolding source_collection
returns-clause-from g c settings journal now =
    let R = g.R.SourceRows in
    let F = g.R.First.KeyTable in
    let S = g.R.Second.KeyTable in
    let first = shown_by F.key_at F.is_open F.value_of F.entry F.columns R.first_index R.value in
    let second = shown_by S.key_at S.is_open S.value_of S.entry S.columns R.second_index R.value in
    let entry = g.R.SourceTable.entry in
    subst (λ least. AreFrom least (source_cells entry R.sourcing first second settings journal)) (sym c.entry.ensures) (cells_from entry R.sourcing first second g.met.R.SourceRows.laws settings journal)
