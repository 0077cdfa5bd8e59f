use Rattle.rm_group.specs.ColumnLemmas.{is_of_column-instance}
use Rattle.rm_group.proofs.objects.is_of_column.Goals as goal

pub returns : goal.returns
returns c = rw (c.is_some.ensures, c.instance_of.ensures) (is_of_column-instance c.args.entry.now c.args.columns.now c.args.name.now)
