use Rattle.std.proofs.Common.{sym, ap, ◌∙◌}
use Rattle.std.specs.Prelude.{unwrap_or}
use Rattle.rm_val.specs.Val.{val_of}
use Rattle.rm_columns.proofs.Named.{first_named}
use Rattle.rm_columns.proofs.values.interface_in.Goals as goal

pub returns-in-Some : goal.returns-in-Some
returns-in-Some c = ap (λ found. unwrap_or found 0) (sym c.in-Some.is ∙ first_named (val_of c.args.value.now) c.source.result c.source.ensures)

pub returns-in-None : goal.returns-in-None
returns-in-None c = ap (λ found. unwrap_or found 0) (sym c.in-None.is ∙ first_named (val_of c.args.value.now) c.source.result c.source.ensures)
