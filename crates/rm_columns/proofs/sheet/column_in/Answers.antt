use Rattle.std.proofs.Common.{sym, ap, ◌∙◌}
use Rattle.std.specs.Option.{option_map}
use Rattle.rm_model.specs.Sheet.{column_of}
use Rattle.rm_columns.specs.SheetLaws.{found_column}
use Rattle.rm_columns.proofs.sheet.column_in.Goals as goal

pub returns : goal.returns
returns c = ap (option_map column_of) c.found_in.ensures ∙ sym (found_column c.args.columns.now c.args.number)
