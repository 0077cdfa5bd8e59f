use Rattle.std.proofs.Common.{◌∙◌, ap, Bool}
use Rattle.rm_dir.specs.BuiltIn.{BuiltIn}
use Rattle.std.specs.Prelude.{find}
use Rattle.std.specs.Option.{option_map}
use Rattle.rm_path.specs.Identifier.{is_same}
use Rattle.rm_dir.specs.BuiltInRows.{row_of}
use Rattle.rm_dir.proofs.Found.{find-map}
use Rattle.rm_dir.proofs.built_in.built_in.Goals as goal

-- the row is found among the rows of the code
pub returns : goal.returns
returns c =
    let p : BuiltIn → Bool = λ row. is_same row.protocol c.args.protocol in
    ap (option_map row_of) c.found_in.ensures ∙ find-map row_of p c.built_in_rows.result.now ∙ ap (find p) c.built_in_rows.ensures.rows
