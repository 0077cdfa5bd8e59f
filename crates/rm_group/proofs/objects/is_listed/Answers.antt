use Rattle.std.proofs.Common.{◌∙◌, sym}
use Rattle.rm_model.specs.Cells.{is_of_column}
use Rattle.rm_group.proofs.Listing.{any_map}
use Rattle.rm_group.proofs.objects.is_listed.Goals as goal

pub returns : goal.returns
returns c =
    c.is_of_one.ensures
    ∙ sym (any_map (λ table. is_of_column table.entry table.columns c.args.name.now) (λ table. record { entry = table.entry.now; columns = table.columns.now }) c.args.tables.now)
