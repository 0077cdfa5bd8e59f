use Rattle.rm_layer_tables.proofs.held_rows.HeldTableLayerRows.application_after.Goals as goal

pub returns : goal.returns
returns g c = rw c.rows.ensures at c.application_after.ensures.kept
