use Rattle.std.proofs.Common.{sym, ◌∙◌}
use Rattle.rm_pool.specs.Pools.{valid_in}
use Rattle.rm_status.proofs.RowFacts.{valid_fits}
use Rattle.rm_pool.proofs.Spares.{spare_left, not_there}
use Rattle.rm_pool.proofs.pool.Pool.begin_of.Goals as goal

pub begin-requires-clause-fits : goal.begin-requires-clause-fits
begin-requires-clause-fits g c = (valid_fits g.C.ControlRow.form.table c.args.rows.now c.args.row c.len.ensures.rows.1 (sym c.is_valid.ensures ∙ c.if-is_valid.true)).1

pub begin-requires-clause-spare : goal.begin-requires-clause-spare
begin-requires-clause-spare g c =
    let valid = sym c.is_valid.ensures ∙ c.if-is_valid.true in
    spare_left (valid_in c.args.rows.now) c.args.self.now c.args.row c.requires.used (valid_fits g.C.ControlRow.form.table c.args.rows.now c.args.row c.len.ensures.rows.1 valid).1 valid (not_there _ (sym c.has.ensures ∙ c.if-not-has.true)) c.requires.enough
