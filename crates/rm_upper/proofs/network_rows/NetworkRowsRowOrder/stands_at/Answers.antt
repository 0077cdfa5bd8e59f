use Rattle.std.proofs.Common.{◌≡◌, Some, sym, ◌∙◌, subst}
use Rattle.std.specs.Option.{option_map}
use Rattle.rm_rows.specs.Table.{row_of, tick_of}
use Rattle.rm_upper.specs.Standing.{Layered}
use Rattle.rm_upper.proofs.RowWalk.{stands_by}
use Rattle.rm_upper.proofs.network_rows.NetworkRowsRowOrder.stands_at.Goals as goal

pub returns-in-Some-clause-stands : goal.returns-in-Some-clause-stands
returns-in-Some-clause-stands g c =
    let layered : Layered g.row.K.Denot g.row.N.Denot g.row.N-Application.Denot = record { table = c.self.inside.rows; slots = c.self.inside.slots; network_inserts = c.self.inside.network_inserts; application_inserts = c.self.inside.application_inserts } in
    let seen : layered ≡ c.args.self.now = c.self.view_is in
    let there : option_map tick_of (row_of g.K.PartialEq.eq c.args.key.now c.self.inside.rows.rows) ≡ Some c.in-Some.tick = sym c.mark.ensures ∙ c.in-Some.is in
    stands_by g.K.PartialEq.eq c.args.self.now c.args.mark c.args.key.now c.in-Some.tick
    (subst (λ (x : Layered g.row.K.Denot g.row.N.Denot g.row.N-Application.Denot). option_map tick_of (row_of g.K.PartialEq.eq c.args.key.now x.table.rows) ≡ Some c.in-Some.tick) seen there)
