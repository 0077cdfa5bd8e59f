use Rattle.std.proofs.Common.{◌≡◌, Some, sym, subst}
use Rattle.std.specs.Option.{option_map}
use Rattle.std.specs.Ordering.{nat_cmp}
use Rattle.rm_rows.specs.Table.{row_of}
use Rattle.rm_layers.specs.Marks.{IsLeast, StandsAt, IsAboveName}
use Rattle.rm_upper.specs.Shown.{applications_of}
use Rattle.rm_upper.specs.Standing.{Layered}
use Rattle.rm_upper.specs.Walk.{ShowsApplication}
use Rattle.rm_upper.proofs.RowWalk.{in_is}
use Rattle.rm_upper.proofs.network_rows.NetworkRowsRowOrder.next_in.Goals as goal

pub returns-in-Some-clause-least : goal.returns-in-Some-clause-least
returns-in-Some-clause-least g c =
    let layered : Layered g.row.K.Denot g.row.N.Denot g.row.N-Application.Denot = record { table = c.self.inside.rows; slots = c.self.inside.slots; network_inserts = c.self.inside.network_inserts; application_inserts = c.self.inside.application_inserts } in
    let seen : layered ≡ c.args.self.now = c.self.view_is in
    let there : option_map applications_of (row_of g.K.PartialEq.eq c.args.key.now c.self.inside.rows.rows) ≡ Some c.in-Some.applications.now = sym c.in-Some.ensures.value in
    subst (λ (x : Layered g.row.K.Denot g.row.N.Denot g.row.N-Application.Denot). IsLeast nat_cmp (λ p. StandsAt (ShowsApplication g.K.PartialEq.eq x) c.args.mark (c.args.key.now, p)) (IsAboveName nat_cmp c.args.from) c.next_protocol.result) seen
    (in_is g.K.PartialEq.eq layered c.args.mark c.args.key.now c.in-Some.applications.now there c.args.from c.next_protocol.result c.next_protocol.ensures.least)
