use Rattle.rm_collect.proofs.Becoming.{fit_later, well_with_frame, stands_with_frame}
use Rattle.rm_collect.proofs.collecting.Collecting.take_judged.Goals as goal

pub pass-requires-clause-fits : goal.pass-requires-clause-fits
pass-requires-clause-fits g c row =
    let inside = c.self.inside in
    fit_later g.P.Columns.ControlRow.form g.P.Collected.collection g.met.P.Collected.laws inside.table.last c.args.passing.now.moment inside.frames (rw (← c.self.view_is) at c.requires.later) _ (c.self.invariant.fits row)

pub returns-clause-stands : goal.returns-clause-stands
returns-clause-stands g c =
    let passing = c.args.passing.now in
    stands_with_frame g.P.Columns.ControlRow.form g.P.Collected.collection g.met.P.Collected.laws c.self.view_is c.self.invariant c.args.judged.now passing.facts passing.octets.now passing.number passing.moment c.requires.later c.pass.new.parts c.pass.ensures.parts

pub invariant_of-self : goal.invariant_of-self
invariant_of-self g c =
    let passing = c.args.passing.now in
    well_with_frame g.P.Columns.ControlRow.form g.P.Collected.collection g.met.P.Collected.laws c.self.view_is c.self.invariant c.args.judged.now passing.facts passing.octets.now passing.number passing.moment c.requires.later c.pass.new.parts c.pass.ensures.parts
