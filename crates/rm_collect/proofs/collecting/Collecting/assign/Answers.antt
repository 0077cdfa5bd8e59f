use Rattle.std.proofs.Common.{◌≤◌, rules, length, sym, subst}
use Rattle.rm_status.proofs.Committed.{count_then}
use Rattle.rm_status.proofs.Puts.{all_fine}
use Rattle.rm_collect.proofs.InRange.{rows_in_range}
use Rattle.rm_collect.proofs.Assigned.{well_with_set, begun_with_set}
use Rattle.rm_collect.proofs.collecting.Collecting.assign.Goals as goal

pub commit-requires : goal.commit-requires
commit-requires g c = let ready = rw (← c.self.view_is) at c.requires.ready in (search rules, ready.fine.by_rows)

pub invariant_of-self-inside : goal.invariant_of-self-inside
invariant_of-self-inside g c =
    let form = g.P.Columns.ControlRow.form in
    let bs = g.A.Assigns.bindings c.args.set.now in
    let fine = all_fine form.table bs c.requires.ready.fine.by_rows.alone in
    record { in_range = rows_in_range form g.P.Collected.collection g.met.P.Collected.laws bs c.self.inside.table.rows c.commit.new.self fine c.commit.ensures c.self.invariant.in_range }

pub follow-requires : goal.follow-requires
follow-requires g c =
    let ready = rw (← c.self.view_is) at c.requires.ready in
    let count = count_then g.P.Columns.ControlRow.form (g.A.Assigns.bindings c.args.set.now) c.self.inside.table.rows c.commit.new.self c.commit.ensures in
    (search rules, subst (λ n. n ≤ length c.self.inside.parts) (sym count) ready.room)

pub invariant_of-self : goal.invariant_of-self
invariant_of-self g c =
    let follow = c.follow.ensures in
    well_with_set g.P.Columns.ControlRow.form g.P.Collected.collection g.met.P.Collected.laws c.self.view_is c.self.invariant c.args.now c.requires.later (g.A.Assigns.bindings c.args.set.now) c.requires.ready.fine.by_rows
    c.commit.new.self c.commit.ensures c.follow.new.self follow.of_valid follow.stays follow.begun

pub returns-clause-stocked : goal.returns-clause-stocked
returns-clause-stocked g c = c.give_back.ensures.stocked (subst (λ n. 1 ≤ n) (sym c.follow.ensures.size) (rw (← c.self.view_is) at c.requires.stocked))

pub returns-clause-begun : goal.returns-clause-begun
returns-clause-begun g c settings journal values stands reached gives =
    let follow = c.follow.ensures in
    c.give_back.ensures.begun settings _ journal
    (begun_with_set g.P.Columns.ControlRow.form g.P.Collected.collection g.met.P.Collected.laws c.self.view_is c.self.invariant c.args.now c.requires.later (g.A.Assigns.bindings c.args.set.now) c.requires.ready.fine.by_rows
    c.commit.new.self c.commit.ensures c.follow.new.self follow.of_valid follow.stays follow.begun settings journal values c.len.ensures.rows stands reached gives)
