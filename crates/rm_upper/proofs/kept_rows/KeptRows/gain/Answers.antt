use Rattle.std.proofs.Common.{map, sym, ap, ◌∙◌}
use Rattle.rm_evicting.specs.Row.{credited}
use Rattle.rm_rows.specs.Table.{Table}
use Rattle.rm_upper.specs.Kept.{NetworkRow}
use Rattle.rm_upper.specs.Shown.{gained_value, made_in, row_as}
use Rattle.rm_rows.proofs.CreditLemmas.{credited-absent}
use Rattle.rm_upper.proofs.CreditLemmas.{made-here, made-absent}
use Rattle.rm_upper.proofs.SeenTables.{value-seen, absent-seen, gained-seen}
use Rattle.rm_upper.proofs.kept_rows.KeptRows.gain.Goals as goal
use Rattle.rm_upper.proofs.kept_rows.KeptRows.gain.Goals.{in-Some, in-None}

pub returns-clause-rows : goal.returns-clause-rows
returns-clause-rows g c =
    let old = c.self.inside.rows in
    let adds = gained_value g.N.Counts.tally c.args.slots.now c.args.path.now c.args.stamp c.args.tick in
    let seen = ap (λ (x : Table g.row.K.Denot (NetworkRow g.row.N.Denot g.row.N-Application.Denot)). record { room = x.room; capacity = x.capacity; rows = credited g.K.PartialEq.eq adds c.args.key.now c.args.gain.now x.rows }) c.self.view_is in
    elim c.match-get_mut.branch [
      | in-Some w ↦ rw w.self-inside-is (ap (λ rows. record { room = old.room; capacity = old.capacity; rows = rows }) (gained-seen g.N.LayerCounts.seen g.K.PartialEq.eq adds c.args.key.now w.in-Some.row.now w.gain.new.row c.args.gain.now old.rows w.in-Some.ensures.value w.gain.ensures.value) ∙ seen)
      | in-None w ↦ rw w.self-inside-is (ap (λ rows. record { room = old.room; capacity = old.capacity; rows = rows }) (sym (credited-absent g.K.PartialEq.eq adds c.args.key.now c.args.gain.now (map (row_as g.N.LayerCounts.seen) old.rows) (absent-seen g.N.LayerCounts.seen g.K.PartialEq.eq c.args.key.now old.rows w.in-None.ensures.none))) ∙ seen)
    ]

pub returns-clause-made : goal.returns-clause-made
returns-clause-made g c =
    let old = c.self.inside.rows in
    let seen = ap (λ (x : Table g.row.K.Denot (NetworkRow g.row.N.Denot g.row.N-Application.Denot)). made_in g.K.PartialEq.eq c.args.slots.now c.args.path.now c.args.key.now x.rows) c.self.view_is in
    elim c.match-get_mut.branch [
      | in-Some w ↦ w.result-is ∙ w.gain.ensures.made ∙ sym (made-here g.K.PartialEq.eq c.args.slots.now c.args.path.now c.args.key.now (g.N.LayerCounts.seen w.in-Some.row.now) (map (row_as g.N.LayerCounts.seen) old.rows) (value-seen g.N.LayerCounts.seen g.K.PartialEq.eq c.args.key.now old.rows w.in-Some.row.now w.in-Some.ensures.value)) ∙ seen
      | in-None w ↦ w.result-is ∙ sym (made-absent g.K.PartialEq.eq c.args.slots.now c.args.path.now c.args.key.now (map (row_as g.N.LayerCounts.seen) old.rows) (absent-seen g.N.LayerCounts.seen g.K.PartialEq.eq c.args.key.now old.rows w.in-None.ensures.none)) ∙ seen
    ]
