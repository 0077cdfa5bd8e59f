use Rattle.std.proofs.Common.{◌<◌, ◌≤◌, All, map, nat_lt, length, sym, ap, ◌∙◌, subst}
use Rattle.std.specs.Prelude.{find}
use Rattle.rm_evicting.specs.Row.{holds, is_oldest, touched}
use Rattle.rm_rows.specs.Table.{Table, AreAfter, keys_of}
use Rattle.rm_upper.specs.Kept.{NetworkRow}
use Rattle.rm_upper.specs.Shown.{blank_row, row_as, seen_table}
use Rattle.rm_upper.proofs.SeenLemmas.{holds-through, touched-through}
use Rattle.rm_upper.proofs.SeenTables.{all-from, is_answer, keys-seen}
use Rattle.rm_upper.proofs.kept_rows.KeptRows.touch.Goals as goal

pub touch-requires-clause-stamp : goal.touch-requires-clause-stamp
touch-requires-clause-stamp g c =
    all-from g.N.LayerCounts.seen (λ row. row.last < c.args.stamp) (λ row. row.last < c.args.stamp) (λ row below. below) c.self.inside.rows.rows
    (subst (λ (x : Table g.row.K.Denot (NetworkRow g.row.N.Denot g.row.N-Application.Denot)). All (λ row. row.last < c.args.stamp) x.rows) (sym c.self.view_is) c.requires.stamp)

pub touch-requires-clause-tick : goal.touch-requires-clause-tick
touch-requires-clause-tick g c =
    all-from g.N.LayerCounts.seen (λ row. row.tick ≤ c.args.tick) (λ row. row.tick ≤ c.args.tick) (λ row below. below) c.self.inside.rows.rows
    (subst (λ (x : Table g.row.K.Denot (NetworkRow g.row.N.Denot g.row.N-Application.Denot)). All (λ row. row.tick ≤ c.args.tick) x.rows) (sym c.self.view_is) c.requires.tick)

pub returns-clause-rows : goal.returns-clause-rows
returns-clause-rows g c =
    let old = c.self.inside.rows in
    ap (seen_table g.N.LayerCounts.seen) c.touch.ensures.rows
    ∙ ap (λ rows. record { room = old.room; capacity = old.capacity; rows = rows }) (sym (touched-through g.K.PartialEq.eq g.N.LayerCounts.seen g.N.Row.Blank.blank_value old.capacity c.args.key c.args.stamp c.args.tick old.rows))
    ∙ ap (λ blank. record { room = old.room; capacity = old.capacity; rows = touched g.K.PartialEq.eq blank old.capacity c.args.key c.args.stamp c.args.tick (map (row_as g.N.LayerCounts.seen) old.rows) }) g.met.N.LayerCounts.starts
    ∙ ap (λ (x : Table g.row.K.Denot (NetworkRow g.row.N.Denot g.row.N-Application.Denot)). record { room = x.room; capacity = x.capacity; rows = touched g.K.PartialEq.eq (blank_row g.N.Counts.tally.blank) x.capacity c.args.key c.args.stamp c.args.tick x.rows }) c.self.view_is

pub returns-clause-held : goal.returns-clause-held
returns-clause-held g c =
    let old = c.self.inside.rows in
    is_answer c.touch.result (holds g.K.PartialEq.eq c.args.key old.rows) (nat_lt (length old.rows) old.capacity) (find (is_oldest old.rows) old.rows) c.touch.ensures.answer
    ∙ sym (holds-through g.K.PartialEq.eq g.N.LayerCounts.seen c.args.key old.rows) ∙ ap (λ (x : Table g.row.K.Denot (NetworkRow g.row.N.Denot g.row.N-Application.Denot)). holds g.K.PartialEq.eq c.args.key x.rows) c.self.view_is

pub returns-clause-keys : goal.returns-clause-keys
returns-clause-keys g c =
    subst (λ (x : Table g.row.K.Denot (NetworkRow g.row.N.Denot g.row.N-Application.Denot)). AreAfter g.K.PartialEq.eq c.args.key c.touch.result (keys_of x.rows) (keys_of (map (row_as g.N.LayerCounts.seen) c.touch.new.self.rows))) c.self.view_is
    (subst (λ ks. AreAfter g.K.PartialEq.eq c.args.key c.touch.result ks (keys_of (map (row_as g.N.LayerCounts.seen) c.touch.new.self.rows))) (sym (keys-seen g.N.LayerCounts.seen c.self.inside.rows.rows))
    (subst (λ ks. AreAfter g.K.PartialEq.eq c.args.key c.touch.result (keys_of c.self.inside.rows.rows) ks) (sym (keys-seen g.N.LayerCounts.seen c.touch.new.self.rows)) c.touch.ensures.keys))
