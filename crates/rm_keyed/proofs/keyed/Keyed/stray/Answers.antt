use Rattle.std.proofs.Common.{refl}
use Rattle.rm_evicting.proofs.Keys.{exact_key}
use Rattle.rm_keyed.specs.Entered.{Entered, IsOf}
use Rattle.rm_rows.proofs.CreditLemmas.{keys-credited}
use Rattle.rm_keyed.proofs.EachRow.{ready-strayed}
use Rattle.rm_keyed.proofs.Mentions.{is_of-strays}
use Rattle.rm_keyed.proofs.keyed.Keyed.stray.Goals as goal

pub invariant_of-self : goal.invariant_of-self
invariant_of-self g c =
    rw c.credit.ensures (ready-strayed g.K.PartialEq.eq g.V.Blank.blank_value g.V.Counts.plus c.args.key.now c.args.gain.now c.self.inside.rows c.self.inside.stamps c.self.inside.tick c.self.invariant)

pub returns-clause-means : goal.returns-clause-means
returns-clause-means g c = λ mentions is.
    let exact = exact_key g.K.PartialEq.eq g.K.Ord.cmp g.met.K.Eq.laws g.met.K.Ord.matches_eq g.met.K.Key.exact in
    let old : Entered g.row.K.Denot g.row.V.Denot = record { rows = c.self.inside.rows; last_delete = c.self.inside.last_delete; stamps = c.self.inside.stamps; tick = c.self.inside.tick } in
    let new : Entered g.row.K.Denot g.row.V.Denot = record { rows = c.credit.new.rows; last_delete = c.self.inside.last_delete; stamps = c.self.inside.stamps; tick = c.self.inside.tick } in
    let before : IsOf g.K.PartialEq.eq g.V.Blank.blank_value g.V.Counts.plus mentions old = rw c.self.view_is is in
    is_of-strays g.K.PartialEq.eq exact g.V.Blank.blank_value g.V.Counts.plus mentions old new before c.args.key.now c.args.gain.now c.credit.ensures refl refl

pub returns-clause-keys : goal.returns-clause-keys
returns-clause-keys g c = rw (c.credit.ensures, ← c.self.view_is) (keys-credited g.K.PartialEq.eq g.V.Counts.plus c.args.key.now c.args.gain.now c.self.inside.rows.rows)
