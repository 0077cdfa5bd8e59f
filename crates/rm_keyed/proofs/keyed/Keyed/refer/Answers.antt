use Rattle.std.proofs.Common.{◌≡◌, ℕ, ◌+◌, ◌≤◌, length, refl, sym, ap, ◌∙◌, subst, true, false}
use Rattle.rm_evicting.specs.Row.{takes_place}
use Rattle.rm_evicting.proofs.Keys.{exact_key}
use Rattle.rm_rows.specs.Table.{Table}
use Rattle.rm_rows.proofs.CreditLemmas.{keys-credited, length-credited}
use Rattle.rm_keyed.specs.declared.keyed.TheConstants.{MOST_ROWS}
use Rattle.rm_keyed.specs.Entered.{Entered, IsOf}
use Rattle.rm_keyed.proofs.Evictions.{answers_eviction, answers_none}
use Rattle.rm_keyed.proofs.EachRow.{referred, ready-referred}
use Rattle.rm_keyed.proofs.Mentions.{is_of-refers}
use Rattle.rm_keyed.proofs.keyed.Keyed.refer.Goals as goal
use Rattle.rm_keyed.proofs.keyed.Keyed.refer.Goals.{in-Evicted, in_default}

pub invariant_of-self : goal.invariant_of-self
invariant_of-self g c =
    let above : c.self.inside.stamps ≤ c.args.stamp = subst (λ (it : Entered g.row.K.Denot g.row.V.Denot). it.stamps ≤ c.args.stamp) (sym c.self.view_is) c.requires.stamp in
    let after : c.self.inside.tick ≤ c.args.tick = subst (λ (it : Entered g.row.K.Denot g.row.V.Denot). it.tick ≤ c.args.tick) (sym c.self.view_is) c.requires.tick in
    let ready = ready-referred g.K.PartialEq.eq g.V.Blank.blank_value g.V.Counts.plus c.args.key c.args.stamp c.args.tick c.args.gain.now c.self.inside.rows c.self.inside.stamps c.self.inside.tick above after c.self.invariant in
    elim c.match-touch.branch [
      | in-Evicted w ↦ rw (c.credit.ensures, w.self-inside-is, c.touch-touch.ensures.rows) ready
      | in_default w ↦ rw (c.credit.ensures, w.self-inside-is, c.touch-touch.ensures.rows) ready
    ]

pub returns-clause-means : goal.returns-clause-means
returns-clause-means g c = λ mentions is.
    let exact = exact_key g.K.PartialEq.eq g.K.Ord.cmp g.met.K.Eq.laws g.met.K.Ord.matches_eq g.met.K.Key.exact in
    let old : Entered g.row.K.Denot g.row.V.Denot = record { rows = c.self.inside.rows; last_delete = c.self.inside.last_delete; stamps = c.self.inside.stamps; tick = c.self.inside.tick } in
    let before : IsOf g.K.PartialEq.eq g.V.Blank.blank_value g.V.Counts.plus mentions old = rw c.self.view_is is in
    let above : c.self.inside.stamps ≤ c.args.stamp = subst (λ (it : Entered g.row.K.Denot g.row.V.Denot). it.stamps ≤ c.args.stamp) (sym c.self.view_is) c.requires.stamp in
    let new = λ (last_delete : ℕ). (let it : Entered g.row.K.Denot g.row.V.Denot = record {
      rows = referred g.K.PartialEq.eq g.V.Blank.blank_value g.V.Counts.plus c.args.key c.args.stamp c.args.tick c.args.gain.now c.self.inside.rows;
      last_delete = last_delete;
      stamps = c.args.stamp + 1;
      tick = c.args.tick;
    } in it) in
    let refers = λ (last_delete : ℕ). is_of-refers g.K.PartialEq.eq exact g.V.Blank.blank_value g.V.Counts.plus mentions old (new last_delete) before c.args.key c.args.stamp c.args.tick c.args.gain.now c.self.invariant.some above refl in
    elim c.match-touch.branch [
      | in-Evicted w ↦
          let due : takes_place g.K.PartialEq.eq c.self.inside.rows.capacity c.args.key c.self.inside.rows.rows ≡ true =
          answers_eviction g.K.PartialEq.eq c.self.inside.rows.capacity c.args.key c.self.inside.rows.rows c.touch-touch.result c.touch-touch.ensures.answer w.in-Evicted.field-0 w.in-Evicted.is in
          rw (c.credit.ensures, w.self-inside-is, c.touch-touch.ensures.rows) (refers c.args.tick (rw due refl) refl)
      | in_default w ↦
          let not_due : takes_place g.K.PartialEq.eq c.self.inside.rows.capacity c.args.key c.self.inside.rows.rows ≡ false =
          answers_none g.K.PartialEq.eq c.self.inside.rows.capacity c.args.key c.self.inside.rows.rows c.touch-touch.result c.touch-touch.ensures.answer c.self.invariant.some w.in_default.not-Evicted in
          rw (c.credit.ensures, w.self-inside-is, c.touch-touch.ensures.rows) (refers c.self.inside.last_delete (rw not_due refl) refl)
    ]

pub returns-clause-keys : goal.returns-clause-keys
returns-clause-keys g c =
    let same = keys-credited g.K.PartialEq.eq g.V.Counts.plus c.args.key c.args.gain.now c.touch-touch.new.self.rows in
    elim c.match-touch.branch [
      | in-Evicted w ↦ rw (c.credit.ensures, w.self-inside-is, ← c.self.view_is, same) c.touch-touch.ensures.keys
      | in_default w ↦ rw (c.credit.ensures, w.self-inside-is, ← c.self.view_is, same) c.touch-touch.ensures.keys
    ]

pub returns-clause-few : goal.returns-clause-few
returns-clause-few g c =
    let room : c.touch-touch.new.self.room ≡ MOST_ROWS = ap (λ (table : Table g.row.K.Denot g.row.V.Denot). table.room) c.touch-touch.ensures.rows ∙ c.self.invariant.room in
    let few : length c.touch-touch.new.self.rows ≤ MOST_ROWS = rw (← room) c.touch-touch.ensures.few in
    let many = length-credited g.K.PartialEq.eq g.V.Counts.plus c.args.key c.args.gain.now c.touch-touch.new.self.rows in
    elim c.match-touch.branch [
      | in-Evicted w ↦ rw (c.credit.ensures, w.self-inside-is, many) few
      | in_default w ↦ rw (c.credit.ensures, w.self-inside-is, many) few
    ]
