use Rattle.std.proofs.Common.{rules, ◌≡◌, ◌+◌, ◌<◌, ◌≤◌, length, sym, ap, ◌∙◌, subst, arith, ◌∷◌}
use Rattle.rm_evicting.specs.Row.{touched, credited}
use Rattle.rm_evicting.proofs.Keys.{exact_key}
use Rattle.rm_rows.specs.Table.{Table, AreAfter, keys_of}
use Rattle.rm_layers.specs.Event.{names}
use Rattle.rm_layers.specs.Upper.{AreTuned}
use Rattle.rm_upper.specs.Kept.{NetworkRow}
use Rattle.rm_upper.specs.Shown.{protocols, Agrees, blank_row, gained_value}
use Rattle.rm_upper.specs.Sound.{AreSound}
use Rattle.rm_upper.specs.Standing.{Layered, StandsFor, referred}
use Rattle.rm_rows.proofs.CreditLemmas.{keys-credited, length-credited}
use Rattle.rm_upper.proofs.SoundLemmas.{sound-referred}
use Rattle.rm_upper.proofs.StandingLemmas.{stands-referred}
use Rattle.rm_upper.proofs.network_rows.NetworkRows.refer.Goals as goal

pub invariant_of-self : goal.invariant_of-self
invariant_of-self g c =
    let exact = exact_key g.K.PartialEq.eq g.K.Ord.cmp g.met.K.Eq.laws g.met.K.Ord.matches_eq g.met.K.Key.exact in
    let old = c.self.inside.rows in
    let new : Table g.row.K.Denot (NetworkRow g.row.N.Denot g.row.N-Application.Denot) = record {
      room = old.room;
      capacity = old.capacity;
      rows = credited g.K.PartialEq.eq (gained_value g.N.Counts.tally c.self.inside.slots c.args.path.now c.args.stamp c.args.tick) c.args.key c.args.gain.now
          (touched g.K.PartialEq.eq (blank_row g.N.Counts.tally.blank) old.capacity c.args.key c.args.stamp c.args.tick old.rows);
    } in
    let kept : c.gain-made.new.self ≡ new = search rules in
    let sound : (0 < c.gain-made.new.self.capacity) × AreSound g.K.PartialEq.eq c.gain-made.new.self.rows =
    subst (λ (x : Table g.row.K.Denot (NetworkRow g.row.N.Denot g.row.N-Application.Denot)). (0 < x.capacity) × AreSound g.K.PartialEq.eq x.rows) (sym kept)
    (c.self.invariant.0, sound-referred g.K.PartialEq.eq exact g.N.Counts.tally c.self.inside.slots c.args.path.now old.capacity c.args.key c.args.stamp c.args.tick c.args.gain.now old.rows c.self.invariant.1) in
    (sound.0, sound.1, c.self.invariant.2)

pub returns-clause-stands : goal.returns-clause-stands
returns-clause-stands g c = λ r part same_stamp same_tick same_gain agrees on tuned rises stands.
    let exact = exact_key g.K.PartialEq.eq g.K.Ord.cmp g.met.K.Eq.laws g.met.K.Ord.matches_eq g.met.K.Key.exact in
    let layered : Layered g.row.K.Denot g.row.N.Denot g.row.N-Application.Denot = record { table = c.self.inside.rows; slots = c.self.inside.slots; network_inserts = c.self.inside.network_inserts; application_inserts = c.self.inside.application_inserts } in
    let new : Layered g.row.K.Denot g.row.N.Denot g.row.N-Application.Denot = record { table = c.gain-made.new.self; slots = c.self.inside.slots; network_inserts = c.self.inside.network_inserts + c.entered.result; application_inserts = c.self.inside.application_inserts + c.gain-made.result } in
    let seen : layered ≡ c.args.self.now = c.self.view_is in
    let kept : new ≡ referred g.N.Counts.tally g.K.PartialEq.eq c.args.path.now c.args.key c.args.stamp c.args.tick c.args.gain.now layered = search rules in
    let long : length c.self.inside.slots ≡ 32 = c.self.ranges.1.0.1.0.1 in
    let goes : StandsFor g.N.Counts.tally g.K.PartialEq.eq (names c.args.key part ∷ r) (referred g.N.Counts.tally g.K.PartialEq.eq c.args.path.now c.args.key c.args.stamp c.args.tick c.args.gain.now layered) =
    rw (← same_stamp, ← same_tick, ← same_gain) (stands-referred g.N.Counts.tally g.K.PartialEq.eq exact r layered c.args.path.now c.args.key part c.self.invariant.0 long
    (subst (λ (x : Layered g.row.K.Denot g.row.N.Denot g.row.N-Application.Denot). Agrees x.slots c.args.path.now part) (sym seen) agrees) on
    (subst (λ (x : Layered g.row.K.Denot g.row.N.Denot g.row.N-Application.Denot). AreTuned (protocols x.slots) r) (sym seen) tuned) rises.0 rises.1
    (subst (StandsFor g.N.Counts.tally g.K.PartialEq.eq r) (sym seen) stands)) in
    subst (StandsFor g.N.Counts.tally g.K.PartialEq.eq (names c.args.key part ∷ r)) (sym kept) goes

pub returns-clause-keys : goal.returns-clause-keys
returns-clause-keys g c =
    let layered : Layered g.row.K.Denot g.row.N.Denot g.row.N-Application.Denot = record { table = c.self.inside.rows; slots = c.self.inside.slots; network_inserts = c.self.inside.network_inserts; application_inserts = c.self.inside.application_inserts } in
    let seen : layered ≡ c.args.self.now = c.self.view_is in
    let same : keys_of c.gain-made.new.self.rows ≡ keys_of c.touch-touch.new.self.rows =
    ap (λ (x : Table g.row.K.Denot (NetworkRow g.row.N.Denot g.row.N-Application.Denot)). keys_of x.rows) c.gain-made.ensures.rows
    ∙ keys-credited g.K.PartialEq.eq (gained_value g.N.Counts.tally c.self.inside.slots c.args.path.now c.args.stamp c.args.tick) c.args.key c.args.gain.now c.touch-touch.new.self.rows in
    subst (λ (x : Layered g.row.K.Denot g.row.N.Denot g.row.N-Application.Denot). AreAfter g.K.PartialEq.eq c.args.key c.touch-touch.result (keys_of x.table.rows) (keys_of c.gain-made.new.self.rows)) seen
    (subst (λ ks. AreAfter g.K.PartialEq.eq c.args.key c.touch-touch.result (keys_of c.self.inside.rows.rows) ks) (sym same) c.touch-touch.ensures.keys)

pub returns-clause-few : goal.returns-clause-few
returns-clause-few g c =
    let few : length c.touch-touch.new.self.rows ≤ c.touch-touch.new.self.room = c.touch-touch.ensures.few in
    let same : length c.gain-made.new.self.rows ≡ length c.touch-touch.new.self.rows =
    ap (λ (x : Table g.row.K.Denot (NetworkRow g.row.N.Denot g.row.N-Application.Denot)). length x.rows) c.gain-made.ensures.rows
    ∙ length-credited g.K.PartialEq.eq (gained_value g.N.Counts.tally c.self.inside.slots c.args.path.now c.args.stamp c.args.tick) c.args.key c.args.gain.now c.touch-touch.new.self.rows in
    let room : c.gain-made.new.self.room ≡ c.touch-touch.new.self.room = ap (λ (x : Table g.row.K.Denot (NetworkRow g.row.N.Denot g.row.N-Application.Denot)). x.room) c.gain-made.ensures.rows in
    omega (arith, few, same, room)
