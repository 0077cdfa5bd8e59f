use Rattle.std.proofs.Common.{◌≡◌, ℕ, ◌+◌, ◌-◌, ◌<◌, ◌≤◌, min, take, length, Some, None, sym, ap, ◌∙◌, subst, arith}
use Rattle.std.proofs.lemmas.List.{take_all}
use Rattle.rm_evicting.proofs.Keys.{exact_key}
use Rattle.rm_rows.specs.Table.{key_at}
use Rattle.rm_upper.specs.Standing.{Layered}
use Rattle.rm_upper.specs.Count.{held_of, held_by_keys}
use Rattle.rm_upper.proofs.CountLemmas.{next_held, some_key, deletes-are}
use Rattle.rm_upper.proofs.network_rows.NetworkRows.application_deletes.Goals as goal
use Rattle.rm_upper.proofs.network_rows.NetworkRows.application_deletes.Goals.{in-Some, in_default}

capped : (m h n t : ℕ) → m ≡ min h 18446744073709551615 → t ≡ h + n → min (m + n) 18446744073709551615 ≡ min t 18446744073709551615
capped m h n t e f = omega arith

pub loop-place-preserved : goal.loop-place-preserved
loop-place-preserved g c =
    let layered : Layered g.row.K.Denot g.row.N.Denot g.row.N-Application.Denot = record { table = c.self.inside.rows; slots = c.self.inside.slots; network_inserts = c.self.inside.network_inserts; application_inserts = c.self.inside.application_inserts } in
    let seen : layered ≡ c.args.self.now = c.self.view_is in
    elim c.match-made.branch [
      | in-Some w ↦
          let found : Some w.in-Some.key.now ≡ key_at (c.loop-place.place + 1) c.self.inside.rows.rows = rw w.in-Some.is at c.made.ensures in
          let next = next_held g.K.PartialEq.eq c.args.self.now c.loop-place.place c.args.self.now.table.rows w.in-Some.key.now (sym (subst (λ (x : Layered g.row.K.Denot g.row.N.Denot g.row.N-Application.Denot). Some w.in-Some.key.now ≡ key_at (c.loop-place.place + 1) x.table.rows) seen found)) in
          w.held-is ∙ w.saturating_add-held.ensures ∙ ap (λ n. min (c.loop-place.held + n) 18446744073709551615) w.count_in.ensures
          ∙ capped c.loop-place.held (held_by_keys g.K.PartialEq.eq c.args.self.now (take c.loop-place.place c.args.self.now.table.rows)) (held_of g.K.PartialEq.eq c.args.self.now w.in-Some.key.now) (held_by_keys g.K.PartialEq.eq c.args.self.now (take (c.loop-place.place + 1) c.args.self.now.table.rows)) c.loop-place.invariant next
      | in_default w ↦
          let none : None ≡ key_at (c.loop-place.place + 1) c.self.inside.rows.rows = rw w.in_default.is at c.made.ensures in
          let below : c.loop-place.place < length c.self.inside.rows.rows = subst (λ n. c.loop-place.place < n) c.len-place-end.ensures.value c.loop-place-test.true in
          absurd (some_key g.K.PartialEq.eq layered c.loop-place.place c.self.inside.rows.rows below (sym none))
    ]

pub returns-clause-kept : goal.returns-clause-kept
returns-clause-kept g c =
    let layered : Layered g.row.K.Denot g.row.N.Denot g.row.N-Application.Denot = record { table = c.self.inside.rows; slots = c.self.inside.slots; network_inserts = c.self.inside.network_inserts; application_inserts = c.self.inside.application_inserts } in
    let seen : layered ≡ c.args.self.now = c.self.view_is in
    let reached : length c.args.self.now.table.rows ≤ c.loop-place.place = subst (λ (x : Layered g.row.K.Denot g.row.N.Denot g.row.N-Application.Denot). length x.table.rows ≤ c.loop-place.place) seen (subst (λ n. n ≤ c.loop-place.place) c.len-place-end.ensures.value c.loop-place-test.false) in
    let whole = take_all c.loop-place.place c.args.self.now.table.rows reached in
    let held : c.loop-place.held ≡ min (held_by_keys g.K.PartialEq.eq c.args.self.now c.args.self.now.table.rows) 18446744073709551615 = c.loop-place.invariant ∙ ap (λ rows. min (held_by_keys g.K.PartialEq.eq c.args.self.now rows) 18446744073709551615) whole in
    let same : c.args.self.now.application_inserts ≡ c.self.inside.application_inserts = ap (λ (x : Layered g.row.K.Denot g.row.N.Denot g.row.N-Application.Denot). x.application_inserts) (sym seen) in
    let is : c.saturating_sub.result ≡ c.self.inside.application_inserts - c.loop-place.held = c.saturating_sub.ensures in
    omega (arith, held, same, is)

pub returns-clause-stands : goal.returns-clause-stands
returns-clause-stands g c = λ r tuned stands.
    let kept : c.saturating_sub.result ≡ c.args.self.now.application_inserts - held_by_keys g.K.PartialEq.eq c.args.self.now c.args.self.now.table.rows = returns-clause-kept g c in
    kept ∙ deletes-are g.N.Counts.tally g.K.PartialEq.eq (exact_key g.K.PartialEq.eq g.K.Ord.cmp g.met.K.Eq.laws g.met.K.Ord.matches_eq g.met.K.Key.exact) c.args.self.now r tuned stands
