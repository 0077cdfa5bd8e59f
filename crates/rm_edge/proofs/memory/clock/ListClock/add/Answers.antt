use Rattle.std.proofs.Common.{◌≡◌, ◌≤◌, [], ◌∷◌, ◌++◌, refl, rules}
use Rattle.rm_edge.proofs.Moments.{told_first-added}
use Rattle.rm_edge.proofs.memory.clock.ListClock.add.Goals as goal

pub returns-clause-told : goal.returns-clause-told
returns-clause-told c =
    let items : c.push.new.self.items ≡ c.self.inside.moments.items ++ record { moment = c.args.moment; after = c.max-after.result } ∷ [] = search rules in
    let le : c.self.inside.calls ≤ c.max-after.result = search rules in
    rw (← c.self.view_is, items, told_first-added c.self.inside.moments.items (record { moment = c.args.moment; after = c.max-after.result }) c.self.inside.calls le) refl
