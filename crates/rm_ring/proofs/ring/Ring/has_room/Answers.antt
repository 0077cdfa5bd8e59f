use Rattle.std.proofs.Common.{◌≡◌, ◌+◌, sym, ap, ◌∙◌, arith}
use Rattle.rm_ring.specs.Kept.{cost_of}
use Rattle.rm_ring.specs.Laid.{cost_at}
use Rattle.rm_ring.proofs.LaidLemmas.{packets_cost}
use Rattle.rm_ring.proofs.CostLemmas.{room_test}
use Rattle.rm_ring.proofs.ring.Ring.has_room.Goals as goal

pub overflow_add-result : goal.overflow_add-result
overflow_add-result g c = omega (arith, ap (λ k. k.slice) c.self.view_is, c.requires, c.self.invariant.one, c.self.invariant.storage, c.self.invariant.near)

pub returns : goal.returns
returns g c =
    let spent : cost_of c.args.self.now.packets ≡ cost_at c.self.inside.places.items =
    ap (λ k. cost_of k.packets) (sym c.self.view_is) ∙ packets_cost _ _ _ _ c.self.inside.octets.items c.self.invariant.laid (sym c.self.inside.octets.ok.0) in
    let granted : c.self.inside.granted ≡ c.args.self.now.granted = ap (λ k. k.granted) c.self.view_is in
    record {
      answer = room_test c.self.inside.left (cost_of c.args.self.now.packets) c.args.self.now.granted (c.args.size + 32) (omega (arith, spent, granted, c.self.invariant.spent));
      within = omega (arith, spent, granted, c.self.invariant.spent);
      one = omega (arith, granted, ap (λ k. k.slice) c.self.view_is, c.self.invariant.one);
    }
