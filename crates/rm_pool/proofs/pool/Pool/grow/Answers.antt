use Rattle.std.proofs.Common.{◌+◌, arith, ◌≡◌, ◌∙◌, ap, [], ◌∷◌, ◌++◌, length}
use Rattle.rm_pool.specs.Slots.{spare, part_in}
use Rattle.rm_pool.proofs.Spares.{spare_more, length_more}
use Rattle.rm_pool.proofs.pool.Pool.grow.Goals as goal

pub loop-alloc-preserved : goal.loop-alloc-preserved
loop-alloc-preserved g c =
    let part = c.in_ok-part.part in
    let added : c.add.new.self ≡ c.loop-alloc.self ++ spare part ∷ [] = c.in_ok-add.ensures in
    let one : length c.add.new.self ≡ length c.loop-alloc.self + 1 = ap length added ∙ length_more c.loop-alloc.self (spare part) in
    record {
      parts = λ row. ap (λ l. part_in l row) added ∙ spare_more c.loop-alloc.self part row ∙ c.loop-alloc.invariant.parts row;
      no_more = omega (arith, one, c.loop-alloc-test.true, c.len.ensures.value);
      more = omega (arith, one, c.loop-alloc.invariant.more);
    }
