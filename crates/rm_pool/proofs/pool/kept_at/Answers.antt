use Rattle.std.proofs.Common.{◌≡◌, Some, sym}
use Rattle.rm_pool.proofs.pool.kept_at.Goals as goal

pub returns : goal.returns
returns g c =
    let is : c.args.slots.now ≡ Some c.in_ok-slots.slots.now = sym c.in_ok-slots.ensures.value in
    (simp is, record { writes_back = tt; value = rw is c.part_at.ensures.value; none = rw is c.part_at.ensures.none })
