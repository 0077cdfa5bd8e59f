use Rattle.std.proofs.Common.{arith}
use Rattle.rm_pool.proofs.RoomLemmas.{used_is}
use Rattle.rm_pool.proofs.pool.Pool.give_back.Goals as goal

pub trim-requires : goal.trim-requires
trim-requires g c =
    let form = g.C.ControlRow.form in
    let used = used_is form.table form.set_to c.args.self.now c.args.rows.now c.requires in
    omega (arith, used, c.max.ensures, c.count_valid-count.ensures.value)
