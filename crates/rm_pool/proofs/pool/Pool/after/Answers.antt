use Rattle.rm_pool.proofs.Least.{least_row}
use Rattle.rm_pool.proofs.pool.Pool.after.Goals as goal

pub returns : goal.returns
returns g c =
    let is = c.least_above.ensures in
    let all = c.all.ensures in
    let least = least_row c.args.row c.args.self.now in
    rw (is, all) least
