use Rattle.std.proofs.Common.{rules, ◌∙◌, ap, arith}
use Rattle.std.specs.Prelude.{is_some}
use Rattle.rm_pool.proofs.RoomLemmas.{used_is}
use Rattle.rm_pool.proofs.pool.Pool.make_room.Goals as goal

pub give_back-requires : goal.give_back-requires
give_back-requires g c = (search rules, λ row. ap is_some (c.grow.ensures.parts row) ∙ c.requires.of_valid row)

pub returns-in_default-clause-ready : goal.returns-in_default-clause-ready
returns-in_default-clause-ready g c =
    let form = g.C.ControlRow.form in
    let used = used_is form.table form.set_to c.args.self.now c.args.rows.now c.requires.of_valid in
    omega (arith, used, c.len.ensures.used, c.in_default.ensures.none)

pub returns-in-Err-clause-denied : goal.returns-in-Err-clause-denied
returns-in-Err-clause-denied g c =
    let first = c.in-Some.ensures.some in
    record {
      place = first.0;
      within = first.1;
      numbered = first.2;
      activates_row = first.3;
      several = omega (arith, c.requires.stocked, c.in-Err.ensures.err, c.grow.ensures.more, c.count_after-count.ensures);
    }
