use Rattle.std.proofs.Common.{arith}
use Rattle.rm_pool.specs.Pools.{valid_in}
use Rattle.rm_status.proofs.RowFacts.{row_fits, none_between, none_above}
use Rattle.rm_pool.proofs.Follows.{none_begun, one_begun, all_begun, not_first}
use Rattle.rm_pool.proofs.pool.Pool.begin_each.Goals as goal

pub loop-index-init : goal.loop-index-init
loop-index-init g c = record {
  begun = none_begun (valid_in c.args.rows.now) (g.B.Begin.begun c.args.how.now) c.args.self.now (not_first g.C.ControlRow.form.table c.args.rows.now c.len.ensures.rows.1) c.requires.used;
  within = omega arith;
}

pub loop-index-preserved : goal.loop-index-preserved
loop-index-preserved g c = record {
  begun = one_begun (valid_in c.args.rows.now) (g.B.Begin.begun c.args.how.now) c.args.self.now c.loop-index.self c.begin_of.new.self c.loop-index.last c.in-Some.index c.loop-index.invariant.begun c.in-Some.ensures.least.0
      (none_between c.args.rows.now c.loop-index.last c.in-Some.index c.in-Some.ensures.least)
      c.begin_of.ensures.begun c.begin_of.ensures.stays c.begin_of.ensures.idle c.begin_of.ensures.others c.begin_of.ensures.size;
  within =
      let fits = (row_fits g.C.ControlRow.form.table c.args.rows.now c.in-Some.index c.in-Some.ensures.least.1.0 c.len.ensures.rows.1 c.in-Some.ensures.least.1.1).1 in
      omega (arith, fits);
}

pub returns : goal.returns
returns g c =
    all_begun (valid_in c.args.rows.now) (g.B.Begin.begun c.args.how.now) c.args.self.now c.loop-index.self c.loop-index.last c.loop-index.invariant.begun c.loop-index.invariant.within
    (none_above c.args.rows.now c.loop-index.last c.in_default.ensures.least)
