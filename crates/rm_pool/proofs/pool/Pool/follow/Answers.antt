use Rattle.std.proofs.Common.{◌^◌, rules, ℕ, ◌≤◌, length, sym, subst}
use Rattle.rm_model.specs.Judgement.{count_below}
use Rattle.rm_status.proofs.RowsBefore.{valid_before}
use Rattle.rm_pool.specs.Pools.{valid_in}
use Rattle.rm_pool.proofs.Follows.{freed_valid, follow_valid, follow_stays, follow_begun}
use Rattle.rm_pool.proofs.pool.Pool.follow.Goals as goal

pub begin_each-requires : goal.begin_each-requires
begin_each-requires g c = (
  search rules,
  (
    freed_valid g.C.ControlRow.form.table c.args.rows.now c.len.ensures.rows.1 (g.B.Begin.begun c.args.how.now) c.args.self.now c.release.new.self c.release.new.self c.release.ensures.parts,
    subst (λ (n : ℕ). count_below (valid_in c.args.rows.now) (2 ^ 32) ≤ n) (sym c.release.ensures.size)
        (subst (λ (n : ℕ). n ≤ length c.args.self.now) (valid_before g.C.ControlRow.form.table g.C.ControlRow.form.set_to c.args.rows.now) c.requires),
  ),
)

pub returns-clause-of_valid : goal.returns-clause-of_valid
returns-clause-of_valid g c =
    follow_valid g.C.ControlRow.form.table c.args.rows.now c.len.ensures.rows.1 (g.B.Begin.begun c.args.how.now) c.args.self.now c.release.new.self c.begin_each.new.self c.release.ensures.parts c.begin_each.ensures

pub returns-clause-stays : goal.returns-clause-stays
returns-clause-stays g c =
    follow_stays g.C.ControlRow.form.table c.args.rows.now c.len.ensures.rows.1 (g.B.Begin.begun c.args.how.now) c.args.self.now c.release.new.self c.begin_each.new.self c.release.ensures.parts c.begin_each.ensures

pub returns-clause-begun : goal.returns-clause-begun
returns-clause-begun g c =
    follow_begun g.C.ControlRow.form.table c.args.rows.now c.len.ensures.rows.1 (g.B.Begin.begun c.args.how.now) c.args.self.now c.release.new.self c.begin_each.new.self c.release.ensures.parts c.begin_each.ensures
