use Rattle.std.proofs.Common.{ℕ, refl, sym, subst}
use Rattle.std.specs.Option.{option_copied}
use Rattle.rm_report.specs.declared.rate_base.RateBase.{RateBase}
use Rattle.rm_report.specs.Copies.{AreCopies}
use Rattle.rm_topn.specs.Control.{rate_base}
use Rattle.rm_topn.proofs.Going.{begins}
use Rattle.rm_topn.proofs.Hosts.{kept_of}
use Rattle.rm_topn.proofs.course.Course.begin.Goals as goal

pub returns-clause-course : goal.returns-clause-course
returns-clause-course c settings journal row start plan at stand =
    let copies = c.begin.ensures.copies settings journal c.args.plan.host (kept_of settings journal c.args.plan.host (option_copied c.part.result) (c.part.ensures.kept settings journal stand)) in
    begins settings journal row _ _ start refl (sym at) plan refl c.begin.ensures.rows
    (subst (λ (host : ℕ). AreCopies settings journal host (rate_base journal row) c.begin.new.self.copies) plan.host
    (subst (λ (b : RateBase). AreCopies settings journal c.args.plan.host b c.begin.new.self.copies) plan.base copies))
