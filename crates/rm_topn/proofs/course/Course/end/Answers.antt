use Rattle.std.proofs.Common.{ℕ, refl, sym, subst}
use Rattle.std.specs.Option.{option_copied}
use Rattle.rm_report.specs.declared.rate_base.RateBase.{RateBase}
use Rattle.rm_report.specs.Copies.{AreCopies}
use Rattle.rm_report.specs.Linked.{IsLinked}
use Rattle.rm_report.specs.Ranking.{IsReport}
use Rattle.rm_report.specs.RateBase.{count_of}
use Rattle.rm_report.specs.Rates.{hosts_held, rate_of}
use Rattle.rm_topn.specs.Control.{host_row, rate_base}
use Rattle.rm_topn.proofs.Going.{report_ends}
use Rattle.rm_topn.proofs.Hosts.{kept_of}
use Rattle.rm_topn.proofs.course.Course.end.Goals as goal

pub returns-clause-course : goal.returns-clause-course
returns-clause-course c settings journal row in_time measured stand is =
    let run = c.args.run.now in
    let asked = run.plan in
    let kept = kept_of settings journal asked.host (option_copied c.part.result) (c.part.ensures.kept settings journal stand) in
    let old = c.args.self.now in
    report_ends settings journal row old _ run c.requires.it c.requires.runs in_time refl
    (λ from plan copies linked.
    let own : AreCopies settings from asked.host asked.base old.report.copies =
    subst (λ (b : RateBase). AreCopies settings from asked.host b old.report.copies) (sym plan.base) (subst (λ (h : ℕ). AreCopies settings from h (rate_base from row) old.report.copies) (sym plan.host) copies) in
    let reported = c.end.ensures.rows settings from journal asked.host (subst (λ (h : ℕ). IsLinked from journal h) (sym plan.host) linked) measured own kept in
    subst (λ (n : ℕ). IsReport (rate_of settings from journal (host_row from row) (count_of (rate_base from row))) (hosts_held settings journal (host_row from row)) n c.end.new.self.rows) plan.most
    (subst (λ (b : RateBase). IsReport (rate_of settings from journal (host_row from row) (count_of b)) (hosts_held settings journal (host_row from row)) asked.most c.end.new.self.rows) plan.base
    (subst (λ (h : ℕ). IsReport (rate_of settings from journal h (count_of asked.base)) (hosts_held settings journal h) asked.most c.end.new.self.rows) plan.host reported))) is
