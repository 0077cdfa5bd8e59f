use Rattle.std.proofs.Common.{inr}
use Rattle.std.proofs.lemmas.Result.{IfErr-weaker}
use Rattle.rm_collectors.specs.Group.{CollectedReserves}
use Rattle.rm_collectors.proofs.group.CollectorsStores.prepare.Goals as goal

pub returns-then-is_err-3-clause-askable : goal.returns-then-is_err-3-clause-askable
returns-then-is_err-3-clause-askable g c moment asked = c.discard-then-is_err-3.ensures.askable moment (c.prepare_beside-reports.ensures.askable moment asked)

pub returns-else-is_err-3-clause-stands : goal.returns-else-is_err-3-clause-stands
returns-else-is_err-3-clause-stands g c settings journal stands = record {
  history = c.prepare.ensures.stands settings journal stands.history;
  matrix = c.prepare-matrix.ensures.stands settings journal stands.matrix;
  hosts = c.prepare-hosts.ensures.stands settings journal stands.hosts;
  reports = c.prepare_beside-reports.ensures.stands settings journal stands.reports;
}

pub returns-then-is_err-3-clause-stands : goal.returns-then-is_err-3-clause-stands
returns-then-is_err-3-clause-stands g c settings journal stands =
    c.discard-then-is_err-3.ensures.stands settings journal (record {
      history = c.prepare.ensures.stands settings journal stands.history;
      matrix = c.prepare-matrix.ensures.stands settings journal stands.matrix;
      hosts = c.prepare-hosts.ensures.stands settings journal stands.hosts;
      reports = c.prepare_beside-reports.ensures.stands settings journal stands.reports;
    })

pub returns-then-is_err-3-clause-denied : goal.returns-then-is_err-3-clause-denied
unfolding CollectedReserves
returns-then-is_err-3-clause-denied g c =
    IfErr-weaker c.prepare_beside-reports.result _ _ (λ denied reserves settings journal stands. inr (inr (inr (reserves settings journal stands.reports))))
    c.prepare_beside-reports.ensures.denied
