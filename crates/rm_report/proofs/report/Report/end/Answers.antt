use Rattle.std.proofs.Common.{◌≡◌, List, [], sym, ◌∙◌, ap, subst, filter, map, Option}
use Rattle.std.specs.Option.{option_copied}
use Rattle.std.specs.Borrow.{Bor}
use Rattle.rm_collect.specs.Rows.{IsKept}
use Rattle.rm_hosts.specs.Control.{host_control}
use Rattle.rm_hosts.specs.Tables.{HostTable, IsTable}
use Rattle.rm_rows.specs.Table.{keys_of}
use Rattle.rm_report.specs.declared.ranked.Ranked.{Ranked}
use Rattle.rm_report.specs.Kept.{Kept}
use Rattle.rm_report.specs.Copies.{AreRising}
use Rattle.rm_report.specs.Ranking.{AreFirst, gains_something, rated}
use Rattle.rm_report.specs.Rates.{rate_of}
use Rattle.rm_report.specs.RateBase.{count_of}
use Rattle.rm_report.proofs.Ending.{ended, ended_idle}
use Rattle.rm_report.proofs.report.Report.end.Goals as goal
use Rattle.rm_report.proofs.report.Report.end.Goals.{in-Some, in-None}

pub returns-clause-rows : goal.returns-clause-rows
returns-clause-rows c settings from journal row linked measured are kept =
    let base = c.args.base in
    let most = c.args.most in
    let same : c.self.inside.copies.items ≡ c.args.self.now.copies = ap (λ (k : Kept). k.copies) c.self.view_is in
    elim c.match-hosts.branch [
      | in-Some w ↦
          let table = w.in-Some.table.now in
          let its = subst (λ (o : Option (Bor HostTable)). IsKept host_control IsTable settings journal row (option_copied o)) w.in-Some.is kept in
          let copies : w.deref.result.now ≡ c.args.self.now.copies = w.deref.ensures.value ∙ same in
          let rising : AreRising w.deref.result.now = subst AreRising (sym copies) are.rising in
          let unsorted : w.rate_hosts.new.ranked.items ≡ filter gains_something (map (rated base c.args.self.now.copies table.rows.keyed.rows.rows) (keys_of table.rows.keyed.rows.rows)) =
          w.rate_hosts.ensures.rates rising ∙ (λ d. filter gains_something (map (rated base (copies d) (w.rows.ensures.value d).rows) (keys_of (w.rows.ensures.value d).rows))) in
          let first : AreFirst most w.rate_hosts.new.ranked.items c.rank.new.ranked.items =
          subst (λ (rs : List Ranked). AreFirst most rs c.rank.new.ranked.items) (λ d. (w.self-inside-is d).rows.items) c.rank.ensures.first in
          ended settings journal row table its.1 base from linked measured c.args.self.now.copies are most w.rate_hosts.new.ranked.items c.rank.new.ranked.items unsorted first
      | in-None w ↦
          let its = subst (λ (o : Option (Bor HostTable)). IsKept host_control IsTable settings journal row (option_copied o)) w.in-None.is kept in
          let first : AreFirst most [] c.rank.new.ranked.items =
          subst (λ (rs : List Ranked). AreFirst most rs c.rank.new.ranked.items) ((λ d. (w.self-inside-is d).rows.items) ∙ w.clear.ensures.items) c.rank.ensures.first in
          ended_idle settings journal row its (rate_of settings from journal row (count_of base)) most c.rank.new.ranked.items first
    ]
