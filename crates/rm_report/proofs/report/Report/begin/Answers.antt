use Rattle.std.proofs.Common.{◌≡◌, List, sym, ◌∙◌, subst, map, Option}
use Rattle.std.specs.Option.{option_copied}
use Rattle.std.specs.Borrow.{Bor}
use Rattle.rm_collect.specs.Rows.{IsKept}
use Rattle.rm_hosts.specs.Control.{host_control}
use Rattle.rm_hosts.specs.Tables.{HostTable, IsTable}
use Rattle.rm_rows.specs.Table.{keys_of}
use Rattle.rm_report.specs.declared.copied.Copied.{Copied}
use Rattle.rm_report.specs.Copies.{AreCopies, copy_in}
use Rattle.rm_report.proofs.Ending.{are_copies, no_copies}
use Rattle.rm_report.proofs.report.Report.begin.Goals as goal

pub returns-in-Some-clause-copies : goal.returns-in-Some-clause-copies
returns-in-Some-clause-copies c settings journal row kept =
    let table = c.in-Some.table.now in
    let base = c.args.base in
    let its = subst (λ (o : Option (Bor HostTable)). IsKept host_control IsTable settings journal row (option_copied o)) c.in-Some.is kept in
    let copies : c.copy_hosts.new.copies.items ≡ map (copy_in base table.rows.keyed.rows.rows) (keys_of table.rows.keyed.rows.rows) =
    c.copy_hosts.ensures.copies ∙ (λ d. map (copy_in base (c.rows.ensures.value d).rows) (keys_of (c.rows.ensures.value d).rows)) in
    subst (λ (cs : List Copied). AreCopies settings journal row base cs) (sym copies) (are_copies settings journal row table its.1 base)

pub returns-in-None-clause-copies : goal.returns-in-None-clause-copies
returns-in-None-clause-copies c settings journal row kept =
    let its = subst (λ (o : Option (Bor HostTable)). IsKept host_control IsTable settings journal row (option_copied o)) c.in-None.is kept in
    subst (λ (cs : List Copied). AreCopies settings journal row c.args.base cs) (sym c.clear-in-None.ensures.items) (no_copies settings journal row its c.args.base)
