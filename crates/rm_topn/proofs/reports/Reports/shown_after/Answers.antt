use Rattle.std.proofs.Common.{◌≡◌, true, refl}
use Rattle.std.specs.Ordering.{nat_cmp, is_lt}
use Rattle.std.specs.Cmp.Lexicographic.{slice_cmp}
use Rattle.rm_val.specs.Val.{val_of}
use Rattle.rm_model.specs.Cells.{cells_of}
use Rattle.rm_group.proofs.Leasts.{is_below, found_first, table_from}
use Rattle.rm_pool.proofs.Numbered.{numbered}
use Rattle.rm_topn.specs.Control.{top_control}
use Rattle.rm_topn.specs.HostTop.{report_entry}
use Rattle.rm_topn.specs.Shown.{control_kept, report_kept}
use Rattle.rm_topn.proofs.reports.Reports.shown_after.Goals as goal

pub returns-then-is_under-clause-next : goal.returns-then-is_under-clause-next
returns-then-is_under-clause-next c =
    let reports = c.args.self.now in
    let control = cells_of (control_kept reports.rows reports.courses c.args.now) in
    let hosts = report_kept reports.courses c.args.now in
    let found = c.control_after-control.new.out in
    let less : is_lt (slice_cmp nat_cmp found report_entry) ≡ true = rw (← c.is_under.ensures) c.if-is_under.true in
    found_first val_of control (cells_of hosts) c.args.name.now found report_entry c.control_after-control.result c.if-is_some.ensures c.control_after-control.ensures.next (is_below found report_entry less) (table_from hosts)

pub next_inner_cell-host-requires : goal.next_inner_cell-host-requires
next_inner_cell-host-requires c κs = rw c.inner.ensures ((refl, tt), numbered top_control refl c.args.self.now.courses c.args.self.now.rows c.len.ensures.rows c.args.self.now.of_valid)

pub returns-clause-next : goal.returns-clause-next
returns-clause-next c =
    let reports = c.args.self.now in
    let control = cells_of (control_kept reports.rows reports.courses c.args.now) in
    let hosts = cells_of (report_kept reports.courses c.args.now) in
    let next = rw c.inner.ensures at c.next_inner_cell-host.ensures.next in
    c.choose_nearer.ensures.next control hosts c.args.name.now c.control_after-control.ensures.next next
