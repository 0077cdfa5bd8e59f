use Rattle.std.proofs.Common.{refl}
use Rattle.rm_pool.proofs.Numbered.{numbered}
use Rattle.rm_topn.specs.Control.{top_control}
use Rattle.rm_topn.proofs.reports.Reports.shown_at.Goals as goal

pub inner_cell-requires : goal.inner_cell-requires
inner_cell-requires c κs = rw c.inner.ensures ((refl, tt), numbered top_control refl c.args.self.now.courses c.args.self.now.rows c.len.ensures.rows c.args.self.now.of_valid)
