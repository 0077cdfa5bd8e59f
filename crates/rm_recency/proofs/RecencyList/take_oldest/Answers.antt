use Rattle.std.proofs.Common.{[], ◌∙◌, sym, subst}
use Rattle.rm_recency.specs.Threads.{Threaded}
use Rattle.rm_recency.proofs.ThreadLemmas.{last_read}
use Rattle.rm_recency.proofs.RowLemmas.{last_in}
use Rattle.rm_recency.proofs.RecencyList.take_oldest.Goals as goal

pub unlink-requires : goal.unlink-requires
unlink-requires g c =
    let ps = c.requires.0 in
    let on = last_in ps c.in-Some.ptr (sym (last_read c.args.self.now ps c.requires.1 c.oldest.result c.oldest.ensures) ∙ c.in-Some.is) in
    (on.0, [], subst (Threaded c.args.self.now) on.1 c.requires.1)
