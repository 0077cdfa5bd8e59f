use Rattle.std.proofs.Common.{length, [], ◌∷◌}
use Rattle.rm_model.specs.Cells.{is_of_column}
use Rattle.rm_model.specs.Judgement.{first_pass}
use Rattle.rm_group.specs.Alone.{alone_at, read_only}
use Rattle.rm_dir.specs.ProtocolDir.{protocol_dir, change_entry}
use Rattle.rm_dir.proofs.directory.Directory.judge_bindings.Goals as goal

pub returns : goal.returns
returns g c =
    let bs = g.A.Assigns.bindings c.args.set.now in
    let scalars = rw (c.change_entry.ensures) at c.judge_read_only-scalars.ensures in
    c.lower_verdict.ensures.lowest (length bs) (first_pass protocol_dir bs) (alone_at (read_only (is_of_column change_entry (1 ∷ []))) bs) c.judge_alone-rows.ensures scalars
