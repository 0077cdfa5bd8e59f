use Rattle.rm_status.proofs.RowLemmas.{set-state}
use Rattle.rm_status.proofs.controls.commit.set_state.Goals as goal

pub returns-in-Some : goal.returns-in-Some
returns-in-Some g c = set-state c.args.rows.now.items c.args.place c.in-Some.row.now c.args.state c.requires c.in-Some.ensures.value
