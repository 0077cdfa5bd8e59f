use Rattle.std.proofs.Common.{nat_lt, ◌∙◌, ap, length}
use Rattle.rm_status.proofs.Places.{place_of_none}
use Rattle.rm_status.proofs.controls.Controls.place_above.Goals as goal

pub returns-in-None : goal.returns-in-None
returns-in-None g c =
    c.len.ensures.value ∙ ap length c.self.view_is ∙ place_of_none (λ r. nat_lt c.args.index r.index) c.args.self.now c.in-None.ensures
