use Rattle.std.proofs.Common.{nat_eq, ◌∙◌, ap, length}
use Rattle.rm_status.proofs.Places.{place_of_some, place_of_none}
use Rattle.rm_status.proofs.controls.Controls.place.Goals as goal

pub returns-in-Some : goal.returns-in-Some
returns-in-Some g c = place_of_some (λ r. nat_eq r.index c.args.index) c.args.self.now c.in-Some.place c.in-Some.ensures

pub returns-in-None : goal.returns-in-None
returns-in-None g c =
    c.len.ensures.value ∙ ap length c.self.view_is ∙ place_of_none (λ r. nat_eq r.index c.args.index) c.args.self.now c.in-None.ensures
