use Rattle.std.proofs.Common.{◌≡◌, Bool, true, false, ◌&&◌, refl, sym}
use Rattle.std.proofs.lemmas.Bool.{true≢false}
use Rattle.rm_layers.proofs.Ticks.{created_at_entry}
use Rattle.rm_layers.proofs.created.Goals as goal

left : (a b : Bool) → (a && b) ≡ true → a ≡ true
left true b e = refl
left false b e = absurd (true≢false (sym e))

pub returns : goal.returns
returns g c = λ cap h r held. created_at_entry g.K.PartialEq.eq cap h r (left _ _ held)
