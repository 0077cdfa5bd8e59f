-- What a firing more makes of a channel, in an act that is under way.
use Rattle.std.proofs.Common.{◌≡◌, ℕ, List, [], ◌∷◌, ◌++◌, refl}
use Rattle.rm_model.specs.Journal.{Act, Journal}
use Rattle.rm_acts.specs.declared.firing.Firing.{Firing}
use Rattle.rm_acts.specs.Fired.{Turned, Fired, turned_by, present}

turned_more : (turned : Turned) (journal : Journal) (channel : ℕ) (some : List Firing) (firing : Firing) (value : ℕ)
    → turned_by turned journal channel (some ++ firing ∷ []) value ≡ turned.by journal channel firing (turned_by turned journal channel some value)
turned_more turned journal channel [] firing value = refl
turned_more turned journal channel (first ∷ some) firing value = turned_more turned journal channel some firing (turned.by journal channel first value)

-- after one more, it is what that firing makes of it
pub present_more : (turned : Turned) (act : Act) (earlier : Journal) (some : List Firing) (before : Fired) (firing : Firing) (channel : ℕ)
    → present turned (act ∷ earlier) ((some ++ firing ∷ []) ∷ before) channel ≡ turned.by earlier channel firing (present turned (act ∷ earlier) (some ∷ before) channel)
present_more turned act earlier some before firing channel = turned_more turned earlier channel some firing _
