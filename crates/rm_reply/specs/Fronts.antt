-- Fronts of answers and of repetitions, as they are put one behind another.
use Rattle.std.specs.Prelude.{◌≡◌, ℕ, zero, suc, true, false, List, [], ◌∷◌}
use Rattle.rm_pdu.specs.Message.{Binding}
use Rattle.rm_reply.specs.Answered.{are_end}
use Rattle.rm_reply.specs.Replies.{names_of}

-- A front of a list of bindings that is the answers to names, and behind these what may follow them.
abbrev pub IsFront : (List ℕ → Binding → Type 0) → List (List ℕ) → (List Binding → List Binding → Type 0) → List Binding → Type 0
IsFront IsOne [] Follows list = Follows [] list
IsFront IsOne (name ∷ names) Follows [] = Unit {0}
IsFront IsOne (name ∷ names) Follows (binding ∷ list) =
    IsOne name binding × IsFront IsOne names (λ answers rest. Follows (binding ∷ answers) rest) list

-- A front of at most so many repetitions: each has the answers to the names of the one before, the first one to these
-- names, and none follows one that is wholly endOfMibView.
abbrev pub AreRepetitions : (List ℕ → Binding → Type 0) → ℕ → List (List ℕ) → List Binding → Type 0
AreRepetitions IsOne zero names list = list ≡ []
AreRepetitions IsOne (suc more) names list = IsFront IsOne names
    (λ answers rest. (are_end answers ≡ true → rest ≡ []) × (are_end answers ≡ false → AreRepetitions IsOne more (names_of answers) rest)) list
