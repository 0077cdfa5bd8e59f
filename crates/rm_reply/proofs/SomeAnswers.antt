-- Names have answers.
use Rattle.std.proofs.Common.{ℕ, suc, Bool, List, [], ◌∷◌, ◌++◌, inl, inr, Option, Some, None, refl, ap}
use Rattle.rm_val.specs.Val.{Val, end_of_view}
use Rattle.rm_model.specs.Cells.{Cells, IsNext}
use Rattle.rm_pdu.specs.Message.{Binding}
use Rattle.rm_pdu.specs.Draft.{binding_of}
use Rattle.rm_reply.specs.declared.found.Lookup.{Lookup}
use Rattle.rm_reply.specs.declared.found.Lookup.TheVariants.{Exact, Above}
use Rattle.rm_reply.specs.Answered.{IsGetBinding, IsNextBinding, shown_value, AreFirst, AreAnswers}
use Rattle.rm_reply.specs.Drafting.{IsFound}

-- a name has an answer
abbrev pub HasSome : (List ℕ → Binding → Type 0) → Type 0
HasSome IsOne = (name : List ℕ) → (binding : Binding) × IsOne name binding

-- above each name there is a next variable, or none
abbrev pub FindsNext : Cells → Type 0
FindsNext cells = (asked : List ℕ) → (value : Option Val) × (found : List ℕ) × IsNext cells asked value found

pub get_some : (cells : Cells) (objects : List ℕ → Bool) → HasSome (IsGetBinding cells objects)
get_some cells objects name = (binding_of name (shown_value (cells name) (objects name)), refl)

pub next_some : (cells : Cells) → FindsNext cells → HasSome (IsNextBinding cells)
next_some cells finds asked = let (value, found, is) = finds asked in of_next value found is
  where
    of_next : (value : Option Val) (found : List ℕ) → IsNext cells asked value found → (binding : Binding) × IsNextBinding cells asked binding
    of_next (Some value) found is = (binding_of found value, inl is)
    of_next None found none = (binding_of asked end_of_view, inr (none, refl))

-- however it is looked up
pub found_some : (cells : Cells) (objects : List ℕ → Bool) → FindsNext cells → (lookup : Lookup) → HasSome (IsFound cells objects lookup)
found_some cells objects finds Exact = get_some cells objects
found_some cells objects finds Above = next_some cells finds

pub all_answers : (IsOne : List ℕ → Binding → Type 0) → HasSome IsOne → (names : List (List ℕ)) → (answers : List Binding) × AreAnswers IsOne names answers
all_answers IsOne some [] = ([], record { first = tt; all = refl })
all_answers IsOne some (name ∷ names) =
    let (binding, one) = some name in
    let (answers, are) = all_answers IsOne some names in
    (binding ∷ answers, record { first = (one, are.first); all = ap suc are.all })

-- behind the answers to the first names there may stand those to the others
pub answers_behind : (IsOne : List ℕ → Binding → Type 0) → HasSome IsOne → (names : List (List ℕ)) (first : List Binding) → AreFirst IsOne names first
    → (more : List Binding) × AreAnswers IsOne names (first ++ more)
answers_behind IsOne some names [] are = all_answers IsOne some names
answers_behind IsOne some [] (binding ∷ first) are = absurd are
answers_behind IsOne some (name ∷ names) (binding ∷ first) are =
    let (more, behind) = answers_behind IsOne some names first are.1 in
    (more, record { first = (are.0, behind.first); all = ap suc behind.all })
