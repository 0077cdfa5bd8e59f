-- What is answered to a name.
use Rattle.std.specs.Prelude.{◌≡◌, ◌⊎◌, ℕ, List, [], ◌∷◌, Bool, true, false, if◌then◌else◌, Option, Some, None, length}
use Rattle.std.specs.List.{list_all}
use Rattle.rm_val.specs.Val.{Val, no_object, no_instance, end_of_view}
use Rattle.rm_model.specs.Names.{IsLeastAbove}
use Rattle.rm_model.specs.Cells.{Cells, has_cell, IsNext}
use Rattle.rm_pdu.specs.Message.{Binding}
use Rattle.rm_pdu.specs.Draft.{binding_of}

-- The value answered to a Get of a name: that of its variable, else noSuchInstance where the name begins with the
-- identifier of an object that is answered, else noSuchObject (RFC 1905, section 4.2.1).
abbrev pub shown_value : Option Val → Bool → Val
shown_value (Some value) is_object = value
shown_value None is_object = if is_object then no_instance else no_object

-- the binding answered to a Get of a name
abbrev pub IsGetBinding : Cells → (List ℕ → Bool) → List ℕ → Binding → Type 0
IsGetBinding cells objects name binding = binding ≡ binding_of name (shown_value (cells name) (objects name))

-- The binding answered to a GetNext of a name: the variable with the least greater name, and where there is none the
-- asked name with endOfMibView (RFC 1905, section 4.2.2).
abbrev pub IsNextBinding : Cells → List ℕ → Binding → Type 0
IsNextBinding cells asked binding =
    IsNext cells asked (Some binding.value) binding.name
    ⊎ (IsLeastAbove (has_cell cells) asked None × (binding ≡ binding_of asked end_of_view))

-- each binding is the answer to one of the first names, in their order
abbrev pub AreFirst : (List ℕ → Binding → Type 0) → List (List ℕ) → List Binding → Type 0
AreFirst IsOne names [] = Unit {0}
AreFirst IsOne [] (binding ∷ more) = ⊥
AreFirst IsOne (name ∷ names) (binding ∷ more) = IsOne name binding × AreFirst IsOne names more

-- each binding is the answer to one of the names, and there is one for each
pub record AreAnswers (IsOne : List ℕ → Binding → Type 0) (names : List (List ℕ)) (bindings : List Binding) : Type 0 where
  pub first : AreFirst IsOne names bindings
  pub all : length bindings ≡ length names

-- whether a value is endOfMibView
abbrev pub is_end : Val → Bool
is_end end_of_view = true
is_end other = false

-- whether bindings are wholly endOfMibView
abbrev pub are_end : List Binding → Bool
are_end bindings = list_all (λ (binding : Binding). is_end binding.value) bindings
