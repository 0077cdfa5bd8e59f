-- Replies that are being written.
use Rattle.std.specs.Prelude.{◌≡◌, ◌≤◌, ◌<◌, ℕ, Bool, List, [], ◌∷◌, ◌++◌, length}
use Rattle.rm_val.specs.Val.{val_of}
use Rattle.rm_model.specs.Counting.{Counting}
use Rattle.rm_model.specs.Journal.{Journal, last_moment}
use Rattle.rm_model.specs.Cells.{Cells}
use Rattle.rm_pdu.specs.Message.{Binding, Message}
use Rattle.rm_pdu.specs.Reading.{IsTold}
use Rattle.rm_pdu.specs.Draft.{Drafted, drafted, binding_of}
use Rattle.rm_reply.specs.declared.found.Found.{Found}
use Rattle.rm_reply.specs.declared.found.Lookup.{Lookup}
use Rattle.rm_reply.specs.declared.found.Lookup.TheVariants.{Exact, Above}
use Rattle.rm_reply.specs.declared.request.Request.{Request}
use Rattle.rm_reply.specs.Answered.{IsGetBinding, IsNextBinding, AreFirst, AreAnswers, are_end}
use Rattle.rm_reply.specs.Replies.{names_of, carrying, size_with}

-- what holds of the cells by each journal that a group stands for, at a moment that isn't below its last act's and at which the
-- group may be asked
abbrev pub OfCells : (Counting → Journal → Type 0) → (askable : ℕ → Type 0) → (Counting → Journal → ℕ → Cells) → ℕ → (Cells → Type 0) → Type 0
OfCells stands askable cells now Holds =
    (settings : Counting) (journal : Journal) → stands settings journal → last_moment journal ≤ now → askable now → Holds (cells settings journal now)

-- Each journal that groups stood for, whose last act isn't above a moment at which they may be asked, leads on to a journal that they
-- stand for, and something holds of both.
abbrev pub LeadsOn : (stood stand : Counting → Journal → Type 0) → (askable : Type 0) → (moment : ℕ) → (Counting → Journal → Journal → Type 0) → Type 0
LeadsOn stood stand askable moment Holds =
    (settings : Counting) (journal : Journal) → stood settings journal → last_moment journal ≤ moment → askable
    → (after : Journal) × stand settings after × Holds settings journal after

-- the binding that was found
abbrev pub binding_found : Found → Binding
binding_found found = binding_of found.name (val_of found.value)

-- the answer to a name: its variable's value, or the next variable
abbrev pub IsFound : Cells → (List ℕ → Bool) → Lookup → List ℕ → Binding → Type 0
IsFound cells objects Exact name binding = IsGetBinding cells objects name binding
IsFound cells objects Above name binding = IsNextBinding cells name binding

-- the message of a request, and the places of its bindings, are those of a message with a community that can be answered
pub record IsAsked (request : Request) (m : Message) : Type 0 where
  pub told : IsTold request.octets.now request.message request.bindings m
  pub short : length m.community ≤ 127

-- a draft is of the response that carries these bindings, and that fits
pub record IsDrafted (m : Message) (list : List Binding) (draft : Drafted) : Type 0 where
  pub is : draft ≡ drafted (carrying m list)
  pub short : size_with m list ≤ 1472

-- the answers to all names came behind the bindings of a draft
pub record Puts (IsOne : List ℕ → Binding → Type 0) (names : List (List ℕ)) (m : Message) (list : List Binding) (draft : Drafted) : Type 0 where
  pub answers : List Binding
  pub are : AreAnswers IsOne names answers
  pub is_drafted : IsDrafted m (list ++ answers) draft

-- the same, with the names of the answers, and whether they are wholly endOfMibView
pub record PutsNext (IsOne : List ℕ → Binding → Type 0) (names : List (List ℕ)) (m : Message) (list : List Binding) (next : List (List ℕ)) (is_end : Bool) (draft : Drafted) : Type 0 where
  pub puts : Puts IsOne names m list draft
  pub next_names : next ≡ names_of puts.answers
  pub end : is_end ≡ are_end puts.answers

-- the answers to the first names came behind the bindings of a draft, and one more would be too much
pub record Stops (IsOne : List ℕ → Binding → Type 0) (names : List (List ℕ)) (m : Message) (list : List Binding) (draft : Drafted) : Type 0 where
  pub answers : List Binding
  pub next : Binding
  pub first : AreFirst IsOne names (answers ++ next ∷ [])
  pub is_drafted : IsDrafted m (list ++ answers) draft
  pub long : 1472 < size_with m ((list ++ answers) ++ next ∷ [])

-- a draft is of a reply of which something holds
abbrev pub DraftsOne : (Message → Type 0) → Drafted → Type 0
DraftsOne Holds draft = (reply : Message) × Holds reply × (draft ≡ drafted reply)

-- bindings came behind those of a draft, of which it holds the most that it can
pub record PutsLongest (IsPart : List Binding → Type 0) (m : Message) (list : List Binding) (draft : Drafted) : Type 0 where
  pub added : List Binding
  pub part : IsPart added
  pub is_drafted : IsDrafted m (list ++ added) draft
  pub longest : (more : List Binding) → IsPart (added ++ more) → size_with m (list ++ (added ++ more)) ≤ 1472 → more ≡ []
