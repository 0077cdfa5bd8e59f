-- How the answers to a list of names come into a draft.
use Rattle.std.proofs.Common.{◌≡◌, ◌+◌, ◌≤◌, ◌<◌, ℕ, zero, suc, Bool, true, false, List, [], ◌∷◌, ◌++◌, length, drop, Some, refl, sym, ap, subst, ◌∙◌, ⊎_elim, arith, append_assoc}
use Rattle.std.specs.Prelude.{slice_get, slice_set, Result, Ok, Err, IsErr, ◌&&◌, MatchResult}
use Rattle.std.proofs.lemmas.Bool.Decides.{leb_tells}
use Rattle.std.proofs.lemmas.List.{length-append, length-map, map-append, append-nil, drop_all}
use Rattle.std.proofs.lemmas.List.Folds.{list_all-append}
use Rattle.rm_pdu.specs.Message.{Binding, Message, message_octets}
use Rattle.rm_pdu.specs.Draft.{Drafted, drafted, and_binding}
use Rattle.rm_reply.specs.Answered.{AreFirst, is_end, are_end}
use Rattle.rm_reply.specs.Replies.{names_of, carrying}
use Rattle.rm_reply.specs.Drafting.{IsDrafted, Puts, PutsNext, Stops}
use Rattle.rm_reply.proofs.NameLemmas.{slice_get-drop}

-- the answers to the first names came into the draft
pub record IsSoFar (IsOne : List ℕ → Binding → Type 0) (names : List (List ℕ)) (m : Message) (list : List Binding) (place : ℕ) (draft : Drafted) : Type 0 where
  pub answers : List Binding
  pub first : AreFirst IsOne names answers
  pub count : length answers ≡ place
  pub is_drafted : IsDrafted m (list ++ answers) draft

-- none came yet
abbrev pub none_yet : (IsOne : List ℕ → Binding → Type 0) (names : List (List ℕ)) (m : Message) (list : List Binding) (draft : Drafted) → IsDrafted m list draft → IsSoFar IsOne names m list 0 draft
none_yet IsOne names m list draft drafted_so = record {
  answers = [];
  first = tt;
  count = refl;
  is_drafted = subst (λ (bs : List Binding). IsDrafted m bs draft) (sym (append-nil list)) drafted_so;
}

first_more : (IsOne : List ℕ → Binding → Type 0) (names : List (List ℕ)) (answers : List Binding) (name : List ℕ) (b : Binding) → AreFirst IsOne names answers
    → slice_get names (length answers) ≡ Some name → IsOne name b → AreFirst IsOne names (answers ++ b ∷ [])
first_more IsOne [] answers name b first at one = absurd cc
first_more IsOne (n ∷ names) [] name b first at one = let e : name ≡ n = cc in (subst (λ (x : List ℕ). IsOne x b) e one, tt)
first_more IsOne (n ∷ names) (a ∷ answers) name b first at one = (first.0, first_more IsOne names answers name b first.1 at one)

pub first_at : (IsOne : List ℕ → Binding → Type 0) (names : List (List ℕ)) (answers : List Binding) (place : ℕ) (name : List ℕ) (b : Binding) → AreFirst IsOne names answers
    → length answers ≡ place → slice_get names place ≡ Some name → IsOne name b → AreFirst IsOne names (answers ++ b ∷ [])
first_at IsOne names answers place name b first count at one = first_more IsOne names answers name b first (ap (slice_get names) count ∙ at) one

-- one answer more
abbrev pub answers_more : (IsOne : List ℕ → Binding → Type 0) (names : List (List ℕ)) (m : Message) (list : List Binding) (place : ℕ) (draft new : Drafted) (name : List ℕ) (b : Binding)
    → (so_far : IsSoFar IsOne names m list place draft) → slice_get names place ≡ Some name → IsOne name b → new ≡ drafted (and_binding (carrying m (list ++ so_far.answers)) b.name b.value)
    → length (message_octets (and_binding (carrying m (list ++ so_far.answers)) b.name b.value)) ≤ 1472 → IsSoFar IsOne names m list (place + 1) new
answers_more IsOne names m list place draft new name b so_far at one is short =
    let answers = so_far.answers in
    let whole : (list ++ answers) ++ b ∷ [] ≡ list ++ (answers ++ b ∷ []) = append_assoc list answers (b ∷ []) in
    record {
      answers = answers ++ b ∷ [];
      first = first_at IsOne names answers place name b so_far.first so_far.count at one;
      count = omega (arith, so_far.count, length-append answers (b ∷ []));
      is_drafted = subst (λ (bs : List Binding). IsDrafted m bs new) whole (record { is = is; short = short });
    }

-- one answer more would be too much
pub answers_stop : (IsOne : List ℕ → Binding → Type 0) (names : List (List ℕ)) (m : Message) (list : List Binding) (place : ℕ) (draft new : Drafted) (name : List ℕ) (b : Binding)
    → (so_far : IsSoFar IsOne names m list place draft) → slice_get names place ≡ Some name → IsOne name b → new ≡ draft
    → 1472 < length (message_octets (and_binding (carrying m (list ++ so_far.answers)) b.name b.value)) → Stops IsOne names m list new
answers_stop IsOne names m list place draft new name b so_far at one same long = record {
  answers = so_far.answers;
  next = b;
  first = first_at IsOne names so_far.answers place name b so_far.first so_far.count at one;
  is_drafted = record { is = same ∙ so_far.is_drafted.is; short = so_far.is_drafted.short };
  long = long;
}

-- all answers came
abbrev pub answers_all : (IsOne : List ℕ → Binding → Type 0) (names : List (List ℕ)) (m : Message) (list : List Binding) (place : ℕ) (draft : Drafted) → IsSoFar IsOne names m list place draft → place ≡ length names
    → Puts IsOne names m list draft
answers_all IsOne names m list place draft so_far all = record {
  answers = so_far.answers;
  are = record { first = so_far.first; all = so_far.count ∙ all };
  is_drafted = so_far.is_drafted;
}

-- the names of the first answers came in the place of those that were asked for, and so far they are wholly endOfMibView or not
pub record AreReplaced (names : List (List ℕ)) (place : ℕ) (answers : List Binding) (now : List (List ℕ)) (ended : Bool) : Type 0 where
  pub names_now : now ≡ names_of answers ++ drop place names
  pub ended_is : ended ≡ are_end answers

get_behind : {X : Type 0} (front rest : List X) → slice_get (front ++ rest) (length front) ≡ slice_get rest 0
get_behind [] rest = refl
get_behind (x ∷ front) rest = get_behind front rest

set_behind : {X : Type 0} (front : List X) (y : X) (rest : List X) (x : X) → slice_set (front ++ y ∷ rest) (length front) x ≡ (front ++ x ∷ []) ++ rest
set_behind [] y rest x = refl
set_behind (z ∷ front) y rest x = ap (λ l. z ∷ l) (set_behind front y rest x)

drop_at : {X : Type 0} (l : List X) (place : ℕ) (x : X) → slice_get l place ≡ Some x → drop place l ≡ x ∷ drop (suc place) l
drop_at [] place x at = absurd cc
drop_at (y ∷ l) zero x at = let e : y ≡ x = cc in ap (λ z. z ∷ l) e
drop_at (y ∷ l) (suc place) x at = drop_at l place x at

-- the name at the place is still the one that was asked for
pub asked_still : (names : List (List ℕ)) (place : ℕ) (answers : List Binding) (now : List (List ℕ)) (ended : Bool) (name : List ℕ) → AreReplaced names place answers now ended → length answers ≡ place
    → slice_get now place ≡ Some name → slice_get names place ≡ Some name
asked_still names place answers now ended name replaced count at =
    let front = names_of answers in
    let long : length front ≡ place = length-map answers (λ (x : Binding). x.name) ∙ count in
    sym (slice_get-drop names place 0 ∙ ap (slice_get names) (omega arith)) ∙ sym (get_behind front (drop place names)) ∙ ap (slice_get (front ++ drop place names)) long ∙ ap (λ (ns : List (List ℕ)). slice_get ns place) (sym replaced.names_now) ∙ at

-- the name of one answer more
pub replaced_more : (names : List (List ℕ)) (place : ℕ) (answers : List Binding) (now new : List (List ℕ)) (ended new_ended : Bool) (name : List ℕ) (b : Binding) → AreReplaced names place answers now ended
    → length answers ≡ place → slice_get names place ≡ Some name → new ≡ slice_set now place b.name → new_ended ≡ (ended && is_end b.value) → AreReplaced names (place + 1) (answers ++ b ∷ []) new new_ended
replaced_more names place answers now new ended new_ended name b replaced count at set end =
    let front = names_of answers in
    let rest = drop (suc place) names in
    let long : length front ≡ place = length-map answers (λ (x : Binding). x.name) ∙ count in
    let split : now ≡ front ++ name ∷ rest = replaced.names_now ∙ ap (λ l. front ++ l) (drop_at names place name at) in
    let one : suc place ≡ place + 1 = omega arith in
    record {
      names_now = set ∙ ap (λ l. slice_set l place b.name) split ∙ ap (λ k. slice_set (front ++ name ∷ rest) k b.name) (sym long) ∙ set_behind front name rest b.name
          ∙ ap (λ l. l ++ rest) (sym (map-append (λ (x : Binding). x.name) answers (b ∷ []))) ∙ ap (λ k. names_of (answers ++ b ∷ []) ++ drop k names) one;
      ended_is = end ∙ ap (λ (t : Bool). t && is_end b.value) replaced.ended_is ∙ ap (λ (t : Bool). are_end answers && t) (sym (and_true (is_end b.value)))
          ∙ sym (list_all-append (λ (x : Binding). is_end x.value) answers (b ∷ []));
    }
  where
    and_true : (t : Bool) → (t && true) ≡ t
    and_true true = refl
    and_true false = refl

-- all of them came in their places
pub replaced_all : (IsOne : List ℕ → Binding → Type 0) (names : List (List ℕ)) (m : Message) (list : List Binding) (place : ℕ) (draft : Drafted) (now : List (List ℕ)) (ended : Bool)
    → (so_far : IsSoFar IsOne names m list place draft) → AreReplaced names place so_far.answers now ended → place ≡ length names → PutsNext IsOne names m list now ended draft
replaced_all IsOne names m list place draft now ended so_far replaced all = record {
  puts = answers_all IsOne names m list place draft so_far all;
  next_names = replaced.names_now ∙ ap (λ l. names_of so_far.answers ++ l) (drop_all place names (omega (arith, all))) ∙ append-nil (names_of so_far.answers);
  end = replaced.ended_is;
}

-- a binding that didn't come in makes the message too long
pub too_long : (came : Type 0) (size : ℕ) → (came → ⊥) → (size ≤ 1472 → came) → 1472 < size
too_long came size never room = ⊎_elim (λ h. absurd (never (room h.1))) (λ h. h.1) (leb_tells size 1472)

-- what holds of an error, whatever it is
pub of_error : {T E : Type 0} (P : T → Type 0) (Q : Type 0) (result : Result T E) → IsErr result → Q → MatchResult result P (λ _. Q)
of_error P Q (Ok x) err holds = absurd cc
of_error P Q (Err e) err holds = holds
