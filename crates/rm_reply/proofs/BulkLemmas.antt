-- How repetitions come into a draft.
use Rattle.std.proofs.Common.{◌≡◌, ◌≤◌, ℕ, suc, Bool, true, false, List, [], ◌∷◌, ◌++◌, take, drop, length, Some, None, inl, inr, refl, sym, ap, subst, ◌∙◌, true≢false, arith, append_assoc}
use Rattle.std.proofs.lemmas.List.{append-nil}
use Rattle.rm_model.specs.Cells.{Cells}
use Rattle.rm_model.proofs.Next.{next_same}
use Rattle.rm_pdu.specs.Message.{Binding, Message, message_octets}
use Rattle.rm_pdu.specs.Draft.{Drafted, binding_of}
use Rattle.rm_reply.specs.Answered.{IsNextBinding, AreFirst, are_end}
use Rattle.rm_reply.specs.Replies.{names_of, carrying, size_with, counting, non_repeaters}
use Rattle.rm_reply.specs.Fronts.{IsFront, AreRepetitions}
use Rattle.rm_reply.specs.Drafting.{IsDrafted, PutsNext, Stops, PutsLongest}

-- A front of the list of a GetBulkRequest, as it is put: one answer to each of the names that aren't repeated, and then the
-- repetitions of the others.
abbrev pub IsBulkFront : (List ℕ → Binding → Type 0) → Message → List Binding → Type 0
IsBulkFront IsOne request list = IsFront IsOne (take (non_repeaters request) (names_of request.bindings))
    (λ answers rest. AreRepetitions IsOne (counting request.second) (drop (non_repeaters request) (names_of request.bindings)) rest) list

-- more bindings make a message longer
abbrev pub Lengthens : Type 0
Lengthens = (m : Message) (more : List Binding) → length (message_octets m) ≤ length (message_octets (record m { bindings = m.bindings ++ more }))

-- a name has one answer
abbrev pub HasOne : (List ℕ → Binding → Type 0) → Type 0
HasOne IsOne = (name : List ℕ) (a b : Binding) → IsOne name a → IsOne name b → a ≡ b

pub next_one : (cells : Cells) → HasOne (IsNextBinding cells)
next_one cells asked a b (inl p) (inl q) =
    let same = next_same cells asked (Some a.value) (Some b.value) a.name b.name p q in
    let values : a.value ≡ b.value = cc (same.0) in
    ap (λ (n : List ℕ). binding_of n a.value) (same.1 refl) ∙ ap (binding_of b.name) values
next_one cells asked a b (inl p) (inr q) =
    let same = next_same cells asked (Some a.value) None a.name [] p q.0 in
    absurd cc (same.0)
next_one cells asked a b (inr p) (inl q) =
    let same = next_same cells asked None (Some b.value) [] b.name p.0 q in
    absurd cc (same.0)
next_one cells asked a b (inr p) (inr q) = p.1 ∙ sym q.1

pub front_on : (IsOne : List ℕ → Binding → Type 0) (names : List (List ℕ)) (Follows : List Binding → List Binding → Type 0) (answers rest : List Binding) → AreFirst IsOne names answers
    → length answers ≡ length names → Follows answers rest → IsFront IsOne names Follows (answers ++ rest)
front_on IsOne [] Follows [] rest first all follows = follows
front_on IsOne [] Follows (a ∷ answers) rest first all follows = absurd first
front_on IsOne (n ∷ names) Follows [] rest first all follows = absurd (omega (arith, all))
front_on IsOne (n ∷ names) Follows (a ∷ answers) rest first all follows =
    (first.0, front_on IsOne names (λ row more. Follows (a ∷ row) more) answers rest first.1 (omega (arith, all)) follows)

pub front_back : (IsOne : List ℕ → Binding → Type 0) (names : List (List ℕ)) (Follows : List Binding → List Binding → Type 0) (answers rest : List Binding) → length answers ≡ length names
    → IsFront IsOne names Follows (answers ++ rest) → Follows answers rest
front_back IsOne [] Follows [] rest all front = front
front_back IsOne [] Follows (a ∷ answers) rest all front = absurd (omega (arith, all))
front_back IsOne (n ∷ names) Follows [] rest all front = absurd (omega (arith, all))
front_back IsOne (n ∷ names) Follows (a ∷ answers) rest all front =
    front_back IsOne names (λ row more. Follows (a ∷ row) more) answers rest (omega (arith, all)) front.1

pub front_first : (IsOne : List ℕ → Binding → Type 0) (names : List (List ℕ)) (Follows : List Binding → List Binding → Type 0) (answers : List Binding) (next : Binding)
    → AreFirst IsOne names (answers ++ next ∷ []) → IsFront IsOne names Follows answers
front_first IsOne [] Follows [] next first = absurd first
front_first IsOne [] Follows (a ∷ answers) next first = absurd first
front_first IsOne (n ∷ names) Follows [] next first = tt
front_first IsOne (n ∷ names) Follows (a ∷ answers) next first = (first.0, front_first IsOne names (λ row more. Follows (a ∷ row) more) answers next first.1)

front_next : (IsOne : List ℕ → Binding → Type 0) → HasOne IsOne → (names : List (List ℕ)) (Follows : List Binding → List Binding → Type 0) (answers : List Binding) (next other : Binding) (rest : List Binding)
    → AreFirst IsOne names (answers ++ next ∷ []) → IsFront IsOne names Follows (answers ++ other ∷ rest) → other ≡ next
front_next IsOne one [] Follows [] next other rest first front = absurd first
front_next IsOne one [] Follows (a ∷ answers) next other rest first front = absurd first
front_next IsOne one (n ∷ names) Follows [] next other rest first front = one n other next front.0 first.0
front_next IsOne one (n ∷ names) Follows (a ∷ answers) next other rest first front = front_next IsOne one names (λ row more. Follows (a ∷ row) more) answers next other rest first.1 front.1

-- no longer front fits than one behind which the next answer is too much
pub stops_longest : (IsOne : List ℕ → Binding → Type 0) → HasOne IsOne → Lengthens → (names : List (List ℕ)) (Follows : List Binding → List Binding → Type 0) (m : Message) (list : List Binding) (draft : Drafted)
    (stops : Stops IsOne names m list draft) (more : List Binding) → IsFront IsOne names Follows (stops.answers ++ more) → size_with m (list ++ (stops.answers ++ more)) ≤ 1472 → more ≡ []
stops_longest IsOne one lengthen names Follows m list draft stops [] front fits = refl
stops_longest IsOne one lengthen names Follows m list draft stops (other ∷ rest) front fits =
    let is : other ≡ stops.next = front_next IsOne one names Follows stops.answers stops.next other rest stops.first front in
    let part = (list ++ stops.answers) ++ stops.next ∷ [] in
    let whole : part ++ rest ≡ list ++ (stops.answers ++ other ∷ rest) =
    append_assoc (list ++ stops.answers) (stops.next ∷ []) rest ∙ append_assoc list stops.answers (stops.next ∷ rest) ∙ ap (λ (b : Binding). list ++ (stops.answers ++ b ∷ rest)) (sym is) in
    let longer : size_with m part ≤ size_with m (part ++ rest) = lengthen (carrying m part) rest in
    absurd (omega (arith, stops.long, longer, ap (size_with m) whole, fits))

-- So many repetitions are left to come: what comes of them is what comes behind those before.
pub record Repeats (IsOne : List ℕ → Binding → Type 0) (most : ℕ) (names : List (List ℕ)) (m : Message) (list : List Binding) (left : ℕ) (last : List (List ℕ)) (draft : Drafted) : Type 0 where
  pub answers : List Binding
  pub is_drafted : IsDrafted m (list ++ answers) draft
  pub on : (rest : List Binding) → AreRepetitions IsOne left last rest → AreRepetitions IsOne most names (answers ++ rest)
  pub back : (rest : List Binding) → AreRepetitions IsOne most names (answers ++ rest) → AreRepetitions IsOne left last rest

-- what follows the answers of a repetition
abbrev pub Goes : (List ℕ → Binding → Type 0) → ℕ → List Binding → List Binding → Type 0
Goes IsOne left answers rest = (are_end answers ≡ true → rest ≡ []) × (are_end answers ≡ false → AreRepetitions IsOne left (names_of answers) rest)

-- one repetition more
pub repeat_more : (IsOne : List ℕ → Binding → Type 0) (most : ℕ) (names : List (List ℕ)) (m : Message) (list : List Binding) (now left : ℕ) (last : List (List ℕ)) (next_names : List (List ℕ)) (is_end : Bool) (draft new : Drafted)
    → now ≡ suc left → (before : Repeats IsOne most names m list now last draft) → PutsNext IsOne last m (list ++ before.answers) next_names is_end new → is_end ≡ false
    → Repeats IsOne most names m list left next_names new
repeat_more IsOne most names m list now left last next_names is_end draft new count before puts_next goes_on =
    let puts = puts_next.puts in
    let end : are_end puts.answers ≡ false = sym puts_next.end ∙ goes_on in
    let whole = λ (rest : List Binding). append_assoc before.answers puts.answers rest in
    record {
      answers = before.answers ++ puts.answers;
      is_drafted = subst (λ (bs : List Binding). IsDrafted m bs new) (append_assoc list before.answers puts.answers) puts.is_drafted;
      on = λ rest are.
          let next : Goes IsOne left puts.answers rest =
          (λ ends. absurd (true≢false (sym ends ∙ end)), λ _. subst (λ (ns : List (List ℕ)). AreRepetitions IsOne left ns rest) puts_next.next_names are) in
          let front : AreRepetitions IsOne (suc left) last (puts.answers ++ rest) = front_on IsOne last (Goes IsOne left) puts.answers rest puts.are.first puts.are.all next in
          subst (λ (bs : List Binding). AreRepetitions IsOne most names bs) (sym (whole rest))
          (before.on (puts.answers ++ rest) (subst (λ (n : ℕ). AreRepetitions IsOne n last (puts.answers ++ rest)) (sym count) front));
      back = λ rest are.
          let front : AreRepetitions IsOne (suc left) last (puts.answers ++ rest) =
          subst (λ (n : ℕ). AreRepetitions IsOne n last (puts.answers ++ rest)) count
          (before.back (puts.answers ++ rest) (subst (λ (bs : List Binding). AreRepetitions IsOne most names bs) (whole rest) are)) in
          let next : Goes IsOne left puts.answers rest = front_back IsOne last (Goes IsOne left) puts.answers rest puts.are.all front in
          subst (λ (ns : List (List ℕ)). AreRepetitions IsOne left ns rest) (sym puts_next.next_names) (next.1 end);
    }

-- a repetition that is wholly endOfMibView is the last
pub repeat_ends : (IsOne : List ℕ → Binding → Type 0) (most : ℕ) (names : List (List ℕ)) (m : Message) (list : List Binding) (now left : ℕ) (last : List (List ℕ)) (next_names : List (List ℕ)) (is_end : Bool) (draft new : Drafted)
    → now ≡ suc left → (before : Repeats IsOne most names m list now last draft) → PutsNext IsOne last m (list ++ before.answers) next_names is_end new → is_end ≡ true
    → PutsLongest (AreRepetitions IsOne most names) m list new
repeat_ends IsOne most names m list now left last next_names is_end draft new count before puts_next ended =
    let puts = puts_next.puts in
    let end : are_end puts.answers ≡ true = sym puts_next.end ∙ ended in
    let next : Goes IsOne left puts.answers [] = (λ _. refl, λ no_end. absurd (true≢false (sym end ∙ no_end))) in
    let front : AreRepetitions IsOne (suc left) last (puts.answers ++ []) = front_on IsOne last (Goes IsOne left) puts.answers [] puts.are.first puts.are.all next in
    record {
      added = before.answers ++ puts.answers;
      part = before.on puts.answers (subst (λ (n : ℕ). AreRepetitions IsOne n last puts.answers) (sym count)
          (subst (λ (bs : List Binding). AreRepetitions IsOne (suc left) last bs) (append-nil puts.answers) front));
      is_drafted = subst (λ (bs : List Binding). IsDrafted m bs new) (append_assoc list before.answers puts.answers) puts.is_drafted;
      longest = λ more are fits.
          let behind : AreRepetitions IsOne (suc left) last (puts.answers ++ more) =
          subst (λ (n : ℕ). AreRepetitions IsOne n last (puts.answers ++ more)) count
          (before.back (puts.answers ++ more) (subst (λ (bs : List Binding). AreRepetitions IsOne most names bs) (append_assoc before.answers puts.answers more) are)) in
          (front_back IsOne last (Goes IsOne left) puts.answers more puts.are.all behind).0 end;
    }

-- a repetition doesn't fit whole
pub repeat_stops : (IsOne : List ℕ → Binding → Type 0) → HasOne IsOne → Lengthens → (most : ℕ) (names : List (List ℕ)) (m : Message) (list : List Binding) (now left : ℕ) (last : List (List ℕ)) (draft new : Drafted)
    → now ≡ suc left → (before : Repeats IsOne most names m list now last draft) → Stops IsOne last m (list ++ before.answers) new
    → PutsLongest (AreRepetitions IsOne most names) m list new
repeat_stops IsOne one lengthen most names m list now left last draft new count before stops =
    let front : AreRepetitions IsOne (suc left) last stops.answers = front_first IsOne last (Goes IsOne left) stops.answers stops.next stops.first in
    record {
      added = before.answers ++ stops.answers;
      part = before.on stops.answers (subst (λ (n : ℕ). AreRepetitions IsOne n last stops.answers) (sym count) front);
      is_drafted = subst (λ (bs : List Binding). IsDrafted m bs new) (append_assoc list before.answers stops.answers) stops.is_drafted;
      longest = λ more are fits.
          let behind : AreRepetitions IsOne (suc left) last (stops.answers ++ more) =
          subst (λ (n : ℕ). AreRepetitions IsOne n last (stops.answers ++ more)) count
          (before.back (stops.answers ++ more) (subst (λ (bs : List Binding). AreRepetitions IsOne most names bs) (append_assoc before.answers stops.answers more) are)) in
          let whole : list ++ ((before.answers ++ stops.answers) ++ more) ≡ (list ++ before.answers) ++ (stops.answers ++ more) =
          ap (λ (bs : List Binding). list ++ bs) (append_assoc before.answers stops.answers more) ∙ sym (append_assoc list before.answers (stops.answers ++ more)) in
          stops_longest IsOne one lengthen last (Goes IsOne left) m (list ++ before.answers) new stops more behind (subst (λ (bs : List Binding). size_with m bs ≤ 1472) whole fits);
    }

-- all repetitions came
pub repeat_done : (IsOne : List ℕ → Binding → Type 0) (most : ℕ) (names : List (List ℕ)) (m : Message) (list : List Binding) (left : ℕ) (last : List (List ℕ)) (draft : Drafted) → left ≡ 0
    → Repeats IsOne most names m list left last draft → PutsLongest (AreRepetitions IsOne most names) m list draft
repeat_done IsOne most names m list left last draft none before = record {
  added = before.answers;
  part = subst (λ (bs : List Binding). AreRepetitions IsOne most names bs) (append-nil before.answers) (before.on [] (subst (λ (n : ℕ). AreRepetitions IsOne n last []) (sym none) refl));
  is_drafted = before.is_drafted;
  longest = λ more are fits. subst (λ (n : ℕ). AreRepetitions IsOne n last more) none (before.back more are);
}
