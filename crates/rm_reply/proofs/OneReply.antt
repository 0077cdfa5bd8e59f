-- A request has one reply.
use Rattle.std.proofs.Common.{◌≡◌, ◌≤◌, ◌<◌, ℕ, zero, suc, Bool, true, false, List, [], ◌∷◌, ◌++◌, length, take, drop, Option, ◌⊎◌, inl, inr, refl, sym, ap, subst, ◌∙◌, arith}
use Rattle.std.proofs.lemmas.List.{append-nil}
use Rattle.std.proofs.lemmas.Bool.{cases_lt}
use Rattle.rm_val.specs.Val.{Val}
use Rattle.rm_val.specs.declared.error.ErrorStatus.{ErrorStatus}
use Rattle.rm_model.specs.Journal.{Journal}
use Rattle.rm_model.specs.Judgement.{Bindings}
use Rattle.rm_model.specs.Cells.{Cells}
use Rattle.rm_pdu.specs.declared.kind.Kind.{Kind}
use Rattle.rm_pdu.specs.declared.kind.Kind.TheVariants.{Get, Next, Response, Set, Bulk, Inform, Trap, Report}
use Rattle.rm_pdu.specs.Message.{Binding, Message}
use Rattle.rm_reply.specs.Answered.{IsGetBinding, IsNextBinding, AreFirst, are_end}
use Rattle.rm_reply.specs.Replies.{names_of, carrying, size_with, IsWholeReply, IsBulkList, IsLongest, IsBulkReply, counting, non_repeaters, IsReplyOf, IsReply}
use Rattle.rm_reply.specs.Fronts.{IsFront, AreRepetitions}
use Rattle.rm_reply.specs.Sets.{alone_among, given_by}
use Rattle.rm_reply.specs.Responses.{IsReplyBy}
use Rattle.rm_reply.proofs.Verdicts.{set_once}
use Rattle.rm_reply.proofs.BulkLemmas.{IsBulkFront, HasOne, next_one, Goes}
use Rattle.rm_reply.proofs.PlaceLemmas.{bulk_is_list}

-- one of two lists goes on where the other one ends
abbrev pub OneGoesOn : List Binding → List Binding → Type 0
OneGoesOn xs ys = ((more : List Binding) × (ys ≡ xs ++ more)) ⊎ ((more : List Binding) × (xs ≡ ys ++ more))

cons_goes : (a b : Binding) (xs ys : List Binding) → a ≡ b → OneGoesOn xs ys → OneGoesOn (a ∷ xs) (b ∷ ys)
cons_goes a b xs ys same (inl (more, is)) = inl (more, ap (λ (x : Binding). x ∷ ys) (sym same) ∙ ap (λ (l : List Binding). a ∷ l) is)
cons_goes a b xs ys same (inr (more, is)) = inr (more, ap (λ (x : Binding). x ∷ xs) same ∙ ap (λ (l : List Binding). b ∷ l) is)

first_goes : (IsOne : List ℕ → Binding → Type 0) → HasOne IsOne → (names : List (List ℕ)) (xs ys : List Binding) → AreFirst IsOne names xs → AreFirst IsOne names ys → OneGoesOn xs ys
first_goes IsOne one names [] ys p q = inl (ys, refl)
first_goes IsOne one names (a ∷ xs) [] p q = inr (a ∷ xs, refl)
first_goes IsOne one [] (a ∷ xs) (b ∷ ys) p q = absurd p
first_goes IsOne one (n ∷ names) (a ∷ xs) (b ∷ ys) p q = cons_goes a b xs ys (one n a b p.0 q.0) (first_goes IsOne one names xs ys p.1 q.1)

-- no answers to some of the names, if there are more of them, are fewer than the answers to all
first_within : (IsOne : List ℕ → Binding → Type 0) (names : List (List ℕ)) (xs : List Binding) → AreFirst IsOne names xs → length xs ≤ length names
first_within IsOne names [] p = omega arith
first_within IsOne [] (a ∷ xs) p = absurd p
first_within IsOne (n ∷ names) (a ∷ xs) p = let less = first_within IsOne names xs p.1 in omega (arith, less)

nothing_more : (xs more : List Binding) → length (xs ++ more) ≤ length xs → more ≡ []
nothing_more [] [] less = refl
nothing_more [] (b ∷ more) less = absurd (omega (arith, less))
nothing_more (a ∷ xs) more less = nothing_more xs more (omega (arith, less))

-- answers to all names are what they are, and those to some are a front of them
all_same : (IsOne : List ℕ → Binding → Type 0) → HasOne IsOne → (names : List (List ℕ)) (xs ys : List Binding) → AreFirst IsOne names xs → length xs ≡ length names → AreFirst IsOne names ys
    → (more : List Binding) × (xs ≡ ys ++ more)
all_same IsOne one names xs ys p all q = elim (first_goes IsOne one names xs ys p q) [
  | inl (more, is) ↦
      let none : more ≡ [] = nothing_more xs more (omega (arith, first_within IsOne names ys q, ap length is, all)) in
      let same : ys ≡ xs = is ∙ ap (λ (l : List Binding). xs ++ l) none ∙ append-nil xs in
      ([], sym same ∙ sym (append-nil ys))
  | inr goes ↦ goes
]

pub whole_one : (IsOne : List ℕ → Binding → Type 0) → HasOne IsOne → (request a b : Message) → IsWholeReply IsOne request a → IsWholeReply IsOne request b → a ≡ b
whole_one IsOne one request a b p q =
    let (more, goes) = all_same IsOne one (names_of request.bindings) p.answers q.answers p.are.first p.are.all q.are.first in
    let none : more ≡ [] = nothing_more q.answers more (omega (arith, ap length goes, p.are.all, q.are.all)) in
    let same : p.answers ≡ q.answers = goes ∙ ap (λ (l : List Binding). q.answers ++ l) none ∙ append-nil q.answers in
    elim (cases_lt 1472 (size_with request q.answers)) [
      | inl long ↦ p.long (subst (λ (l : List Binding). 1472 < size_with request l) (sym same) long) ∙ sym (q.long long)
      | inr fits ↦ p.fits (subst (λ (l : List Binding). size_with request l ≤ 1472) (sym same) fits) ∙ ap (carrying request) same ∙ sym (q.fits fits)
    ]

front_goes : (IsOne : List ℕ → Binding → Type 0) → HasOne IsOne → (names : List (List ℕ)) (Follows : List Binding → List Binding → Type 0)
    → ((row xs ys : List Binding) → Follows row xs → Follows row ys → OneGoesOn xs ys) → (xs ys : List Binding) → IsFront IsOne names Follows xs → IsFront IsOne names Follows ys → OneGoesOn xs ys
front_goes IsOne one [] Follows goes xs ys p q = goes [] xs ys p q
front_goes IsOne one (n ∷ names) Follows goes [] ys p q = inl (ys, refl)
front_goes IsOne one (n ∷ names) Follows goes (a ∷ xs) [] p q = inr (a ∷ xs, refl)
front_goes IsOne one (n ∷ names) Follows goes (a ∷ xs) (b ∷ ys) p q =
    let same : b ≡ a = one n b a q.0 p.0 in
    let other : IsFront IsOne names (λ row more. Follows (a ∷ row) more) ys = subst (λ (x : Binding). IsFront IsOne names (λ row more. Follows (x ∷ row) more) ys) same q.1 in
    cons_goes a b xs ys (sym same) (front_goes IsOne one names (λ row more. Follows (a ∷ row) more) (λ row us vs. goes (a ∷ row) us vs) xs ys p.1 other)

both_none : (xs ys : List Binding) → xs ≡ [] → ys ≡ [] → OneGoesOn xs ys
both_none xs ys p q = inl ([], q ∙ sym p ∙ sym (append-nil xs))

-- what may go on behind a row goes on alike
goes_alike : (IsOne : List ℕ → Binding → Type 0) (most : ℕ) → ((names : List (List ℕ)) (xs ys : List Binding) → AreRepetitions IsOne most names xs → AreRepetitions IsOne most names ys → OneGoesOn xs ys)
    → (row us vs : List Binding) (end : Bool) → are_end row ≡ end → Goes IsOne most row us → Goes IsOne most row vs → OneGoesOn us vs
goes_alike IsOne most alike row us vs true is f g = both_none us vs (f.0 is) (g.0 is)
goes_alike IsOne most alike row us vs false is f g = alike (names_of row) us vs (f.1 is) (g.1 is)

repetitions_go : (IsOne : List ℕ → Binding → Type 0) → HasOne IsOne → (most : ℕ) (names : List (List ℕ)) (xs ys : List Binding) → AreRepetitions IsOne most names xs → AreRepetitions IsOne most names ys
    → OneGoesOn xs ys
repetitions_go IsOne one zero names xs ys p q = both_none xs ys p q
repetitions_go IsOne one (suc most) names xs ys p q =
    front_goes IsOne one names (Goes IsOne most) (λ row us vs f g. goes_alike IsOne most (repetitions_go IsOne one most) row us vs (are_end row) refl f g) xs ys p q

pub bulk_goes : (IsOne : List ℕ → Binding → Type 0) → HasOne IsOne → (request : Message) (xs ys : List Binding) → IsBulkFront IsOne request xs → IsBulkFront IsOne request ys → OneGoesOn xs ys
bulk_goes IsOne one request xs ys p q =
    let others = drop (non_repeaters request) (names_of request.bindings) in
    front_goes IsOne one (take (non_repeaters request) (names_of request.bindings)) (λ answers rest. AreRepetitions IsOne (counting request.second) others rest)
    (λ row us vs f g. repetitions_go IsOne one (counting request.second) others us vs f g) xs ys p q

longest_same : (IsPart : List Binding → Type 0) (request : Message) (xs ys more : List Binding) → IsLongest IsPart request xs → IsLongest IsPart request ys → ys ≡ xs ++ more → xs ≡ ys
longest_same IsPart request xs ys more p q is =
    let none : more ≡ [] = p.longest more (subst IsPart is q.part) (subst (λ (l : List Binding). size_with request l ≤ 1472) is q.short) in
    sym (is ∙ ap (λ (l : List Binding). xs ++ l) none ∙ append-nil xs)

bulk_one : (IsOne : List ℕ → Binding → Type 0) → HasOne IsOne → (request a b : Message) → IsBulkReply IsOne request a → IsBulkReply IsOne request b → a ≡ b
bulk_one IsOne one request a b (xs, p, is) (ys, q, is') =
    let same : xs ≡ ys = elim (bulk_goes IsOne one request xs ys ((bulk_is_list IsOne request xs).1 p.part) ((bulk_is_list IsOne request ys).1 q.part)) [
      | inl (more, goes) ↦ longest_same (IsBulkList IsOne request) request xs ys more p q goes
      | inr (more, goes) ↦ sym (longest_same (IsBulkList IsOne request) request ys xs more q p goes)
    ] in
    is ∙ ap (carrying request) same ∙ sym is'

get_one : (cells : Cells) (objects : List ℕ → Bool) → HasOne (IsGetBinding cells objects)
get_one cells objects name a b p q = p ∙ sym q

kind_one : (cells : Cells) (objects : List ℕ → Bool) (kind : Kind) (request a b : Message) → IsReplyOf cells objects kind request a → IsReplyOf cells objects kind request b → a ≡ b
kind_one cells objects Get request a b p q = whole_one (IsGetBinding cells objects) (get_one cells objects) request a b p q
kind_one cells objects Next request a b p q = whole_one (IsNextBinding cells) (next_one cells) request a b p q
kind_one cells objects Bulk request a b p q = bulk_one (IsNextBinding cells) (next_one cells) request a b p q
kind_one cells objects Response request a b p q = absurd p
kind_one cells objects Set request a b p q = absurd p
kind_one cells objects Inform request a b p q = absurd p
kind_one cells objects Trap request a b p q = absurd p
kind_one cells objects Report request a b p q = absurd p

pub reply_one : (cells : Cells) (objects : List ℕ → Bool) (request a b : Message) → IsReply cells objects request a → IsReply cells objects request b → a ≡ b
reply_one cells objects request a b p q = elim (cases_lt 128 (length request.bindings)) [
  | inl many ↦ p.many many ∙ sym (q.many many)
  | inr few ↦ kind_one cells objects request.kind request a b (p.few few) (q.few few)
]

module _ (cells : Cells) (objects : List ℕ → Bool) (alone : List ℕ → Val → Option ErrorStatus) (together : Bindings → ℕ → Option ErrorStatus)
    (reserves : Bindings → ℕ → Type 0) (may_write : Bool) (moment : ℕ) (journal : Journal) (request a b : Message) (after later : Journal) where
  abbrev By : Kind → Message → Journal → Type 0
  By kind reply next = IsReplyBy cells objects alone together reserves may_write moment journal kind request reply next

  reads_one : IsReply cells objects request a × (after ≡ journal) → IsReply cells objects request b × (later ≡ journal) → (a ≡ b) × (after ≡ later)
  reads_one (p, stays) (q, stays') = (reply_one cells objects request a b p q, stays ∙ sym stays')

  -- a request that is no SetRequest that reserves storage has one reply
  pub request_one : (request.kind ≡ Set → (index : ℕ) → reserves (given_by request.bindings) index → ⊥) → (kind : Kind) → request.kind ≡ kind → By kind a after → By kind b later → (a ≡ b) × (after ≡ later)
  request_one nothing Set is p q = set_once (alone_among objects alone) together reserves moment journal may_write request (nothing is) a b after later p q
  request_one nothing Get is p q = reads_one p q
  request_one nothing Next is p q = reads_one p q
  request_one nothing Bulk is p q = reads_one p q
  request_one nothing Response is p q = reads_one p q
  request_one nothing Inform is p q = reads_one p q
  request_one nothing Trap is p q = reads_one p q
  request_one nothing Report is p q = reads_one p q
