-- A request has a reply.
use Rattle.std.proofs.Common.{◌≡◌, ◌≤◌, ◌<◌, ℕ, zero, suc, Bool, true, false, List, [], ◌∷◌, ◌++◌, length, take, drop, inl, inr, Option, refl, sym, ap, subst, ◌∙◌, true≢false, arith, append_assoc}
use Rattle.std.proofs.lemmas.List.{append-nil, append_cancel_left}
use Rattle.std.proofs.lemmas.Bool.{cases_lt}
use Rattle.rm_val.specs.Val.{Val}
use Rattle.rm_val.specs.declared.error.ErrorStatus.{ErrorStatus}
use Rattle.rm_model.specs.Journal.{Journal}
use Rattle.rm_model.specs.Judgement.{Bindings}
use Rattle.rm_model.specs.Cells.{Cells}
use Rattle.rm_pdu.specs.declared.kind.Kind.{Kind}
use Rattle.rm_pdu.specs.declared.kind.Kind.TheVariants.{Get, Next, Response, Set, Bulk, Inform, Trap, Report}
use Rattle.rm_pdu.specs.Message.{Binding, Message, message_octets}
use Rattle.rm_pdu.specs.Parse.{is_request}
use Rattle.rm_reply.specs.Answered.{IsGetBinding, IsNextBinding, are_end}
use Rattle.rm_reply.specs.Sets.{alone_among}
use Rattle.rm_reply.specs.Responses.{IsReplyBy}
use Rattle.rm_reply.proofs.Verdicts.{set_some}
use Rattle.rm_reply.specs.Replies.{names_of, carrying, too_big, size_with, IsWholeReply, IsLongest, IsBulkReply, counting, non_repeaters, is_built, IsReplyOf, IsReply}
use Rattle.rm_reply.specs.Fronts.{IsFront, AreRepetitions}
use Rattle.rm_reply.proofs.BulkLemmas.{IsBulkFront, Lengthens, next_one, Goes}
use Rattle.rm_reply.proofs.PlaceLemmas.{longest_by_place}
use Rattle.rm_reply.proofs.SomeAnswers.{HasSome, FindsNext, get_some, next_some, all_answers}
use Rattle.rm_reply.proofs.OneReply.{OneGoesOn, bulk_goes}

-- all answers fit, or they don't
whole_some : (IsOne : List ℕ → Binding → Type 0) → HasSome IsOne → (request : Message) → (reply : Message) × IsWholeReply IsOne request reply
whole_some IsOne some request =
    let (answers, are) = all_answers IsOne some (names_of request.bindings) in
    elim (cases_lt 1472 (size_with request answers)) [
      | inl long ↦ (too_big request, record { answers = answers; are = are; fits = λ fits. absurd (omega (arith, long, fits)); long = λ _. refl })
      | inr fits ↦ (carrying request answers, record { answers = answers; are = are; fits = λ _. refl; long = λ long. absurd (omega (arith, long, fits)) })
    ]

-- a list of which all parts are fronts, since there is nothing behind it
abbrev HasEnd : (List Binding → Type 0) → Type 0
HasEnd IsPart = (list : List Binding) × IsPart list × ((more : List Binding) → IsPart (list ++ more) → more ≡ [])

-- a front of a part is a part
abbrev HasFronts : (List Binding → Type 0) → Type 0
HasFronts IsPart = (list more : List Binding) → IsPart (list ++ more) → IsPart list

nothing_in_front : (list more : List Binding) → list ++ more ≡ [] → list ≡ []
nothing_in_front [] more is = refl
nothing_in_front (b ∷ list) more is = absurd cc

front_fronts : (IsOne : List ℕ → Binding → Type 0) (names : List (List ℕ)) (Follows : List Binding → List Binding → Type 0) → ((row : List Binding) → HasFronts (Follows row)) → HasFronts (IsFront IsOne names Follows)
front_fronts IsOne [] Follows fronts list more front = fronts [] list more front
front_fronts IsOne (n ∷ names) Follows fronts [] more front = tt
front_fronts IsOne (n ∷ names) Follows fronts (b ∷ list) more front =
    (front.0, front_fronts IsOne names (λ row rest. Follows (b ∷ row) rest) (λ row. fronts (b ∷ row)) list more front.1)

repetitions_fronts : (IsOne : List ℕ → Binding → Type 0) (most : ℕ) (names : List (List ℕ)) → HasFronts (AreRepetitions IsOne most names)
repetitions_fronts IsOne zero names list more none = nothing_in_front list more none
repetitions_fronts IsOne (suc most) names list more front =
    front_fronts IsOne names (Goes IsOne most)
    (λ row some rest goes. (λ end. nothing_in_front some rest (goes.0 end), λ on. repetitions_fronts IsOne most (names_of row) some rest (goes.1 on))) list more front

bulk_fronts : (IsOne : List ℕ → Binding → Type 0) (request : Message) → HasFronts (IsBulkFront IsOne request)
bulk_fronts IsOne request list more front =
    let others = drop (non_repeaters request) (names_of request.bindings) in
    front_fronts IsOne (take (non_repeaters request) (names_of request.bindings)) (λ answers rest. AreRepetitions IsOne (counting request.second) others rest)
    (λ row. repetitions_fronts IsOne (counting request.second) others) list more front

front_end : (IsOne : List ℕ → Binding → Type 0) → HasSome IsOne → (names : List (List ℕ)) (Follows : List Binding → List Binding → Type 0) → ((row : List Binding) → HasEnd (Follows row)) → HasEnd (IsFront IsOne names Follows)
front_end IsOne some [] Follows ends = ends []
front_end IsOne some (n ∷ names) Follows ends =
    let (binding, one) = some n in
    let (list, part, last) = front_end IsOne some names (λ row rest. Follows (binding ∷ row) rest) (λ row. ends (binding ∷ row)) in
    (binding ∷ list, (one, part), λ more front. last more front.1)

goes_end : (IsOne : List ℕ → Binding → Type 0) (most : ℕ) → ((names : List (List ℕ)) → HasEnd (AreRepetitions IsOne most names)) → (row : List Binding) (end : Bool) → are_end row ≡ end
    → HasEnd (Goes IsOne most row)
goes_end IsOne most ends row true is = ([], (λ _. refl, λ on. absurd (true≢false (sym is ∙ on))), λ more goes. goes.0 is)
goes_end IsOne most ends row false is =
    let (list, part, last) = ends (names_of row) in
    (list, (λ end. absurd (true≢false (sym end ∙ is)), λ _. part), λ more goes. last more (goes.1 is))

repetitions_end : (IsOne : List ℕ → Binding → Type 0) → HasSome IsOne → (most : ℕ) (names : List (List ℕ)) → HasEnd (AreRepetitions IsOne most names)
repetitions_end IsOne some zero names = ([], refl, λ more none. none)
repetitions_end IsOne some (suc most) names =
    front_end IsOne some names (Goes IsOne most) (λ row. goes_end IsOne most (repetitions_end IsOne some most) row (are_end row) refl)

bulk_end : (IsOne : List ℕ → Binding → Type 0) → HasSome IsOne → (request : Message) → HasEnd (IsBulkFront IsOne request)
bulk_end IsOne some request =
    let others = drop (non_repeaters request) (names_of request.bindings) in
    front_end IsOne some (take (non_repeaters request) (names_of request.bindings)) (λ answers rest. AreRepetitions IsOne (counting request.second) others rest)
    (λ row. repetitions_end IsOne some (counting request.second) others)

-- lists of which one goes on where the other ends have the same next binding
same_next : (front rest more : List Binding) (b c : Binding) → OneGoesOn (front ++ b ∷ rest) (front ++ c ∷ more) → b ≡ c
same_next front rest more b c (inl (x, is)) =
    let behind : c ∷ more ≡ b ∷ (rest ++ x) = append_cancel_left front (c ∷ more) (b ∷ (rest ++ x)) (is ∙ append_assoc front (b ∷ rest) x) in
    cc
same_next front rest more b c (inr (x, is)) =
    let behind : b ∷ rest ≡ c ∷ (more ++ x) = append_cancel_left front (b ∷ rest) (c ∷ (more ++ x)) (is ∙ append_assoc front (c ∷ more) x) in
    cc

-- nothing fits behind a front where the next binding is too much
next_long : Lengthens → (request : Message) (front rest more : List Binding) (b : Binding) → 1472 < size_with request (front ++ b ∷ []) → OneGoesOn (front ++ b ∷ rest) (front ++ more)
    → size_with request (front ++ more) ≤ 1472 → more ≡ []
next_long lengthen request front rest [] b long goes fits = refl
next_long lengthen request front rest (c ∷ more) b long goes fits =
    let same : b ≡ c = same_next front rest more b c goes in
    let part = front ++ b ∷ [] in
    let whole : part ++ more ≡ front ++ c ∷ more = append_assoc front (b ∷ []) more ∙ ap (λ (x : Binding). front ++ x ∷ more) same in
    let longer : size_with request part ≤ size_with request (part ++ more) = lengthen (carrying request part) more in
    absurd (omega (arith, long, longer, ap (size_with request) whole, fits))

module _ (lengthen : Lengthens) (IsPart : List Binding → Type 0) (fronts : HasFronts IsPart) (alike : (xs ys : List Binding) → IsPart xs → IsPart ys → OneGoesOn xs ys) (request : Message) where
  -- the longest part that fits, where this front does
  longest_from : (front rest : List Binding) → IsPart (front ++ rest) → ((more : List Binding) → IsPart ((front ++ rest) ++ more) → more ≡ []) → size_with request front ≤ 1472
      → (list : List Binding) × IsLongest IsPart request list
  longest_from front [] part last short =
      let all = append-nil front in (
        front,
        record {
          part = subst IsPart all part;
          short = short;
          longest = λ more is _. last more (subst (λ (list : List Binding). IsPart (list ++ more)) (sym all) is);
        },
      )
  longest_from front (b ∷ rest) part last short =
      let whole : (front ++ b ∷ []) ++ rest ≡ front ++ b ∷ rest = append_assoc front (b ∷ []) rest in
      elim (cases_lt 1472 (size_with request (front ++ b ∷ []))) [
        | inl long ↦ (
          front,
          record {
            part = fronts front (b ∷ rest) part;
            short = short;
            longest = λ more is fits. next_long lengthen request front rest more b long (alike (front ++ b ∷ rest) (front ++ more) part is) fits;
          },
        )
        | inr fits ↦ longest_from (front ++ b ∷ []) rest (subst IsPart (sym whole) part)
            (λ more is. last more (subst (λ (list : List Binding). IsPart (list ++ more)) whole is)) fits
      ]

bulk_some : Lengthens → (cells : Cells) → HasSome (IsNextBinding cells) → (request : Message) → size_with request [] ≤ 1472 → (reply : Message) × IsBulkReply (IsNextBinding cells) request reply
bulk_some lengthen cells some request short =
    let IsOne = IsNextBinding cells in
    let (whole, part, last) = bulk_end IsOne some request in
    let (list, longest) = longest_from lengthen (IsBulkFront IsOne request) (bulk_fronts IsOne request) (bulk_goes IsOne (next_one cells) request) request [] whole part last short in
    (carrying request list, (list, longest_by_place IsOne request list longest, refl))

kind_some : Lengthens → (cells : Cells) (objects : List ℕ → Bool) → FindsNext cells → (kind : Kind) (request : Message) → is_built kind ≡ true → size_with request [] ≤ 1472
    → (reply : Message) × IsReplyOf cells objects kind request reply
kind_some lengthen cells objects finds Get request built short = whole_some (IsGetBinding cells objects) (get_some cells objects) request
kind_some lengthen cells objects finds Next request built short = whole_some (IsNextBinding cells) (next_some cells finds) request
kind_some lengthen cells objects finds Bulk request built short = bulk_some lengthen cells (next_some cells finds) request short
kind_some lengthen cells objects finds Response request built short = absurd cc
kind_some lengthen cells objects finds Set request built short = absurd cc
kind_some lengthen cells objects finds Inform request built short = absurd cc
kind_some lengthen cells objects finds Trap request built short = absurd cc
kind_some lengthen cells objects finds Report request built short = absurd cc

-- a message with no bindings is short
abbrev pub BeginShort : Type 0
BeginShort = (m : Message) → length m.community ≤ 127 → m.bindings ≡ [] → length (message_octets m) ≤ 1472

-- a request of a kind that reads has a reply
pub reply_some : Lengthens → BeginShort → (cells : Cells) (objects : List ℕ → Bool) → FindsNext cells → (request : Message) → is_built request.kind ≡ true
    → length request.community ≤ 127 → (reply : Message) × IsReply cells objects request reply
reply_some lengthen begin cells objects finds request built community =
    let short = begin (carrying request []) community refl in
    elim (cases_lt 128 (length request.bindings)) [
      | inl many ↦ (too_big request, record { few = λ few. absurd (omega (arith, few, many)); many = λ _. refl })
      | inr few ↦
          let (reply, is) = kind_some lengthen cells objects finds request.kind request built short in
          (reply, record { few = λ _. is; many = λ many. absurd (omega (arith, few, many)) })
    ]

module _ (lengthen : Lengthens) (begin : BeginShort) (cells : Cells) (objects : List ℕ → Bool) (finds : FindsNext cells) (alone : List ℕ → Val → Option ErrorStatus)
    (together : Bindings → ℕ → Option ErrorStatus) (reserves : Bindings → ℕ → Type 0) (may_write : Bool) (moment : ℕ) (journal : Journal) (request : Message)
    (community : length request.community ≤ 127) where
  abbrev HasReply : Kind → Type 0
  HasReply kind = (reply : Message) × (after : Journal) × IsReplyBy cells objects alone together reserves may_write moment journal kind request reply after

  reads : is_built request.kind ≡ true → HasReply Get
  reads built = let (reply, is) = reply_some lengthen begin cells objects finds request built community in (reply, journal, (is, refl))

  of_kind : (kind : Kind) → request.kind ≡ kind → is_request kind ≡ true → HasReply kind
  of_kind Get is asks = reads (ap is_built is)
  of_kind Next is asks = reads (ap is_built is)
  of_kind Bulk is asks = reads (ap is_built is)
  of_kind Set is asks = set_some (alone_among objects alone) together reserves moment journal may_write request
  of_kind Response is asks = absurd cc
  of_kind Inform is asks = absurd cc
  of_kind Trap is asks = absurd cc
  of_kind Report is asks = absurd cc

  -- a request has a reply
  pub request_some : is_request request.kind ≡ true → HasReply request.kind
  request_some asks = of_kind request.kind refl asks
