-- The reply to a request (RFC 1905, section 4.2).
use Rattle.std.specs.Prelude.{◌≡◌, ◌≤◌, ◌<◌, ℕ, ℤ, ◌+◌, ◌-◌, ◌*◌, pos, negsuc, Bool, true, false, min, List, [], ◌++◌, map, take, drop, length}
use Rattle.rm_val.specs.ErrorStatus.{number_of}
use Rattle.rm_val.specs.declared.error.ErrorStatus.{ErrorStatus}
use Rattle.rm_val.specs.declared.error.ErrorStatus.TheVariants.{NoError, TooBig}
use Rattle.rm_model.specs.Cells.{Cells}
use Rattle.rm_pdu.specs.declared.kind.Kind.{Kind}
use Rattle.rm_pdu.specs.declared.kind.Kind.TheVariants.{Get, Next, Bulk, Response}
use Rattle.rm_pdu.specs.Message.{Binding, Message, message_octets}
use Rattle.rm_reply.specs.Answered.{IsGetBinding, IsNextBinding, AreFirst, AreAnswers, are_end}

-- the names of bindings
abbrev pub names_of : List Binding → List (List ℕ)
names_of bindings = map (λ (binding : Binding). binding.name) bindings

-- the response to a request, with this error-status, this error-index and these bindings
abbrev pub response_to : Message → ErrorStatus → ℕ → List Binding → Message
response_to request status index bindings =
    record { community = request.community; kind = Response; id = request.id; first = number_of status; second = pos index; bindings = bindings }

-- the response that carries bindings
abbrev pub carrying : Message → List Binding → Message
carrying request bindings = response_to request NoError 0 bindings

-- the response where there is too much to be carried
abbrev pub too_big : Message → Message
too_big request = response_to request TooBig 0 []

-- how many octets the response has that carries bindings
abbrev pub size_with : Message → List Binding → ℕ
size_with request bindings = length (message_octets (carrying request bindings))

-- The reply carries the answers to all names, or is tooBig where it would have more than 1472 octets with them (RFC 1905,
-- sections 4.2.1 and 4.2.2).
pub record IsWholeReply (IsOne : List ℕ → Binding → Type 0) (request reply : Message) : Type 0 where
  pub answers : List Binding
  pub are : AreAnswers IsOne (names_of request.bindings) answers
  pub fits : size_with request answers ≤ 1472 → reply ≡ carrying request answers
  pub long : 1472 < size_with request answers → reply ≡ too_big request

-- a number of a GetBulkRequest; a negative one is taken for 0
abbrev pub counting : ℤ → ℕ
counting (pos n) = n
counting (negsuc n) = 0

-- how many of the first names aren't repeated
abbrev pub non_repeaters : Message → ℕ
non_repeaters request = min (counting request.first) (length request.bindings)

-- how many of the last names are repeated
abbrev pub repeaters : Message → ℕ
repeaters request = length request.bindings - non_repeaters request

-- the names that are asked for at the places of a list: those of the request, and then the name of each answer one repetition
-- before
abbrev pub names_asked : Message → List Binding → List (List ℕ)
names_asked request list = names_of request.bindings ++ names_of (drop (non_repeaters request) list)

-- the bindings of a repetition, counted from 0
abbrev pub repetition : Message → List Binding → ℕ → List Binding
repetition request list index = take (repeaters request) (drop (non_repeaters request + index * repeaters request) list)

-- A front of the list of a GetBulkRequest (RFC 1905, section 4.2.3): the binding at each place answers the name that is asked for
-- there, there are no more repetitions than max-repetitions, and none behind one that is wholly endOfMibView.
pub record IsBulkList (IsOne : List ℕ → Binding → Type 0) (request : Message) (list : List Binding) : Type 0 where
  pub answers : AreFirst IsOne (names_asked request list) list
  pub few : length list ≤ non_repeaters request + counting request.second * repeaters request
  pub goes_on : (index : ℕ) → non_repeaters request + (index + 1) * repeaters request < length list → are_end (repetition request list index) ≡ false

-- bindings of which a response carries the most that it can
pub record IsLongest (IsPart : List Binding → Type 0) (request : Message) (list : List Binding) : Type 0 where
  pub part : IsPart list
  pub short : size_with request list ≤ 1472
  pub longest : (more : List Binding) → IsPart (list ++ more) → size_with request (list ++ more) ≤ 1472 → more ≡ []

-- the bindings of the reply are as many from the front of the list as one response holds
abbrev pub IsBulkReply : (List ℕ → Binding → Type 0) → Message → Message → Type 0
IsBulkReply IsOne request reply = (list : List Binding) × IsLongest (IsBulkList IsOne request) request list × (reply ≡ carrying request list)

-- whether requests of a kind get a reply
abbrev pub is_built : Kind → Bool
is_built Get = true
is_built Next = true
is_built Bulk = true
is_built other = false

-- the reply to a request of a kind, by the variables that have a value and the objects that are answered
abbrev pub IsReplyOf : Cells → (List ℕ → Bool) → Kind → Message → Message → Type 0
IsReplyOf cells objects Get request reply = IsWholeReply (IsGetBinding cells objects) request reply
IsReplyOf cells objects Next request reply = IsWholeReply (IsNextBinding cells) request reply
IsReplyOf cells objects Bulk request reply = IsBulkReply (IsNextBinding cells) request reply
IsReplyOf cells objects other request reply = ⊥

-- The reply to a request. One with more than 128 bindings, of whatever kind, has none but tooBig; which requests are answered
-- at all is said elsewhere.
pub record IsReply (cells : Cells) (objects : List ℕ → Bool) (request : Message) (reply : Message) : Type 0 where
  pub few : length request.bindings ≤ 128 → IsReplyOf cells objects request.kind request reply
  pub many : 128 < length request.bindings → reply ≡ too_big request
