-- How a SetRequest is answered (RFC 1905, section 4.2.5). Which refusals there are, and their order, is said in docs/DECISIONS.md.
use Rattle.std.specs.Prelude.{◌≡◌, ◌≤◌, ℕ, Bool, ◌&&◌, ◌||◌, not, nat_lt, MatchBool, List, ◌∷◌, map, length, Option}
use Rattle.std.specs.Option.{option_or}
use Rattle.rm_val.specs.Val.{Val}
use Rattle.rm_val.specs.declared.error.ErrorStatus.{ErrorStatus}
use Rattle.rm_val.specs.declared.error.ErrorStatus.TheVariants.{NoError, NoAccess, ResourceUnavailable, NotWritable}
use Rattle.rm_model.specs.declared.verdict.Verdict.{Verdict}
use Rattle.rm_model.specs.declared.verdict.Verdict.TheVariants.{Fine, Wrong}
use Rattle.rm_model.specs.Journal.{Assignment, Journal, assigns}
use Rattle.rm_model.specs.Judgement.{Bindings, IsFirstFault, unless}
use Rattle.rm_model.specs.Accepted.{assignments_of}
use Rattle.rm_group.specs.Alone.{alone_at, AreFineAlone}
use Rattle.rm_pdu.specs.Message.{Binding, Message, message_octets}
use Rattle.rm_pdu.specs.Draft.{Drafted, drafted}
use Rattle.rm_group.specs.Assignments.{giving}
use Rattle.rm_reply.specs.Replies.{response_to, too_big}

-- what a binding of a request gives to its variable
abbrev pub given_by_one : Binding → Assignment
given_by_one binding = giving binding.name binding.value

-- what the bindings of a request give, in their order
abbrev pub given_by : List Binding → Bindings
given_by bindings = map given_by_one bindings

-- the response to a request with the request's own bindings, this error-status and this error-index
abbrev pub returning : Message → ErrorStatus → ℕ → Message
returning request status index = response_to request status index request.bindings

-- Whether there is too much to be returned: more than 128 bindings, or more than 1472 octets with an error-index of 128, with
-- which a response is longest.
abbrev pub is_too_much : Message → Bool
is_too_much request = nat_lt 128 (length request.bindings) || nat_lt 1472 (length (message_octets (returning request NoError 128)))

-- a draft is of the response with the request's own bindings that is longest, and that fits
pub record IsReturned (request : Message) (draft : Drafted) : Type 0 where
  pub is : draft ≡ drafted (returning request NoError 128)
  pub short : length (message_octets (returning request NoError 128)) ≤ 1472

-- whether a request gives a value to a variable, where its community may write or may not
abbrev pub is_barred : (may_write : Bool) → Message → Bool
is_barred may_write request = not may_write && nat_lt 0 (length request.bindings)

-- the response that tells a verdict
abbrev pub telling : Message → Verdict → Message
telling request Fine = returning request NoError 0
telling request (Wrong status index) = returning request status index

-- what is wrong with a binding alone, by which objects there are and what groups find wrong
abbrev pub alone_among : (objects : List ℕ → Bool) → (List ℕ → Val → Option ErrorStatus) → List ℕ → Val → Option ErrorStatus
alone_among objects alone name value = option_or (unless (objects name) NotWritable) (alone name value)

-- What a Set comes to that was judged at a moment after a journal: the first binding with which something is wrong alone;
-- else the first with which something is wrong together with others; else it may want for memory where it reserves storage; and
-- else it is accepted, and all its values act at once. A Set that is refused leaves the journal as it is.
pub data Judges (alone : List ℕ → Val → Option ErrorStatus) (together : Bindings → ℕ → Option ErrorStatus) (reserves : Bindings → ℕ → Type 0)
    (moment : ℕ) (journal : Journal) (bindings : Bindings) : Verdict → Journal → Type 0 where
  wrong_alone : (status : ErrorStatus) (index : ℕ) → IsFirstFault (length bindings) (alone_at alone bindings) (Wrong status index)
      → Judges alone together reserves moment journal bindings (Wrong status index) journal
  wrong_together : AreFineAlone alone bindings → (status : ErrorStatus) (index : ℕ) → IsFirstFault (length bindings) (together bindings) (Wrong status index)
      → Judges alone together reserves moment journal bindings (Wrong status index) journal
  lacking : AreFineAlone alone bindings → IsFirstFault (length bindings) (together bindings) Fine → (index : ℕ) → reserves bindings index
      → Judges alone together reserves moment journal bindings (Wrong ResourceUnavailable index) journal
  accepted : AreFineAlone alone bindings → IsFirstFault (length bindings) (together bindings) Fine
      → Judges alone together reserves moment journal bindings Fine (assigns moment (assignments_of bindings) ∷ journal)

-- The reply to a SetRequest, and the journal after it: tooBig where there is too much to be returned; else noAccess where the
-- community may not write; else what the Set comes to.
abbrev pub IsSetReply : (alone : List ℕ → Val → Option ErrorStatus) → (together : Bindings → ℕ → Option ErrorStatus) → (reserves : Bindings → ℕ → Type 0)
    → (may_write : Bool) → (moment : ℕ) → Journal → Message → Message → Journal → Type 0
IsSetReply alone together reserves may_write moment journal request reply after =
    MatchBool (is_too_much request) ((reply ≡ too_big request) × (after ≡ journal))
    (MatchBool (is_barred may_write request) ((reply ≡ returning request NoAccess 1) × (after ≡ journal))
    ((verdict : Verdict) × Judges alone together reserves moment journal (given_by request.bindings) verdict after × (reply ≡ telling request verdict)))
