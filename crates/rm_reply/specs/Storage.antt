-- What a request comes to by whether there is memory for the storage that it reserves.
use Rattle.std.specs.Prelude.{◌≡◌, ◌⊎◌, ℕ, Bool, List, Option}
use Rattle.rm_val.specs.Val.{Val}
use Rattle.rm_val.specs.declared.error.ErrorStatus.{ErrorStatus}
use Rattle.rm_val.specs.declared.error.ErrorStatus.TheVariants.{NoError, ResourceUnavailable}
use Rattle.rm_model.specs.Cells.{Cells}
use Rattle.rm_model.specs.Journal.{Journal}
use Rattle.rm_model.specs.Judgement.{Bindings}
use Rattle.rm_pdu.specs.declared.kind.Kind.TheVariants.{Set}
use Rattle.rm_pdu.specs.Message.{Message}
use Rattle.rm_reply.specs.Responses.{IsReplyBy}
use Rattle.rm_reply.specs.Sets.{given_by, returning}

-- no binding reserves storage
abbrev pub reserves_nothing : Bindings → ℕ → Type 0
reserves_nothing bindings index = ⊥

-- the reply to a request where there is memory for all that it reserves, and the journal after it
abbrev pub IsGrantedBy : Cells → (objects : List ℕ → Bool) → (alone : List ℕ → Val → Option ErrorStatus) → (together : Bindings → ℕ → Option ErrorStatus)
    → (may_write : Bool) → (moment : ℕ) → Journal → Message → Message → Journal → Type 0
IsGrantedBy cells objects alone together may_write moment journal request reply after =
    IsReplyBy cells objects alone together reserves_nothing may_write moment journal request.kind request reply after

-- A SetRequest that would be accepted is denied storage: the reply has its own bindings, resourceUnavailable, and the number of a
-- binding that reserves storage.
pub record IsDenied (reserves : Bindings → ℕ → Type 0) (request granted reply : Message) : Type 0 where
  pub is_set : request.kind ≡ Set
  pub accepted : granted ≡ returning request NoError 0
  pub index : ℕ
  pub reserved : reserves (given_by request.bindings) index
  pub tells : reply ≡ returning request ResourceUnavailable index

-- What a request comes to after a journal. It has one reply where there is memory for all that it reserves. It gets that one, and the
-- journal after it is stood for; or it is denied storage, and the journal is stood for as it was.
pub record IsGrantedOrDenied (IsGranted : Message → Journal → Type 0) (reserves : Bindings → ℕ → Type 0) (journal : Journal) (request reply : Message)
    (stands : Journal → Type 0) : Type 0 where
  pub granted : Message
  pub after : Journal
  pub is_granted : IsGranted granted after
  pub only : (other : Message) (later : Journal) → IsGranted other later → (other ≡ granted) × (later ≡ after)
  pub comes : ((reply ≡ granted) × stands after) ⊎ (IsDenied reserves request granted reply × stands journal)
