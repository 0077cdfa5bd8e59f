-- The response to a request of any kind.
use Rattle.std.specs.Prelude.{◌≡◌, ℕ, Bool, List, Option}
use Rattle.rm_val.specs.Val.{Val}
use Rattle.rm_val.specs.declared.error.ErrorStatus.{ErrorStatus}
use Rattle.rm_model.specs.Cells.{Cells}
use Rattle.rm_model.specs.Journal.{Journal}
use Rattle.rm_model.specs.Judgement.{Bindings}
use Rattle.rm_pdu.specs.declared.kind.Kind.{Kind}
use Rattle.rm_pdu.specs.declared.kind.Kind.TheVariants.{Set}
use Rattle.rm_pdu.specs.Message.{Message}
use Rattle.rm_reply.specs.Replies.{IsReply}
use Rattle.rm_reply.specs.Sets.{alone_among, IsSetReply}

-- The reply to a request of a kind, and the journal after it, by what groups answer and how they judge a Set. Only a SetRequest
-- makes the journal longer.
abbrev pub IsReplyBy : Cells → (objects : List ℕ → Bool) → (alone : List ℕ → Val → Option ErrorStatus) → (together : Bindings → ℕ → Option ErrorStatus)
    → (reserves : Bindings → ℕ → Type 0) → (may_write : Bool) → (moment : ℕ) → Journal → Kind → Message → Message → Journal → Type 0
IsReplyBy cells objects alone together reserves may_write moment journal Set request reply after =
    IsSetReply (alone_among objects alone) together reserves may_write moment journal request reply after
IsReplyBy cells objects alone together reserves may_write moment journal kind request reply after =
    IsReply cells objects request reply × (after ≡ journal)
