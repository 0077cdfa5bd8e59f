-- What a reply leaves: the journal, or the journal with an accepted Set in front.
use Rattle.std.proofs.Common.{◌≡◌, ℕ, List, ◌∷◌, length, Bool, true, false, Option, sym, subst}
use Rattle.std.specs.Prelude.{MatchBool}
use Rattle.rm_val.specs.Val.{Val}
use Rattle.rm_val.specs.declared.error.ErrorStatus.{ErrorStatus}
use Rattle.rm_val.specs.declared.error.ErrorStatus.TheVariants.{NoAccess}
use Rattle.rm_model.specs.Accepted.{assignments_of}
use Rattle.rm_model.specs.Cells.{Cells}
use Rattle.rm_model.specs.Journal.{Journal, assigns}
use Rattle.rm_model.specs.Judgement.{Bindings, IsFirstFault}
use Rattle.rm_model.specs.declared.verdict.Verdict.{Verdict}
use Rattle.rm_model.specs.declared.verdict.Verdict.TheVariants.{Fine}
use Rattle.rm_group.specs.Alone.{AreFineAlone}
use Rattle.rm_pdu.specs.Message.{Message}
use Rattle.rm_pdu.specs.declared.kind.Kind.{Kind}
use Rattle.rm_pdu.specs.declared.kind.Kind.TheVariants.{Get, Next, Response, Set, Bulk, Inform, Trap, Report}
use Rattle.rm_reply.specs.Replies.{too_big}
use Rattle.rm_reply.specs.Responses.{IsReplyBy}
use Rattle.rm_reply.specs.Sets.{Judges, wrong_alone, wrong_together, lacking, accepted, alone_among, given_by, returning, telling, is_too_much, is_barred}

-- what holds of the journal, and of it with each accepted Set in front, holds of the journal after a reply
module _ (cells : Cells) (objects : List ℕ → Bool) (alone : List ℕ → Val → Option ErrorStatus) (together : Bindings → ℕ → Option ErrorStatus) (reserves : Bindings → ℕ → Type 0) (moment : ℕ)
    (journal : Journal) (P : Journal → Type 0) (stays : P journal)
    (accepts : (bindings : Bindings) → AreFineAlone (alone_among objects alone) bindings → IsFirstFault (length bindings) (together bindings) Fine → P (assigns moment (assignments_of bindings) ∷ journal)) where
  after_same : (after : Journal) → after ≡ journal → P after
  after_same after same = subst P (sym same) stays

  abbrev JudgesTo : Bindings → Verdict → Journal → Type 0
  JudgesTo bindings verdict after = Judges (alone_among objects alone) together reserves moment journal bindings verdict after

  after_judged : (bindings : Bindings) (verdict : Verdict) (after : Journal) → JudgesTo bindings verdict after → P after
  after_judged bindings verdict after (wrong_alone status index first) = stays
  after_judged bindings verdict after (wrong_together fine status index first) = stays
  after_judged bindings verdict after (lacking fine first index reserved) = stays
  after_judged bindings verdict after (accepted fine first) = accepts bindings fine first

  after_set : (much barred : Bool) (request reply : Message) (after : Journal)
      → MatchBool much ((reply ≡ too_big request) × (after ≡ journal)) (MatchBool barred ((reply ≡ returning request NoAccess 1) × (after ≡ journal)) ((v : Verdict) × JudgesTo (given_by request.bindings) v after × (reply ≡ telling request v)))
      → P after
  after_set true barred request reply after is = after_same after is.1
  after_set false true request reply after is = after_same after is.1
  after_set false false request reply after is = after_judged (given_by request.bindings) is.0 after is.1

  pub leaves : (may_write : Bool) (kind : Kind) (request reply : Message) (after : Journal) → IsReplyBy cells objects alone together reserves may_write moment journal kind request reply after → P after
  leaves may_write Set request reply after is = after_set (is_too_much request) (is_barred may_write request) request reply after is
  leaves may_write Get request reply after is = after_same after is.1
  leaves may_write Next request reply after is = after_same after is.1
  leaves may_write Response request reply after is = after_same after is.1
  leaves may_write Bulk request reply after is = after_same after is.1
  leaves may_write Inform request reply after is = after_same after is.1
  leaves may_write Trap request reply after is = after_same after is.1
  leaves may_write Report request reply after is = after_same after is.1
