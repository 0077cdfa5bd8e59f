-- A reply is the one that its request has where there is memory for all that it reserves, or it denies a SetRequest storage.
use Rattle.std.proofs.Common.{◌≡◌, ℕ, Bool, true, false, List, ◌∷◌, Option, ◌⊎◌, inl, inr, refl, sym, subst}
use Rattle.std.specs.Prelude.{MatchBool}
use Rattle.rm_val.specs.Val.{Val}
use Rattle.rm_val.specs.declared.error.ErrorStatus.{ErrorStatus}
use Rattle.rm_val.specs.declared.error.ErrorStatus.TheVariants.{NoError, NoAccess}
use Rattle.rm_model.specs.declared.verdict.Verdict.{Verdict}
use Rattle.rm_model.specs.declared.verdict.Verdict.TheVariants.{Fine, Wrong}
use Rattle.rm_model.specs.Accepted.{assignments_of}
use Rattle.rm_model.specs.Cells.{Cells}
use Rattle.rm_model.specs.Journal.{Journal, assigns}
use Rattle.rm_model.specs.Judgement.{Bindings}
use Rattle.rm_pdu.specs.declared.kind.Kind.{Kind}
use Rattle.rm_pdu.specs.declared.kind.Kind.TheVariants.{Get, Next, Response, Set, Bulk, Inform, Trap, Report}
use Rattle.rm_pdu.specs.Message.{Message}
use Rattle.rm_reply.specs.Replies.{too_big}
use Rattle.rm_reply.specs.Responses.{IsReplyBy}
use Rattle.rm_reply.specs.Sets.{Judges, wrong_alone, wrong_together, lacking, accepted, alone_among, given_by, returning, telling, is_too_much, is_barred}
use Rattle.rm_reply.specs.Storage.{reserves_nothing, IsGrantedBy, IsDenied, IsGrantedOrDenied}
use Rattle.rm_reply.proofs.OneReply.{request_one}

module _ (cells : Cells) (objects : List ℕ → Bool) (alone : List ℕ → Val → Option ErrorStatus) (together : Bindings → ℕ → Option ErrorStatus)
    (reserves : Bindings → ℕ → Type 0) (may_write : Bool) (moment : ℕ) (journal : Journal) (request reply : Message) where
  -- some reply is granted, and what came is that one or denies it
  abbrev Comes : (Message → Journal → Type 0) → Journal → Type 0
  Comes IsGranted after =
      (granted : Message) × (later : Journal) × IsGranted granted later
      × (((reply ≡ granted) × (later ≡ after)) ⊎ (IsDenied reserves request granted reply × (journal ≡ after)))

  abbrev JudgesBy : (Bindings → ℕ → Type 0) → Verdict → Journal → Type 0
  JudgesBy needs verdict after = Judges (alone_among objects alone) together needs moment journal (given_by request.bindings) verdict after

  abbrev IsVerdict : (Bindings → ℕ → Type 0) → Message → Journal → Type 0
  IsVerdict needs told after = (verdict : Verdict) × JudgesBy needs verdict after × (told ≡ telling request verdict)

  abbrev IsTold : (Bindings → ℕ → Type 0) → Bool → Bool → Message → Journal → Type 0
  IsTold needs much barred told after =
      MatchBool much ((told ≡ too_big request) × (after ≡ journal))
      (MatchBool barred ((told ≡ returning request NoAccess 1) × (after ≡ journal)) (IsVerdict needs told after))

  of_verdict : request.kind ≡ Set → (verdict : Verdict) (after : Journal) → JudgesBy reserves verdict after → reply ≡ telling request verdict → Comes (IsVerdict reserves_nothing) after
  of_verdict is_set verdict after (wrong_alone status index first) is =
      (reply, journal, (Wrong status index, wrong_alone status index first, is), inl (refl, refl))
  of_verdict is_set verdict after (wrong_together fine status index first) is =
      (reply, journal, (Wrong status index, wrong_together fine status index first, is), inl (refl, refl))
  of_verdict is_set verdict after (accepted fine beside) is =
      (reply, assigns moment (assignments_of (given_by request.bindings)) ∷ journal, (Fine, accepted fine beside, is), inl (refl, refl))
  of_verdict is_set verdict after (lacking fine beside number needed) is = (
    returning request NoError 0,
    assigns moment (assignments_of (given_by request.bindings)) ∷ journal,
    (Fine, accepted fine beside, refl),
    inr (record { is_set = is_set; accepted = refl; index = number; reserved = needed; tells = is }, refl),
  )

  of_set : request.kind ≡ Set → (much barred : Bool) (after : Journal) → IsTold reserves much barred reply after → Comes (IsTold reserves_nothing much barred) after
  of_set is_set true barred after is = (reply, after, is, inl (refl, refl))
  of_set is_set false true after is = (reply, after, is, inl (refl, refl))
  of_set is_set false false after (verdict, judges, is) = of_verdict is_set verdict after judges is

  of_kind : (kind : Kind) → request.kind ≡ kind → (after : Journal) → IsReplyBy cells objects alone together reserves may_write moment journal kind request reply after
      → Comes (IsReplyBy cells objects alone together reserves_nothing may_write moment journal kind request) after
  of_kind Set is_set after is = of_set is_set (is_too_much request) (is_barred may_write request) after is
  of_kind Get other after is = (reply, after, is, inl (refl, refl))
  of_kind Next other after is = (reply, after, is, inl (refl, refl))
  of_kind Bulk other after is = (reply, after, is, inl (refl, refl))
  of_kind Response other after is = (reply, after, is, inl (refl, refl))
  of_kind Inform other after is = (reply, after, is, inl (refl, refl))
  of_kind Trap other after is = (reply, after, is, inl (refl, refl))
  of_kind Report other after is = (reply, after, is, inl (refl, refl))

  -- a reply is granted, or denied
  pub of_reply : (after : Journal) → IsReplyBy cells objects alone together reserves may_write moment journal request.kind request reply after
      → IsGrantedOrDenied (IsGrantedBy cells objects alone together may_write moment journal request) reserves journal request reply (λ later. later ≡ after)
  of_reply after is =
      let (granted, later, by, comes) = of_kind request.kind refl after is in
      record {
        granted = granted;
        after = later;
        is_granted = by;
        only = λ other end also. request_one cells objects alone together reserves_nothing may_write moment journal request other granted end later (λ sets index never. never) request.kind refl also by;
        comes = comes;
      }

-- what is stood for is the journal after the reply, or the journal as it was
pub stood_for : (IsGranted : Message → Journal → Type 0) (reserves : Bindings → ℕ → Type 0) (journal : Journal) (request reply : Message) (after : Journal) (stands : Journal → Type 0) → stands after
    → IsGrantedOrDenied IsGranted reserves journal request reply (λ later. later ≡ after) → IsGrantedOrDenied IsGranted reserves journal request reply stands
stood_for IsGranted reserves journal request reply after stands stood it =
    record {
      granted = it.granted;
      after = it.after;
      is_granted = it.is_granted;
      only = it.only;
      comes = elim it.comes [
        | inl (same, is) ↦ inl (same, subst stands (sym is) stood)
        | inr (denied, is) ↦ inr (denied, subst stands (sym is) stood)
      ];
    }
