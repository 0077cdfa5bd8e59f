-- A Set comes to one thing, and to something.
use Rattle.std.proofs.Common.{◌≡◌, ◌+◌, ◌≤◌, ℕ, zero, suc, Bool, true, false, List, ◌∷◌, length, Option, Some, None, inl, inr, refl, sym, ap, subst, ◌∙◌, arith}
use Rattle.std.specs.Prelude.{MatchBool}
use Rattle.std.proofs.lemmas.Bool.{cases_lt}
use Rattle.rm_val.specs.Val.{Val}
use Rattle.rm_val.specs.declared.error.ErrorStatus.{ErrorStatus}
use Rattle.rm_val.specs.declared.error.ErrorStatus.TheVariants.{NoAccess}
use Rattle.rm_model.specs.declared.verdict.Verdict.{Verdict}
use Rattle.rm_model.specs.declared.verdict.Verdict.TheVariants.{Fine, Wrong}
use Rattle.rm_model.specs.Journal.{Journal, last_moment, assigns}
use Rattle.rm_model.specs.Judgement.{Bindings, IsFirstFault}
use Rattle.rm_model.specs.Accepted.{assignments_of}
use Rattle.rm_group.specs.Alone.{alone_at}
use Rattle.rm_pdu.specs.Message.{Message}
use Rattle.rm_reply.specs.Replies.{too_big}
use Rattle.rm_reply.specs.Sets.{given_by, returning, telling, is_too_much, is_barred, Judges, wrong_alone, wrong_together, lacking, accepted, IsSetReply}

-- of the faults at some places there is one verdict
pub fault_once : (n : ℕ) (fault : ℕ → Option ErrorStatus) (v w : Verdict) → IsFirstFault n fault v → IsFirstFault n fault w → v ≡ w
fault_once n fault Fine Fine p q = refl
fault_once n fault Fine (Wrong s i) p (place, within, is, here, before) = let none : fault place ≡ None = p place within in absurd cc
fault_once n fault (Wrong s i) Fine (place, within, is, here, before) q = let none : fault place ≡ None = q place within in absurd cc
fault_once n fault (Wrong s i) (Wrong t j) (place, within, is, here, before) (other, within', is', here', before') =
    elim (cases_lt place other) [
      | inl less ↦ let none : fault place ≡ None = before' place less in absurd cc
      | inr least ↦ elim (cases_lt other place) [
        | inl less ↦ let none : fault other ≡ None = before other less in absurd cc
        | inr most ↦
            let same : place ≡ other = omega arith in
            let one : Some s ≡ Some t = sym here ∙ ap fault same ∙ here' in
            let status : s ≡ t = cc in
            let index : i ≡ j = is ∙ ap (λ k. k + 1) same ∙ sym is' in
            ap (λ x. Wrong x i) status ∙ ap (λ k. Wrong t k) index
      ]
    ]

-- and there is one
pub fault_some : (n : ℕ) (fault : ℕ → Option ErrorStatus) → (v : Verdict) × IsFirstFault n fault v
fault_some zero fault = (Fine, λ place less. absurd (omega arith))
fault_some (suc n) fault = let (v, is) = fault_some n fault in goes_on v is
  where
    goes_on : (v : Verdict) → IsFirstFault n fault v → (w : Verdict) × IsFirstFault (suc n) fault w
    goes_on (Wrong s i) (place, within, is, here, before) = (Wrong s i, (place, omega arith, is, here, before))
    goes_on Fine none =
        elim (fault n) as (λ o. fault n ≡ o → (w : Verdict) × IsFirstFault (suc n) fault w) [
          | None ↦ λ here. (
            Fine,
            λ place less. elim (cases_lt place n) as (λ _. fault place ≡ None) [
              | inl below ↦ none place below
              | inr above ↦ let same : place ≡ n = omega arith in ap fault same ∙ here
            ],
          )
          | Some s ↦ λ here. (Wrong s (n + 1), (n, omega arith, refl, here, none))
        ] refl

module _ (alone : List ℕ → Val → Option ErrorStatus) (together : Bindings → ℕ → Option ErrorStatus) (reserves : Bindings → ℕ → Type 0) (moment : ℕ) (journal : Journal) where
  abbrev JudgesTo : Bindings → Verdict → Journal → Type 0
  JudgesTo bindings verdict after = Judges alone together reserves moment journal bindings verdict after

  fine_not_wrong : (n : ℕ) (fault : ℕ → Option ErrorStatus) (s : ErrorStatus) (i : ℕ) → IsFirstFault n fault Fine → IsFirstFault n fault (Wrong s i) → ⊥
  fine_not_wrong n fault s i p q = let e : Fine ≡ Wrong s i = fault_once n fault Fine (Wrong s i) p q in cc

  -- a Set that reserves nothing comes to one thing
  pub judges_once : (bindings : Bindings) → ((index : ℕ) → reserves bindings index → ⊥) → (v w : Verdict) (after later : Journal) → JudgesTo bindings v after → JudgesTo bindings w later
      → (v ≡ w) × (after ≡ later)
  judges_once bindings nothing v w after later (wrong_alone s i p) (wrong_alone t j q) = (fault_once (length bindings) (alone_at alone bindings) (Wrong s i) (Wrong t j) p q, refl)
  judges_once bindings nothing v w after later (wrong_alone s i p) (wrong_together fine t j q) = absurd (fine_not_wrong (length bindings) (alone_at alone bindings) s i fine p)
  judges_once bindings nothing v w after later (wrong_alone s i p) (lacking fine beside k q) = absurd (nothing k q)
  judges_once bindings nothing v w after later (wrong_alone s i p) (accepted fine beside) = absurd (fine_not_wrong (length bindings) (alone_at alone bindings) s i fine p)
  judges_once bindings nothing v w after later (wrong_together fine s i p) (wrong_alone t j q) = absurd (fine_not_wrong (length bindings) (alone_at alone bindings) t j fine q)
  judges_once bindings nothing v w after later (wrong_together fine s i p) (wrong_together fine' t j q) = (fault_once (length bindings) (together bindings) (Wrong s i) (Wrong t j) p q, refl)
  judges_once bindings nothing v w after later (wrong_together fine s i p) (lacking fine' beside k q) = absurd (nothing k q)
  judges_once bindings nothing v w after later (wrong_together fine s i p) (accepted fine' beside) = absurd (fine_not_wrong (length bindings) (together bindings) s i beside p)
  judges_once bindings nothing v w after later (lacking fine beside k p) q = absurd (nothing k p)
  judges_once bindings nothing v w after later (accepted fine beside) (wrong_alone t j q) = absurd (fine_not_wrong (length bindings) (alone_at alone bindings) t j fine q)
  judges_once bindings nothing v w after later (accepted fine beside) (wrong_together fine' t j q) = absurd (fine_not_wrong (length bindings) (together bindings) t j beside q)
  judges_once bindings nothing v w after later (accepted fine beside) (lacking fine' beside' k q) = absurd (nothing k q)
  judges_once bindings nothing v w after later (accepted fine beside) (accepted fine' beside') = (refl, refl)

  -- a Set comes to something
  pub judges_some : (bindings : Bindings) → (v : Verdict) × (after : Journal) × JudgesTo bindings v after
  judges_some bindings =
      let (v, is) = fault_some (length bindings) (alone_at alone bindings) in
      let (w, is') = fault_some (length bindings) (together bindings) in
      of_both v w is is'
    where
      of_both : (v w : Verdict) → IsFirstFault (length bindings) (alone_at alone bindings) v → IsFirstFault (length bindings) (together bindings) w → (x : Verdict) × (after : Journal) × JudgesTo bindings x after
      of_both (Wrong s i) w p q = (Wrong s i, journal, wrong_alone s i p)
      of_both Fine (Wrong s i) p q = (Wrong s i, journal, wrong_together p s i q)
      of_both Fine Fine p q = (Fine, assigns moment (assignments_of bindings) ∷ journal, accepted p q)

  -- the journal after it ends at its moment, or where it ended
  judges_moment : (bindings : Bindings) (v : Verdict) (after : Journal) → JudgesTo bindings v after → last_moment journal ≤ moment → last_moment after ≤ moment
  judges_moment bindings v after (wrong_alone s i p) later = later
  judges_moment bindings v after (wrong_together fine s i p) later = later
  judges_moment bindings v after (lacking fine beside k p) later = later
  judges_moment bindings v after (accepted fine beside) later = omega arith

  module _ (may_write : Bool) (request : Message) where
    abbrev IsReplyTo : Bool → Bool → Message → Journal → Type 0
    IsReplyTo much barred reply after =
        MatchBool much ((reply ≡ too_big request) × (after ≡ journal))
        (MatchBool barred ((reply ≡ returning request NoAccess 1) × (after ≡ journal))
        ((verdict : Verdict) × JudgesTo (given_by request.bindings) verdict after × (reply ≡ telling request verdict)))

    pub set_moment : (reply : Message) (after : Journal) → IsSetReply alone together reserves may_write moment journal request reply after → last_moment journal ≤ moment → last_moment after ≤ moment
    set_moment reply after is later = of_tests (is_too_much request) (is_barred may_write request) is
      where
        of_tests : (much barred : Bool) → IsReplyTo much barred reply after → last_moment after ≤ moment
        of_tests true barred (is, stays) = subst (λ (j : Journal). last_moment j ≤ moment) (sym stays) later
        of_tests false true (is, stays) = subst (λ (j : Journal). last_moment j ≤ moment) (sym stays) later
        of_tests false false (verdict, judges, is) = judges_moment (given_by request.bindings) verdict after judges later

    -- a SetRequest that reserves nothing has one reply
    pub set_once : ((index : ℕ) → reserves (given_by request.bindings) index → ⊥) → (a b : Message) (after later : Journal) → IsSetReply alone together reserves may_write moment journal request a after
        → IsSetReply alone together reserves may_write moment journal request b later → (a ≡ b) × (after ≡ later)
    set_once nothing a b after later = of_tests (is_too_much request) (is_barred may_write request)
      where
        of_tests : (much barred : Bool) → IsReplyTo much barred a after → IsReplyTo much barred b later → (a ≡ b) × (after ≡ later)
        of_tests true barred (is, stays) (is', stays') = (is ∙ sym is', stays ∙ sym stays')
        of_tests false true (is, stays) (is', stays') = (is ∙ sym is', stays ∙ sym stays')
        of_tests false false (v, judges, is) (w, judges', is') =
            let (same, one) = judges_once (given_by request.bindings) nothing v w after later judges judges' in
            (is ∙ ap (telling request) same ∙ sym is', one)

    -- a SetRequest has a reply
    pub set_some : (reply : Message) × (after : Journal) × IsSetReply alone together reserves may_write moment journal request reply after
    set_some = of_tests (is_too_much request) (is_barred may_write request)
      where
        of_tests : (much barred : Bool) → (reply : Message) × (after : Journal) × IsReplyTo much barred reply after
        of_tests true barred = (too_big request, journal, (refl, refl))
        of_tests false true = (returning request NoAccess 1, journal, (refl, refl))
        of_tests false false =
            let (v, after, judges) = judges_some (given_by request.bindings) in
            (telling request v, after, (v, judges, refl))
