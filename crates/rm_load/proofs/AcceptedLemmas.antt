-- Both Sets of a load are accepted, whatever is answered.
use Rattle.std.proofs.Common.{◌≡◌, ℕ, ◌≤◌, ◌+◌, ◌*◌, List, [], length, Bool, true, false, ◌||◌, Some, None, refl, sym, ap, subst, ◌∙◌, le-ltb, arith}
use Rattle.std.specs.Prelude.{ℤ, bytes_eq}
use Rattle.std.specs.List.{sum_by}
use Rattle.std.proofs.lemmas.Slice.Eq.{bytes_eq-Decides}
use Rattle.rm_val.specs.Val.{int}
use Rattle.rm_val.specs.declared.error.ErrorStatus.TheVariants.{NoError}
use Rattle.rm_model.specs.Journal.{Journal}
use Rattle.rm_model.specs.declared.verdict.Verdict.TheVariants.{Fine}
use Rattle.rm_pdu.specs.Draft.{binding_of, IsWritable}
use Rattle.rm_pdu.specs.Message.{Message, binding_octets, message_octets}
use Rattle.rm_pdu.specs.Parse.{Parse, message, IsParse}
use Rattle.rm_pdu.specs.Spells.{Spells}
use Rattle.rm_pdu.specs.declared.kind.Kind.TheVariants.{Set}
use Rattle.rm_reply.specs.Sets.{alone_among, given_by, is_barred, returning, accepted}
use Rattle.rm_reply.proofs.SetLemmas.{told}
use Rattle.rm_settings.specs.Communities.{may_write}
use Rattle.rm_settings.specs.declared.settings.Settings.{Settings}
use Rattle.rm_agent.specs.Answers.{reason_for, IsReplyAfter}
use Rattle.rm_agent.specs.Groups.{objects, alone, together, Reserves}
use Rattle.rm_probe.specs.Probe.{Stands}
use Rattle.rm_probe.specs.Said.{Response}
use Rattle.rm_probe.specs.Text.{IsAnswered, dropped, replied}
use Rattle.rm_probe.specs.declared.probe.Probe.{Probe}
use Rattle.rm_load.specs.Acts.{rows_made}
use Rattle.rm_load.specs.Sets.{first_statuses, first_set, second_statuses, second_set, set_request}
use Rattle.rm_load.specs.Steps.{HasAnswered}
use Rattle.rm_load.proofs.QuietLemmas.{none_at_first, quiet}
use Rattle.rm_load.proofs.RequestLemmas.{statuses_fit}
use Rattle.rm_load.proofs.SetLemmas.{first_made, first_alone, first_together, first_reserves_none, second_alone, second_together, second_reserves_none}
use Rattle.rm_load.proofs.WritableLemmas.{first_parse, second_parse}

itself : (octets : List ℕ) → bytes_eq octets octets ≡ true
itself octets = (bytes_eq-Decides octets octets).1 refl

or_true : (a b : Bool) → b ≡ true → (a || b) ≡ true
or_true true b is = refl
or_true false b is = is

-- a request of the write community is answered
answered : (settings : Settings) (request : Message) → request.community ≡ settings.write.items → reason_for settings (message request) ≡ None
answered settings request is =
    let known : (bytes_eq request.community settings.read.items || bytes_eq request.community settings.write.items) ≡ true =
    or_true (bytes_eq request.community settings.read.items) _ (ap (λ (octets : List ℕ). bytes_eq octets settings.write.items) is ∙ itself settings.write.items) in
    rw known refl

-- The octets of a request of the write community are answered by one reply. Where it reserves nothing, it leaves one journal.
module _ (settings : Settings) (journal ready : Journal) (moment : ℕ) (request : Message)
    (one_parse : (requests : Bool) (bytes : List ℕ) (v w : Parse) → IsParse requests bytes v → IsParse requests bytes w → v ≡ w)
    (one_reply : (settings : Settings) (journal : Journal) (now : ℕ) (request a b : Message) (after later : Journal)
    → (request.kind ≡ Set → (index : ℕ) → Reserves journal (given_by request.bindings) index → ⊥)
    → IsReplyAfter settings journal now request a after → IsReplyAfter settings journal now request b later → (a ≡ b) × (after ≡ later))
    (parse : IsParse true (message_octets request) (message request))
    (community : request.community ≡ settings.write.items)
    (reserves_none : (index : ℕ) → Reserves journal (given_by request.bindings) index → ⊥)
    (reply : Message)
    (accepts : IsReplyAfter settings journal moment request reply ready) where
  pub one_after : (response : Response) (after : Journal) → IsAnswered settings journal moment (message_octets request) response after → after ≡ ready
  one_after response after (dropped v reason is why says stays) =
      let same : v ≡ message request = one_parse true (message_octets request) v (message request) is parse in
      let e : Some reason ≡ None = sym why ∙ ap (reason_for settings) same ∙ answered settings request community in
      absurd (cc)
  one_after response after (replied asked other is why replies says) =
      let same : message asked ≡ message request = one_parse true (message_octets request) (message asked) (message request) is parse in
      let requests : asked ≡ request = cc in
      let (once, stays) = one_reply settings journal moment request other reply after ready (λ kind index reserves. reserves_none index reserves)
      (subst (λ (r : Message). IsReplyAfter settings journal moment r other after) requests replies) accepts in
      stays

-- the requests
abbrev pub first_message : Settings → Message
first_message settings = set_request settings.write.items 1 first_set

abbrev pub second_message : Settings → Message
second_message settings = set_request settings.write.items 2 second_set

may_give : (settings : Settings) (request : Message) → request.community ≡ settings.write.items → is_barred (may_write settings request.community) request ≡ false
may_give settings request is =
    let may : bytes_eq request.community settings.write.items ≡ true = ap (λ (octets : List ℕ). bytes_eq octets settings.write.items) is ∙ itself settings.write.items in
    rw may refl

-- what may be told of them
first_accepts : (settings : Settings) → length (message_octets (returning (first_message settings) NoError 128)) ≤ 1472
    → IsReplyAfter settings [] 100 (first_message settings) (returning (first_message settings) NoError 0) first_made
first_accepts settings fits =
    told (alone_among objects alone) (together settings [] 100) (Reserves []) (may_write settings settings.write.items) 100 [] (first_message settings) (le-ltb 1472 _ fits) Fine first_made
    (may_give settings (first_message settings) refl) (accepted first_alone (first_together settings))

second_accepts : (settings : Settings) → length (message_octets (returning (second_message settings) NoError 128)) ≤ 1472
    → IsReplyAfter settings first_made 200 (second_message settings) (returning (second_message settings) NoError 0) rows_made
second_accepts settings fits =
    told (alone_among objects alone) (together settings first_made 200) (Reserves first_made) (may_write settings settings.write.items) 200 first_made (second_message settings) (le-ltb 1472 _ fits) Fine rows_made
    (may_give settings (second_message settings) refl) (accepted second_alone (second_together settings))

-- so a probe stands for the journal with them in front
module _ (settings : Settings)
    (one_parse : (requests : Bool) (bytes : List ℕ) (v w : Parse) → IsParse requests bytes v → IsParse requests bytes w → v ≡ w)
    (one_reply : (settings : Settings) (journal : Journal) (now : ℕ) (request a b : Message) (after later : Journal)
    → (request.kind ≡ Set → (index : ℕ) → Reserves journal (given_by request.bindings) index → ⊥)
    → IsReplyAfter settings journal now request a after → IsReplyAfter settings journal now request b later → (a ≡ b) × (after ≡ later))
    (adds : (m : Message) → length m.community ≤ 127 → length (message_octets m) ≤ 191 + sum_by (λ binding. length (binding_octets binding)) m.bindings)
    (numbers : (name : List ℕ) (z : ℤ) → length (binding_octets (binding_of name (int z))) ≤ 5 * length name + 23)
    (reads_back : (m : Message) → IsWritable m → Spells (message_octets m) m) where
  short : length settings.write.items ≤ 127
  short = let most = settings.write_high in omega (arith, most)

  pub first_taken : (probe : Probe) → HasAnswered settings [] 100 (first_message settings) probe → Stands probe first_made
  first_taken probe is =
      let ready : is.ready ≡ [] = quiet settings 100 [] is.notes is.ready none_at_first is.advanced in
      let told_of = subst (λ (journal : Journal). IsAnswered settings journal 100 (message_octets (first_message settings)) is.response is.after) ready is.answered in
      let after =
      one_after settings [] first_made 100 (first_message settings) one_parse one_reply (first_parse settings.write.items short adds numbers reads_back) refl first_reserves_none
      (returning (first_message settings) NoError 0) (first_accepts settings (statuses_fit adds numbers first_statuses (omega arith) (returning (first_message settings) NoError 128) short refl)) is.response is.after told_of in
      subst (Stands probe) after is.stands

  pub second_taken : (probe : Probe) → HasAnswered settings first_made 200 (second_message settings) probe → Stands probe rows_made
  second_taken probe is =
      let ready : is.ready ≡ first_made = quiet settings 200 first_made is.notes is.ready (λ alarm. refl) is.advanced in
      let told_of = subst (λ (journal : Journal). IsAnswered settings journal 200 (message_octets (second_message settings)) is.response is.after) ready is.answered in
      let after =
      one_after settings first_made rows_made 200 (second_message settings) one_parse one_reply (second_parse settings.write.items short adds numbers reads_back) refl second_reserves_none
      (returning (second_message settings) NoError 0) (second_accepts settings (statuses_fit adds numbers second_statuses (omega arith) (returning (second_message settings) NoError 128) short refl)) is.response is.after told_of in
      subst (Stands probe) after is.stands
