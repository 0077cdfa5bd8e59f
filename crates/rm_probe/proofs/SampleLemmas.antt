-- What is handled that falls due up to a moment.
use Rattle.std.proofs.Common.{◌≡◌, inl, inr, ℕ, ◌≤◌, List, [], ◌∷◌, ◌++◌, length, map, take, Option, Some, None, refl, sym, ap, subst, ◌∙◌, append_assoc}
use Rattle.std.proofs.lemmas.List.{append-nil}
use mathlib.Core.List.{map-append}
use Rattle.rm_model.specs.Journal.{Journal}
use Rattle.rm_acts.specs.Alarms.{due_of, IsNextDue}
use Rattle.rm_pdu.specs.Message.{Message, message_octets}
use Rattle.rm_settings.specs.declared.settings.Settings.{Settings}
use Rattle.rm_agent.specs.Orderly.{NoneIsDue}
use Rattle.rm_agent.specs.Dues.{FallsDue}
use Rattle.rm_agent.specs.Known.{counting_by}
use Rattle.rm_agent.specs.Notifications.{notification_of}
use Rattle.rm_agent.specs.Agent.{sample_of, HasHandled, HasSampled, IsWritten}
use Rattle.rm_agent.specs.Advance.{sent_at, notifications_of, none_due, one_due}
use Rattle.rm_probe.specs.Advance.{note_of, notes_of, IsAdvanced}
use Rattle.rm_probe.specs.Notes.{Note}
use Rattle.rm_probe.specs.Said.{Said, Notified, SaysMore}
use Rattle.rm_probe.specs.Probe.{settings_of, last_given, frames_given, Stands, IsHandled, ends, samples}
use Rattle.rm_probe.specs.declared.probe.Probe.{Probe}

in_some : {A : Type 0} (x y : A) → ◌≡◌ {A = Option A} (Some x) (Some y) → x ≡ y
in_some x y e = cc

none_some : {A : Type 0} (o : Option A) (x : A) → o ≡ None → o ≡ Some x → ⊥
none_some o x e f = cc

-- what was written of the notification, if there is one
notified : (notification : Option Message) (result : Option ℕ) (count moment : ℕ) (out : List ℕ) → result ≡ Some count → IsWritten notification result out → record { moment = moment; message = take count out } ∷ [] ≡ map note_of (sent_at moment notification)
notified None result count moment out same is = absurd (none_some result count is same)
notified (Some message) result count moment out same is =
    let long : count ≡ length (message_octets message) = in_some _ _ (sym same ∙ is.0) in
    let octets : take count out ≡ message_octets message = ap (λ (n : ℕ). take n out) long ∙ is.1 in
    ap (λ (octets : List ℕ). record { moment = moment; message = octets } ∷ []) octets

not_notified : (notification : Option Message) (result : Option ℕ) (moment : ℕ) (out : List ℕ) → result ≡ None → IsWritten notification result out → [] ≡ map note_of (sent_at moment notification)
not_notified None result moment out same is = refl
not_notified (Some message) result moment out same is = absurd (none_some result (length (message_octets message)) same is.0)

-- what the agent handled, with a notification and without one
module _ (settings : Settings) (journal : Journal) (last moment : ℕ) (probe : Probe) (result : Option ℕ) (out : List ℕ) (handled : HasHandled settings journal last moment probe.agent result out) where
  sampled : HasSampled settings journal moment probe.agent result out → (more : List Note)
      → ((alarm : ℕ) → IsWritten (notification_of (counting_by settings) (sample_of settings journal moment alarm) journal) result out → more ≡ notes_of settings journal (moment, alarm)) → IsHandled settings journal moment more probe
  sampled has more told = samples has.alarm has.next (told has.alarm has.notification) has.stands

  pub handled_noted : (count : ℕ) → result ≡ Some count → IsHandled settings journal moment (record { moment = moment; message = take count out } ∷ []) probe
  handled_noted count same = by_kind handled.comes.first.0
    where
      by_kind : FallsDue handled.comes.ended journal handled.next → IsHandled settings journal moment (record { moment = moment; message = take count out } ∷ []) probe
      by_kind (inl is) = absurd (none_some result count (handled.ended is.0).1 same)
      by_kind (inr is) = sampled (handled.sampled is.0) (record { moment = moment; message = take count out } ∷ []) (λ alarm written. notified (notification_of (counting_by settings) (sample_of settings journal moment alarm) journal) result count moment out same written)

  pub handled_silent : result ≡ None → IsHandled settings journal moment [] probe
  handled_silent none = by_kind handled.comes.first.0
    where
      by_kind : FallsDue handled.comes.ended journal handled.next → IsHandled settings journal moment [] probe
      by_kind (inl is) = ends refl (handled.ended is.0).0
      by_kind (inr is) = sampled (handled.sampled is.0) [] (λ alarm written. not_notified (notification_of (counting_by settings) (sample_of settings journal moment alarm) journal) result moment out none written)

-- where none is due, the journal stays
pub advanced_none : (settings : Settings) (to : ℕ) (journal : Journal) → NoneIsDue to journal → IsAdvanced settings to journal [] journal
advanced_none settings to journal none = record { sent = []; advanced = none_due journal none; noted = refl }

-- one sample more, before the others
advanced_more : (settings : Settings) (to : ℕ) (journal : Journal) (next : ℕ × ℕ) (notes : List Note) (after : Journal) → IsNextDue (due_of journal) (Some next) → next.0 ≤ to
    → IsAdvanced settings to (sample_of settings journal next.0 next.1 ∷ journal) notes after → IsAdvanced settings to journal (notes_of settings journal next ++ notes) after
advanced_more settings to journal next notes after due early is = record {
  sent = notifications_of settings journal next ++ is.sent;
  advanced = one_due journal next is.sent after due early is.advanced;
  noted = ap (λ (later : List Note). notes_of settings journal next ++ later) is.noted ∙ sym (map-append note_of (notifications_of settings journal next) is.sent);
}

-- some samples were taken up to a moment
pub record Sampling {N : Type 0} (since : N → N → List Said → Type 0) (notes notes' : N) (to : ℕ) (probe probe' : Probe) : Type 0 where
  pub settings : settings_of probe' ≡ settings_of probe
  pub last : last_given probe' ≤ to
  pub frames : frames_given probe' ≡ frames_given probe
  pub more : List Note
  pub noted : SaysMore since notes notes' (map Notified more)
  pub goes : (journal : Journal) → Stands probe journal
      → (reached : Journal) × Stands probe' reached × ((later : List Note) (after : Journal) → IsAdvanced (settings_of probe) to reached later after → IsAdvanced (settings_of probe) to journal (more ++ later) after)

-- one sample more is taken
next_more : (settings now : Settings) (to : ℕ) (journal reached : Journal) (next : ℕ × ℕ) (notes more : List Note) (probe : Probe) → now ≡ settings
    → IsNextDue (due_of reached) (Some next) → next.0 ≤ to → more ≡ notes_of now reached next → Stands probe (sample_of now reached next.0 next.1 ∷ reached)
    → ((later : List Note) (after : Journal) → IsAdvanced settings to reached later after → IsAdvanced settings to journal (notes ++ later) after)
    → (reached : Journal) × Stands probe reached × ((later : List Note) (after : Journal) → IsAdvanced settings to reached later after → IsAdvanced settings to journal ((notes ++ more) ++ later) after)
next_more settings now to journal reached next notes more probe same due early told stands goes = (
  sample_of settings reached next.0 next.1 ∷ reached,
  subst (λ (s : Settings). Stands probe (sample_of s reached next.0 next.1 ∷ reached)) same stands,
  λ later after is.
      let here : more ++ later ≡ notes_of settings reached next ++ later = ap (λ (n : List Note). n ++ later) (told ∙ ap (λ (s : Settings). notes_of s reached next) same) in
      subst (λ (all : List Note). IsAdvanced settings to journal all after) (ap (λ (n : List Note). notes ++ n) (sym here) ∙ sym (append_assoc notes more later))
      (goes (notes_of settings reached next ++ later) after (advanced_more settings to reached next later after due early is)),
)

-- so it is where what falls due next is handled: a report that ends adds nothing
pub next_handled : (settings now : Settings) (to : ℕ) (journal reached : Journal) (moment : ℕ) (notes more : List Note) (probe : Probe) → now ≡ settings → moment ≤ to → IsHandled now reached moment more probe
    → ((later : List Note) (after : Journal) → IsAdvanced settings to reached later after → IsAdvanced settings to journal (notes ++ later) after)
    → (reached : Journal) × Stands probe reached × ((later : List Note) (after : Journal) → IsAdvanced settings to reached later after → IsAdvanced settings to journal ((notes ++ more) ++ later) after)
next_handled settings now to journal reached moment notes more probe same early (ends none stands) goes = (
  reached,
  stands,
  λ later after is.
      subst (λ (all : List Note). IsAdvanced settings to journal (all ++ later) after) (sym (ap (λ (n : List Note). notes ++ n) none ∙ append-nil notes)) (goes later after is),
)
next_handled settings now to journal reached moment notes more probe same early (samples alarm due told stands) goes =
    next_more settings now to journal reached (moment, alarm) notes more probe same due early told stands goes
