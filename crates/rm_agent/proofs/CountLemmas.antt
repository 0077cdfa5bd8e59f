-- Lemmas on the number of notifications, and on their octets.
use Rattle.std.proofs.Common.{◌≡◌, ℕ, ◌+◌, ◌%◌, ◌^◌, List, ◌∷◌, ◌++◌, length, take, drop, Bool, true, false, cond, Option, Some, None, refl, sym, ap, ◌∙◌, arith}
use Rattle.std.specs.Option.{option_map}
use Rattle.rm_val.specs.Val.{Val}
use Rattle.rm_val.specs.declared.error.ErrorStatus.{ErrorStatus}
use Rattle.rm_model.specs.Counting.{Counting}
use Rattle.rm_model.specs.Journal.{Act, Frame, passes, assigns, samples, Journal}
use Rattle.rm_acts.specs.Alarms.{IsNextDue, sampled}
use Rattle.rm_model.specs.Cells.{Cells}
use Rattle.rm_model.specs.Judgement.{Bindings}
use Rattle.rm_pdu.specs.declared.kind.Kind.{Kind}
use Rattle.rm_pdu.specs.Message.{Message, message_octets}
use Rattle.rm_pdu.specs.Draft.{Drafted, drafted}
use Rattle.rm_acts.specs.declared.firing.Firing.{Firing}
use Rattle.rm_acts.specs.Fired.{act_fires, fired}
use Rattle.rm_event.specs.EventTable.{type_of}
use Rattle.rm_agent.specs.declared.trap.AlarmTrap.{AlarmTrap}
use Rattle.rm_agent.specs.Notifications.{trap_of, is_sent, by_no_channel, sent_by, notification_numbered, count_one, count_notifications}
use Rattle.rm_reply.specs.Responses.{IsReplyBy}
use Rattle.rm_agent.specs.Agent.{IsWritten}
use Rattle.rm_agent.proofs.Leaving.{leaves}
use Rattle.rm_agent.proofs.Written.{written}

-- No frame has a notification, and no reply.

pub same_passing : (settings : Counting) (frame : Frame) (journal : Journal) (count : ℕ) → count ≡ count_notifications settings journal % 2 ^ 31
    → count ≡ count_notifications settings (passes frame ∷ journal) % 2 ^ 31
same_passing settings frame journal count is = omega (arith, is)

pub same_count : (counting : Counting) (cells : Cells) (objects : List ℕ → Bool) (alone : List ℕ → Val → Option ErrorStatus) (together : Bindings → ℕ → Option ErrorStatus) (reserves : Bindings → ℕ → Type 0)
    (may_write : Bool) (moment : ℕ) (journal : Journal) (kind : Kind) (request reply : Message) (after : Journal)
    → IsReplyBy cells objects alone together reserves may_write moment journal kind request reply after → count_notifications counting after ≡ count_notifications counting journal
same_count counting cells objects alone together reserves may_write moment journal =
    leaves cells objects alone together reserves moment journal (λ after. count_notifications counting after ≡ count_notifications counting journal) refl (λ bindings fine beside. omega arith) may_write

-- Whether an act has a notification doesn't depend on its number.

either_one : (sent : Bool) (a b : Message) → count_one (cond sent (Some a) None) ≡ count_one (cond sent (Some b) None)
either_one true a b = refl
either_one false a b = refl

module _ (settings : Counting) (act : Act) (earlier : Journal) (moment alarm number other : ℕ) where
  by_firing : (firing : Option Firing) (trap : Option AlarmTrap) → count_one (sent_by settings act earlier moment alarm number firing trap) ≡ count_one (sent_by settings act earlier moment alarm other firing trap)
  by_firing None trap = refl
  by_firing (Some firing) None = refl
  by_firing (Some firing) (Some trap) = either_one (is_sent (type_of earlier firing.event)) _ _

pub any_number : (settings : Counting) (number other : ℕ) (act : Act) (earlier : Journal) → count_one (notification_numbered settings number act earlier) ≡ count_one (notification_numbered settings other act earlier)
any_number settings number other (passes frame) earlier = refl
any_number settings number other (assigns moment values) earlier = refl
any_number settings number other (samples moment alarm reading) earlier =
    let act : Act = samples moment alarm reading in
    by_firing settings act earlier moment alarm number other (by_no_channel (act_fires settings act earlier (fired settings earlier))) (trap_of (sampled settings earlier moment alarm reading))

-- The number of notifications after an act, modulo a number, by whether it has one.

one_there : (notification : Option Message) (draft : Drafted) → ◌≡◌ {A = Option Drafted} (Some draft) (option_map drafted notification) → count_one notification ≡ 1
one_there None draft is = absurd (cc)
one_there (Some message) draft is = refl

none_there : (notification : Option Message) → ◌≡◌ {A = Option Drafted} None (option_map drafted notification) → count_one notification ≡ 0
none_there None is = refl
none_there (Some message) is = absurd (cc)

pub counts_one : (settings : Counting) (act : Act) (earlier : Journal) (number count next : ℕ) (draft : Drafted) → ◌≡◌ {A = Option Drafted} (Some draft) (option_map drafted (notification_numbered settings number act earlier))
    → count ≡ count_notifications settings earlier % 2 ^ 31 → next ≡ (count + 1) % 2 ^ 31 → next ≡ count_notifications settings (act ∷ earlier) % 2 ^ 31
counts_one settings act earlier number count next draft made is then =
    let one = any_number settings 0 number act earlier ∙ one_there (notification_numbered settings number act earlier) draft made in omega (arith, is, then, one)

pub counts_none : (settings : Counting) (act : Act) (earlier : Journal) (number count : ℕ) → ◌≡◌ {A = Option Drafted} None (option_map drafted (notification_numbered settings number act earlier))
    → count ≡ count_notifications settings earlier % 2 ^ 31 → count ≡ count_notifications settings (act ∷ earlier) % 2 ^ 31
counts_none settings act earlier number count made is =
    let none = any_number settings 0 number act earlier ∙ none_there (notification_numbered settings number act earlier) made in omega (arith, is, none)

-- The octets of a notification are those of its draft.

pub finished : (notification : Option Message) (draft : Drafted) (count : ℕ) (old new : List ℕ) → ◌≡◌ {A = Option Drafted} (Some draft) (option_map drafted notification)
    → ((m : Message) → draft ≡ drafted m → count ≡ length (message_octets m)) → ((m : Message) → draft ≡ drafted m → new ≡ message_octets m ++ drop count old) → IsWritten notification (Some count) new
finished None draft count old new made counts writes = absurd (cc)
finished (Some message) draft count old new made counts writes =
    let is : draft ≡ drafted message = cc in
    (ap Some (counts message is), ap (λ (n : ℕ). take n new) (sym (counts message is)) ∙ written count (message_octets message) (drop count old) new (counts message is) (writes message is))

pub unsent : (notification : Option Message) (note : List ℕ) → ◌≡◌ {A = Option Drafted} None (option_map drafted notification) → IsWritten notification None note
unsent None note made = refl
unsent (Some message) note made = absurd (cc)

-- One sample comes next at most.

none_some : (o : Option ℕ) (n : ℕ) → o ≡ None → o ≡ Some n → ⊥
none_some o n none some = let never = sym none ∙ some in cc

pub same_next : (due : ℕ → Option ℕ) (a b : Option (ℕ × ℕ)) → IsNextDue due a → IsNextDue due b → a ≡ b
same_next due None None is other = refl
same_next due None (Some b) is other = absurd (none_some (due b.1) b.0 (is b.1) other.0)
same_next due (Some a) None is other = absurd (none_some (due a.1) a.0 (other a.1) is.0)
same_next due (Some a) (Some b) is other =
    let left = is.1 b.1 b.0 other.0 in
    let right = other.1 a.1 a.0 is.0 in
    let moment : a.0 ≡ b.0 = omega (arith, left, right) in
    let alarm : a.1 ≡ b.1 = omega (arith, left, right) in
    λ d. Some (moment d, alarm d)
