use Rattle.std.proofs.Common.{ℕ, refl, ap, ◌∙◌, sym, take, ◌∷◌, ◌/◌, arith}
use Rattle.circular_buffer.specs.Buffer.{Buffer}
use Rattle.rm_event.specs.declared.log.Log.{Log}
use Rattle.rm_event.proofs.OneFiring.{fires_logged, fires_full, fires_silent}
use Rattle.rm_event.proofs.log.Log.fire.Goals.{else-is_logged-via-then-is_logged+else-self-lt-MOST_ENTRIES, else-is_logged-via-else-is_logged}
use Rattle.rm_event.proofs.log.Log.fire.Goals as goal

pub returns-then-self-lt-MOST_ENTRIES : goal.returns-then-self-lt-MOST_ENTRIES
returns-then-self-lt-MOST_ENTRIES c =
    fires_logged c.args.event_type c.args.moment c.args.self.now _ refl (sym c.is_logged.ensures ∙ c.if-is_logged.true) c.if-self-lt-MOST_ENTRIES.true refl
    (ap (λ (b : Buffer ℕ). b.items) c.push_front.ensures.items ∙ ap (λ n. take n (c.args.moment / 10 ∷ c.args.self.now.ring.items)) c.args.self.now.room)

pub returns-else-is_logged : goal.returns-else-is_logged
returns-else-is_logged c = elim c.else-is_logged.branch [
  | else-is_logged-via-then-is_logged+else-self-lt-MOST_ENTRIES w ↦
      fires_full c.args.event_type c.args.moment c.args.self.now c.else-is_logged.self
      (ap (λ (l : Log). l.sent) w.self-is) (sym c.is_logged.ensures ∙ w.if-is_logged.true) (omega (arith, w.if-self-lt-MOST_ENTRIES.false)) (ap (λ (l : Log). l.added) w.self-is) (ap (λ (l : Log). l.ring.items) w.self-is)
  | else-is_logged-via-else-is_logged w ↦
      fires_silent c.args.event_type c.args.moment c.args.self.now c.else-is_logged.self
      (ap (λ (l : Log). l.sent) w.self-is) (sym c.is_logged.ensures ∙ w.if-is_logged.false) (ap (λ (l : Log). l.added) w.self-is) (ap (λ (l : Log). l.ring.items) w.self-is)
]
