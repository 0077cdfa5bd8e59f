-- What one more firing makes of a log.
use Rattle.std.proofs.Common.{◌≡◌, ℕ, zero, suc, ◌+◌, ◌-◌, ◌<◌, ◌≤◌, List, [], ◌∷◌, length, take, drop, map, true, false, refl, sym, ap, ◌∙◌, arith, length-drop}
use Rattle.rm_event.specs.declared.event_type.EventType.{EventType}
use Rattle.rm_event.specs.declared.log.Log.{Log}
use Rattle.rm_event.specs.EventType.{is_logged}
use Rattle.rm_event.specs.Firings.{logged, tick_of, most_entries, most_shown}
use Rattle.rm_event.specs.Log.{IsLog, HasFired}

take_map : {X Y : Type 0} (f : X → Y) (k n : ℕ) (xs : List X) → k ≤ n → take k (map f (take n xs)) ≡ map f (take k xs)
take_map f zero n xs h = refl
take_map f (suc k) zero xs h = absurd (omega arith)
take_map f (suc k) (suc n) [] h = refl
take_map f (suc k) (suc n) (x ∷ xs) h = ap (λ l. f x ∷ l) (take_map f k n xs (omega arith))

no_fewer : {X : Type 0} (n : ℕ) (xs : List X) → n ≡ 0 → drop n xs ≡ xs
no_fewer n xs e = ap (λ k. drop k xs) e

module _ (kind : EventType) (moment : ℕ) (moments : List ℕ) where
  silent : is_logged kind ≡ false → (l : List ℕ) → logged kind l ≡ []
  silent e l = rw e refl

  all_of : is_logged kind ≡ true → (l : List ℕ) → logged kind l ≡ drop (length l - most_entries) l
  all_of e l = rw e refl

  room : is_logged kind ≡ true → length (logged kind moments) < most_entries → length moments < most_entries
  room e few =
      let long : length (logged kind moments) ≡ length moments - (length moments - most_entries) = ap length (all_of e moments) ∙ length-drop (length moments - most_entries) moments in
      omega (arith, long, few)

  pub one_more : is_logged kind ≡ true → length (logged kind moments) < most_entries → logged kind (moment ∷ moments) ≡ moment ∷ logged kind moments
  one_more e few =
      let fits = room e few in
      all_of e (moment ∷ moments) ∙ no_fewer (length (moment ∷ moments) - most_entries) (moment ∷ moments) (omega (arith, fits))
      ∙ ap (λ l. moment ∷ l) (sym (all_of e moments ∙ no_fewer (length moments - most_entries) moments (omega (arith, fits))))

  pub no_more : is_logged kind ≡ true → most_entries ≤ length (logged kind moments) → logged kind (moment ∷ moments) ≡ logged kind moments
  no_more e full =
      let long : length (logged kind moments) ≡ length moments - (length moments - most_entries) = ap length (all_of e moments) ∙ length-drop (length moments - most_entries) moments in
      let many : length (moment ∷ moments) - most_entries ≡ suc (length moments - most_entries) = omega (arith, long, full) in
      all_of e (moment ∷ moments) ∙ ap (λ n. drop n (moment ∷ moments)) many ∙ sym (all_of e moments)

module _ (kind : EventType) (moment : ℕ) (moments : List ℕ) (log new : Log) (is : IsLog log kind moments) (sent : new.sent ≡ tick_of moment) where
  -- a firing that is logged
  pub logs_it : is_logged kind ≡ true → log.added < most_entries → new.added ≡ log.added + 1 → new.ring.items ≡ take most_shown (tick_of moment ∷ log.ring.items) → IsLog new kind (moment ∷ moments)
  logs_it e few added ring =
      let fewer : length (logged kind moments) < most_entries = omega (arith, is.added, few) in
      let more = one_more kind moment moments e fewer in
      let long : length (logged kind (moment ∷ moments)) ≡ suc (length (logged kind moments)) = ap length more in
      record {
        sent = sent;
        added = omega (arith, added, is.added, long);
        ring = ring ∙ ap (λ l. take most_shown (tick_of moment ∷ l)) is.ring ∙ ap (λ l. tick_of moment ∷ l) (take_map tick_of 31 32 (logged kind moments) (omega arith)) ∙ sym (ap (λ l. map tick_of (take most_shown l)) more);
      }

  -- one that isn't
  pub passes_it : logged kind (moment ∷ moments) ≡ logged kind moments → new.added ≡ log.added → new.ring.items ≡ log.ring.items → IsLog new kind (moment ∷ moments)
  passes_it same added ring = record {
    sent = sent;
    added = added ∙ is.added ∙ sym (ap length same);
    ring = ring ∙ is.ring ∙ sym (ap (λ l. map tick_of (take most_shown l)) same);
  }

-- a firing that is logged, and one that isn't
module _ (kind : EventType) (moment : ℕ) (log new : Log) (sent : new.sent ≡ tick_of moment) where
  pub fires_logged : is_logged kind ≡ true → log.added < most_entries → new.added ≡ log.added + 1 → new.ring.items ≡ take most_shown (tick_of moment ∷ log.ring.items) → HasFired kind moment log new
  fires_logged e few added ring = λ moments is. logs_it kind moment moments log new is sent e few added ring

  pub fires_full : is_logged kind ≡ true → most_entries ≤ log.added → new.added ≡ log.added → new.ring.items ≡ log.ring.items → HasFired kind moment log new
  fires_full e full added ring = λ moments is. passes_it kind moment moments log new is sent (no_more kind moment moments e (omega (arith, is.added, full))) added ring

  pub fires_silent : is_logged kind ≡ false → new.added ≡ log.added → new.ring.items ≡ log.ring.items → HasFired kind moment log new
  fires_silent e added ring = λ moments is. passes_it kind moment moments log new is sent (silent kind moment moments e (moment ∷ moments) ∙ sym (silent kind moment moments e moments)) added ring
