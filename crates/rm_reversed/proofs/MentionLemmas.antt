-- What mentions give where each key is replaced by another that stands for it.
use Rattle.std.proofs.Common.{◌≡◌, ℕ, Bool, cond, not, ◌&&◌, List, [], ◌∷◌, map, refl, ap, ◌∙◌, inl, inr}
use Rattle.std.proofs.lemmas.Bool.{cases_Bool}
use Rattle.rm_evicting.specs.Mention.{Mention, refers, strays, keys}
use Rattle.rm_evicting.specs.Held.{held, is_arrival, size, entry, last_stamp, last_tick, gains, since_entry, shares}
use Rattle.rm_reversed.proofs.KeyLemmas.{held-of, size-of}

module _ {K C : Type 0} (to : K → K) where
  -- mentions with each key replaced
  abbrev pub mentions_of : List (Mention K C) → List (Mention K C)
  mentions_of [] = []
  mentions_of (refers key stamp tick gain ∷ earlier) = refers (to key) stamp tick gain ∷ mentions_of earlier
  mentions_of (strays key gain ∷ earlier) = strays (to key) gain ∷ mentions_of earlier

  keys-of : (ms : List (Mention K C)) → keys (mentions_of ms) ≡ map to (keys ms)
  keys-of [] = refl
  keys-of (refers k s t c ∷ ms) = ap (λ l. to k ∷ l) (keys-of ms)
  keys-of (strays k c ∷ ms) = keys-of ms

module _ {K C : Type 0} (eq : K → K → Bool) (to : K → K) (alike : (one other : K) → eq (to one) (to other) ≡ eq one other) where
  gains-of : (k : K) (ms : List (Mention K C)) → gains eq (to k) (mentions_of to ms) ≡ gains eq k ms
  gains-of k [] = refl
  gains-of k (refers j s t c ∷ ms) = λ d. cond (alike k j d) (c ∷ gains-of k ms d) (gains-of k ms d)
  gains-of k (strays j c ∷ ms) = λ d. cond (alike k j d) (c ∷ gains-of k ms d) (gains-of k ms d)

  pub last_stamp-of : (k : K) (ms : List (Mention K C)) → last_stamp eq (to k) (mentions_of to ms) ≡ last_stamp eq k ms
  last_stamp-of k [] = refl
  last_stamp-of k (refers j s t c ∷ ms) = λ d. cond (alike k j d) s (last_stamp-of k ms d)
  last_stamp-of k (strays j c ∷ ms) = last_stamp-of k ms

  pub last_tick-of : (k : K) (ms : List (Mention K C)) → last_tick eq (to k) (mentions_of to ms) ≡ last_tick eq k ms
  last_tick-of k [] = refl
  last_tick-of k (refers j s t c ∷ ms) = λ d. cond (alike k j d) t (last_tick-of k ms d)
  last_tick-of k (strays j c ∷ ms) = last_tick-of k ms

  module _ (capacity : ℕ) where
    pub held_by-of : (k : K) (ms : List (Mention K C)) → held eq capacity (to k) (keys (mentions_of to ms)) ≡ held eq capacity k (keys ms)
    held_by-of k ms = ap (held eq capacity (to k)) (keys-of to ms) ∙ held-of eq to alike capacity k (keys ms)

    pub size_by-of : (ms : List (Mention K C)) → size eq capacity (keys (mentions_of to ms)) ≡ size eq capacity (keys ms)
    size_by-of ms = ap (size eq capacity) (keys-of to ms) ∙ size-of eq to alike capacity (keys ms)

    -- a reference to a key brings it in where one to the other key does
    arrives-of : (k j : K) (ms : List (Mention K C)) → (eq (to k) (to j) && is_arrival eq capacity (to k) (keys (mentions_of to ms))) ≡ (eq k j && is_arrival eq capacity k (keys ms))
    arrives-of k j ms = λ d. alike k j d && not (held_by-of k ms d)

    since_entry-of : (k : K) (ms : List (Mention K C)) → since_entry eq capacity (to k) (mentions_of to ms) ≡ mentions_of to (since_entry eq capacity k ms)
    since_entry-of k [] = refl
    since_entry-of k (refers j s t c ∷ ms) = ap (λ l. refers (to j) s t c ∷ l) (elim (cases_Bool (eq k j && is_arrival eq capacity k (keys ms))) [
      | inl e ↦ rw (arrives-of k j ms, e) refl
      | inr e ↦ rw (arrives-of k j ms, e) (since_entry-of k ms)
    ])
    since_entry-of k (strays j c ∷ ms) = ap (λ l. strays (to j) c ∷ l) (since_entry-of k ms)

    pub entry-of : (k : K) (ms : List (Mention K C)) → entry eq capacity (to k) (mentions_of to ms) ≡ entry eq capacity k ms
    entry-of k [] = refl
    entry-of k (refers j s t c ∷ ms) = λ d. cond (arrives-of k j ms d) s (entry-of k ms d)
    entry-of k (strays j c ∷ ms) = entry-of k ms

    pub shares-of : (k : K) (ms : List (Mention K C)) → shares eq capacity (to k) (mentions_of to ms) ≡ shares eq capacity k ms
    shares-of k ms = ap (gains eq (to k)) (since_entry-of k ms) ∙ gains-of k (since_entry eq capacity k ms)
