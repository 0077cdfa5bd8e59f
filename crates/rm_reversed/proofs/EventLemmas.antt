-- What events give where each key is replaced by another that stands for it.
use Rattle.std.proofs.Common.{◌≡◌, ℕ, ◌+◌, Bool, true, false, cond, not, ◌&&◌, List, [], ◌∷◌, filter, nat_eq, Some, None, count_by, refl, ap, ◌∙◌}
use Rattle.rm_evicting.specs.Mention.{keys, refers}
use Rattle.rm_evicting.specs.Held.{distinct, held, shares}
use Rattle.rm_layers.specs.Event.{Contribution, Event, names, turns, turns_ip, begins, is_ip_on, on_since, span, AreUpTo}
use Rattle.rm_layers.specs.Network.{is_some_list, counts_for, is_held, contributions, application_contributions, exists, network_inserts, application_inserts}
use Rattle.rm_reversed.specs.Reversed.{reversed_events}
use Rattle.rm_reversed.proofs.MentionLemmas.{mentions_of, held_by-of, shares-of}

module _ {K G : Type 0} (to : K → K) where
  pub is_ip_on-of : (r : List (Event K G)) → is_ip_on (reversed_events to r) ≡ is_ip_on r
  is_ip_on-of [] = refl
  is_ip_on-of (names k c ∷ r) = is_ip_on-of r
  is_ip_on-of (turns p s on ∷ r) = is_ip_on-of r
  is_ip_on-of (turns_ip on ∷ r) = refl
  is_ip_on-of (begins ∷ r) = is_ip_on-of r

  pub on_since-of : (p : ℕ) (r : List (Event K G)) → on_since p (reversed_events to r) ≡ on_since p r
  on_since-of p [] = refl
  on_since-of p (names k c ∷ r) = on_since-of p r
  on_since-of p (turns q s on ∷ r) = ap (cond (nat_eq p q) (cond on (Some s) None)) (on_since-of p r)
  on_since-of p (turns_ip on ∷ r) = on_since-of p r
  on_since-of p (begins ∷ r) = on_since-of p r

  either : (b : Bool) (k : K) (c : Contribution G) (r : List (Event K G)) → cond b (refers (to k) c.stamp c.tick c ∷ mentions_of to (span r)) (mentions_of to (span r)) ≡ mentions_of to (cond b (refers k c.stamp c.tick c ∷ span r) (span r))
  either true k c r = refl
  either false k c r = refl

  pub span-of : (r : List (Event K G)) → span (reversed_events to r) ≡ mentions_of to (span r)
  span-of [] = refl
  span-of (names k c ∷ r) = (λ d. cond (is_ip_on-of r d) (refers (to k) c.stamp c.tick c ∷ span-of r d) (span-of r d)) ∙ either (is_ip_on r) k c r
  span-of (turns p s on ∷ r) = span-of r
  span-of (turns_ip on ∷ r) = refl
  span-of (begins ∷ r) = refl

  -- stamps stay
  pub up_to-of : (limit : ℕ) (r : List (Event K G)) → AreUpTo limit (reversed_events to r) → AreUpTo limit r
  up_to-of limit [] upto = tt
  up_to-of limit (names k c ∷ r) upto = (upto.0, up_to-of limit r upto.1)
  up_to-of limit (turns p s on ∷ r) upto = (upto.0, up_to-of limit r upto.1)
  up_to-of limit (turns_ip on ∷ r) upto = up_to-of limit r upto
  up_to-of limit (begins ∷ r) upto = up_to-of limit r upto

module _ {K G : Type 0} (eq : K → K → Bool) (to : K → K) (alike : (one other : K) → eq (to one) (to other) ≡ eq one other) (capacity : ℕ) where
  is_held-of : (k : K) (r : List (Event K G)) → is_held eq capacity (to k) (reversed_events to r) ≡ is_held eq capacity k r
  is_held-of k r = ap (λ ms. held eq capacity (to k) (keys ms)) (span-of to r) ∙ held_by-of eq to alike capacity k (span r)

  contributions-of : (k : K) (r : List (Event K G)) → contributions eq capacity (to k) (reversed_events to r) ≡ contributions eq capacity k r
  contributions-of k r = ap (shares eq capacity (to k)) (span-of to r) ∙ shares-of eq to alike capacity k (span r)

  application_contributions-of : (k : K) (p : ℕ) (r : List (Event K G)) → application_contributions eq capacity (to k) p (reversed_events to r) ≡ application_contributions eq capacity k p r
  application_contributions-of k p r = λ d. filter (counts_for p (on_since-of to p r d)) (contributions-of k r d)

  exists-of : (k : K) (p : ℕ) (r : List (Event K G)) → exists eq capacity (to k) p (reversed_events to r) ≡ exists eq capacity k p r
  exists-of k p r = λ d. is_held-of k r d && is_some_list (application_contributions-of k p r d)

  pub network_inserts-of : (r : List (Event K G)) → network_inserts eq capacity (reversed_events to r) ≡ network_inserts eq capacity r
  network_inserts-of [] = refl
  network_inserts-of (names k c ∷ r) = λ d. network_inserts-of r d + cond (is_ip_on-of to r d && not (is_held-of k r d)) 1 0
  network_inserts-of (turns p s on ∷ r) = network_inserts-of r
  network_inserts-of (turns_ip on ∷ r) = network_inserts-of r
  network_inserts-of (begins ∷ r) = refl

  pub application_inserts-of : (r : List (Event K G)) → application_inserts eq capacity (reversed_events to r) ≡ application_inserts eq capacity r
  application_inserts-of [] = refl
  application_inserts-of (names k c ∷ r) = λ d. application_inserts-of r d + count_by (λ p. exists-of k p (names k c ∷ r) d && not (exists-of k p r d)) (distinct nat_eq c.path)
  application_inserts-of (turns p s on ∷ r) = application_inserts-of r
  application_inserts-of (turns_ip on ∷ r) = application_inserts-of r
  application_inserts-of (begins ∷ r) = refl
