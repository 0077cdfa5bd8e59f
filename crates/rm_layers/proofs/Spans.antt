-- Stamps along a span.
use Rattle.std.proofs.Common.{◌≡◌, ℕ, ◌<◌, ◌≤◌, Bool, true, false, cond, ◌&&◌, List, [], ◌∷◌, nat_eq, Some, None, arith, inl, inr}
use Rattle.std.specs.Prelude.{⊤}
use Rattle.std.specs.List.{AllByRecursion}
use Rattle.std.proofs.lemmas.Bool.{cases_Bool}
use Rattle.rm_evicting.specs.Mention.{Mention, refers, strays, keys}
use Rattle.rm_evicting.specs.Held.{is_arrival, gains, since_entry, shares, AllBefore, Rising}
use Rattle.rm_layers.specs.Event.{Contribution, Event, names, turns, turns_ip, begins, is_ip_on, on_since, span, AreUpTo, AreRising}

module _ {K G : Type 0} where
  pub before : (s : ℕ) (r : List (Event K G)) → AreUpTo s r → AllBefore s (span r)
  before s [] a = tt
  before s (names k c ∷ r) a = elim (cases_Bool (is_ip_on r)) [ inl e ↦ rw e (a.0, before s r a.1) | inr e ↦ rw e (before s r a.1) ]
  before s (turns p n on ∷ r) a = before s r a.1
  before s (turns_ip on ∷ r) a = tt
  before s (begins ∷ r) a = tt

  pub rising : (r : List (Event K G)) → AreRising r → Rising (span r)
  rising [] a = tt
  rising (names k c ∷ r) a = elim (cases_Bool (is_ip_on r)) [ inl e ↦ rw e (before c.stamp r a.0, rising r a.1) | inr e ↦ rw e (rising r a.1) ]
  rising (turns p n on ∷ r) a = rising r a.1
  rising (turns_ip on ∷ r) a = tt
  rising (begins ∷ r) a = tt

  -- while a protocol is on, it has been so from a stamp that no later one is below
  pub on_up_to : (s p n : ℕ) (r : List (Event K G)) → AreUpTo s r → on_since p r ≡ Some n → n ≤ s
  on_up_to s p n [] a e = cc
  on_up_to s p n (names k c ∷ r) a e = on_up_to s p n r a.1 e
  on_up_to s p n (turns q m on ∷ r) a e = elim (cases_Bool (nat_eq p q)) [
    | inl y ↦ turned on a.0 (rw y at e)
    | inr y ↦ on_up_to s p n r a.1 (rw y at e)
  ]
    where
      turned : (now : Bool) → m ≤ s → cond now (Some m) None ≡ Some n → n ≤ s
      turned true le f = let same : m ≡ n = cc in omega arith
      turned false le f = cc
  on_up_to s p n (turns_ip on ∷ r) a e = on_up_to s p n r a e
  on_up_to s p n (begins ∷ r) a e = on_up_to s p n r a e

module _ {K C : Type 0} (P : C → Type 0) where
  abbrev pub EachGain : List (Mention K C) → Type 0
  EachGain [] = ⊤
  EachGain (refers k s t c ∷ r) = P c × EachGain r
  EachGain (strays k c ∷ r) = P c × EachGain r

module _ {K C : Type 0} (eq : K → K → Bool) (cap : ℕ) (P : C → Type 0) where
  each-gains : (h : K) (r : List (Mention K C)) → EachGain P r → AllByRecursion P (gains eq h r)
  each-gains h [] a = tt
  each-gains h (refers k s t c ∷ r) a = elim (cases_Bool (eq h k)) [ inl e ↦ rw e (a.0, each-gains h r a.1) | inr e ↦ rw e (each-gains h r a.1) ]
  each-gains h (strays k c ∷ r) a = elim (cases_Bool (eq h k)) [ inl e ↦ rw e (a.0, each-gains h r a.1) | inr e ↦ rw e (each-gains h r a.1) ]

  each-since : (h : K) (r : List (Mention K C)) → EachGain P r → EachGain P (since_entry eq cap h r)
  each-since h [] a = tt
  each-since h (refers k s t c ∷ r) a = elim (cases_Bool (eq h k && is_arrival eq cap h (keys r))) [ inl e ↦ rw e (a.0, tt) | inr e ↦ rw e (a.0, each-since h r a.1) ]
  each-since h (strays k c ∷ r) a = (a.0, each-since h r a.1)

  pub each-shares : (h : K) (r : List (Mention K C)) → EachGain P r → AllByRecursion P (shares eq cap h r)
  each-shares h r a = each-gains h (since_entry eq cap h r) (each-since h r a)

module _ {K G : Type 0} where
  pub contributions_below : (s : ℕ) (r : List (Event K G)) → AreUpTo s r → EachGain (λ (c : Contribution G). c.stamp < s) (span r)
  contributions_below s [] a = tt
  contributions_below s (names k c ∷ r) a = elim (cases_Bool (is_ip_on r)) [ inl e ↦ rw e (a.0, contributions_below s r a.1) | inr e ↦ rw e (contributions_below s r a.1) ]
  contributions_below s (turns p n on ∷ r) a = contributions_below s r a.1
  contributions_below s (turns_ip on ∷ r) a = tt
  contributions_below s (begins ∷ r) a = tt
