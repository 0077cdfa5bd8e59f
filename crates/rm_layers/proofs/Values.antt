-- What one contribution more, and a turning, does to the value of a row.
use Rattle.std.proofs.Common.{◌≡◌, ℕ, ◌<◌, Bool, true, false, cond, List, [], ◌∷◌, map, filter, nat_eq, nat_le, Option, Some, None, refl, ap, arith, inl, inr}
use Rattle.std.specs.List.{AllByRecursion}
use Rattle.std.proofs.lemmas.Bool.{cases_Bool}
use Rattle.std.proofs.lemmas.Bool.Decides.{nat_tests}
use Rattle.rm_layers.specs.Event.{Contribution}
use Rattle.rm_layers.specs.Network.{counts_for}
use Rattle.rm_layers.specs.Applications.{Application, Slots, is_in, is_same, created_of, created_with, application_of, application_in, application_with, applications_with, value_of, no_applications, blank_value, kept_applications, retuned_value}
use Rattle.rm_layers.specs.Upper.{IsRetuned, AreRetuned}

-- what is below a stamp doesn't count from it on
pub none_since : {G : Type 0} (s p : ℕ) (cs : List (Contribution G)) → AllByRecursion (λ c. c.stamp < s) cs → filter (counts_for p (Some s)) cs ≡ []
none_since s p [] a = refl
none_since s p (c ∷ cs) a = let lt : c.stamp < s = a.0 in let off : nat_le s c.stamp ≡ false = grind (arith, nat_tests) in rw off (none_since s p cs a.1)

module _ {G : Type 0} where
  pub created-more : (c : Contribution G) (cs : List (Contribution G)) → created_with (created_of cs) c ≡ created_of (c ∷ cs)
  created-more c [] = refl
  created-more c (d ∷ cs) = refl

module _ {A G : Type 0} (none : A) (more : A → G → A) where
  pub application_of-more : (c : Contribution G) (cs : List (Contribution G)) → application_of none more (c ∷ cs) ≡ Some (application_with none more (application_of none more cs) c)
  application_of-more c [] = refl
  application_of-more c (d ∷ cs) = refl

  module _ (since : ℕ → Option ℕ) (c : Contribution G) (cs : List (Contribution G)) where
    abbrev takes : ℕ → Bool
    takes p = counts_for p (since p) c

    pub applications-more : (slots : Slots) → applications_with none more takes slots c (map (λ slot. application_in none more since slot cs) slots) ≡ map (λ slot. application_in none more since slot (c ∷ cs)) slots
    applications-more [] = refl
    applications-more (None ∷ slots) = ap (λ l. None ∷ l) (applications-more slots)
    applications-more (Some p ∷ slots) = elim (cases_Bool (takes p)) [
      | inl e ↦ rw (e, application_of-more c (filter (counts_for p (since p)) cs), applications-more slots) refl
      | inr e ↦ rw (e, applications-more slots) refl
    ]

    abbrev pub row_takes : Slots → List (Option (Application A)) → List (Option (Application A))
    row_takes slots applications = applications_with none more takes slots c applications

  -- which protocols take a contribution matters for those in slots alone
  pub applications_with-same : (f g : ℕ → Bool) (slots : Slots) (c : Contribution G) (applications : List (Option (Application A))) → AllByRecursion (λ slot. (p : ℕ) → is_in p slot ≡ true → f p ≡ g p) slots → applications_with none more f slots c applications ≡ applications_with none more g slots c applications
  applications_with-same f g [] c applications a = refl
  applications_with-same f g (slot ∷ slots) c [] a = refl
  applications_with-same f g (None ∷ slots) c (application ∷ applications) a = ap (λ l. application ∷ l) (applications_with-same f g slots c applications a.1)
  applications_with-same f g (Some p ∷ slots) c (application ∷ applications) a = let same : f p ≡ g p = a.0 p (grind (arith, nat_tests)) in rw (same, applications_with-same f g slots c applications a.1) refl

  module _ (s : ℕ) (since now : ℕ → Option ℕ) (cs : List (Contribution G)) (below : AllByRecursion (λ c. c.stamp < s) cs) where
    kept_one : (was slot : Option ℕ) → IsRetuned s since now was slot → cond (is_same was slot) (application_in none more since was cs) None ≡ application_in none more now slot cs
    kept_one None None is = refl
    kept_one (Some p) None is = refl
    kept_one None (Some q) is = let e : now q ≡ Some s = is in rw (e, none_since s q cs below) refl
    kept_one (Some p) (Some q) is = elim (cases_Bool (nat_eq p q)) [
      | inl y ↦ let e : now q ≡ since q = rw y at is in let same : p ≡ q = grind (arith, nat_tests, y) in rw (y, e, same) refl
      | inr y ↦ let e : now q ≡ Some s = rw y at is in rw (y, e, none_since s q cs below) refl
    ]

    pub kept-is : (old slots : Slots) → AreRetuned s since now old slots → kept_applications old slots (map (λ slot. application_in none more since slot cs) old) ≡ map (λ slot. application_in none more now slot cs) slots
    kept-is [] [] is = refl
    kept-is [] (slot ∷ slots) is = absurd is
    kept-is (was ∷ old) [] is = absurd is
    kept-is (was ∷ old) (slot ∷ slots) is = rw (kept_one was slot is.0, kept-is old slots is.1) refl

module _ {N A G : Type 0} (blank : N) (add : N → G → N) (none : A) (more : A → G → A) where
  pub blank-is : (slots : Slots) (since : ℕ → Option ℕ) → blank_value blank slots ≡ value_of blank add none more slots since (let nothing : List (Contribution G) = [] in nothing)
  blank-is slots since = ap (λ applications. record { created = None; sums = blank; applications = applications }) (go slots)
    where
      go : (some : Slots) → no_applications some ≡ map (λ slot. application_in none more since slot (let nothing : List (Contribution G) = [] in nothing)) some
      go [] = refl
      go (None ∷ some) = ap (λ l. None ∷ l) (go some)
      go (Some p ∷ some) = ap (λ l. None ∷ l) (go some)

  pub retuned-is : (s : ℕ) (since now : ℕ → Option ℕ) (old slots : Slots) (cs : List (Contribution G)) → AllByRecursion (λ c. c.stamp < s) cs → AreRetuned s since now old slots → retuned_value old slots (value_of blank add none more old since cs) ≡ value_of blank add none more slots now cs
  retuned-is s since now old slots cs below is = rw (kept-is none more s since now cs below old slots is) refl
