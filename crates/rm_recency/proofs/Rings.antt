-- A place is taken out of a ring, or put in first or last.
use Rattle.std.proofs.Common.{◌≡◌, ℕ, List, [], ◌∷◌, ◌++◌, reverse, Option, Some, refl, sym, ap, ◌∙◌, subst}
use Rattle.std.proofs.lemmas.List.{reverse-append}
use Rattle.std.specs.List.{AllByRecursion}
use Rattle.rm_recency.specs.Chain.{Run, last_from, first_of, Differs, Away, Apart, Sets, Linked}
use Rattle.rm_recency.proofs.Chains.{reads_first, reads_next, apart_without, dropped, put, stays}

module _ {P : Type 0} where
  append_nil : (l : List P) → l ++ [] ≡ l
  append_nil [] = refl
  append_nil (x ∷ l) = ap (λ m. x ∷ m) (append_nil l)

  append_assoc : (xs ys zs : List P) → (xs ++ ys) ++ zs ≡ xs ++ (ys ++ zs)
  append_assoc [] ys zs = refl
  append_assoc (x ∷ xs) ys zs = ap (λ m. x ∷ m) (append_assoc xs ys zs)

  reverse_cons : (x : P) (xs : List P) → reverse (x ∷ xs) ≡ reverse xs ++ x ∷ []
  reverse_cons x xs = reverse-append (x ∷ []) xs

  pub reverse_cut : (xs : List P) (n : P) (ys : List P) → reverse (xs ++ n ∷ ys) ≡ reverse ys ++ n ∷ reverse xs
  reverse_cut xs n ys = reverse-append xs (n ∷ ys) ∙ ap (λ l. l ++ reverse xs) (reverse_cons n ys) ∙ append_assoc (reverse ys) (n ∷ []) (reverse xs)

  last_push : (a : P) (xs : List P) (n : P) → last_from a (xs ++ n ∷ []) ≡ n
  last_push a [] n = refl
  last_push a (x ∷ xs) n = last_push x xs n

  first_push : (xs : List P) (n z : P) → first_of (xs ++ n ∷ []) z ≡ first_of xs n
  first_push [] n z = refl
  first_push (x ∷ xs) n z = refl

  last_reverse : (a : P) (ps : List P) → last_from a (reverse ps) ≡ first_of ps a
  last_reverse a [] = refl
  last_reverse a (p ∷ ps) = ap (last_from a) (reverse_cons p ps) ∙ last_push a (reverse ps) p

  first_reverse : (ps : List P) (z : P) → first_of (reverse ps) z ≡ last_from z ps
  first_reverse [] z = refl
  first_reverse (p ∷ ps) z = ap (λ l. first_of l z) (reverse_cons p ps) ∙ first_push (reverse ps) p z ∙ first_reverse ps p

  all_push : (Q : P → Type 0) (xs : List P) (n : P) → AllByRecursion Q xs → Q n → AllByRecursion Q (xs ++ n ∷ [])
  all_push Q [] n h q = (q, tt)
  all_push Q (x ∷ xs) n h q = (h.0, all_push Q xs n h.1 q)

  pub all_reverse : (Q : P → Type 0) (xs : List P) → AllByRecursion Q xs → AllByRecursion Q (reverse xs)
  all_reverse Q [] h = tt
  all_reverse Q (x ∷ xs) h = subst (AllByRecursion Q) (sym (reverse_cons x xs)) (all_push Q (reverse xs) x (all_reverse Q xs h.1) h.0)

module _ {P : Type 0} (k : P → ℕ) where
  flipped : (n : P) (xs : List P) → Away k n xs → AllByRecursion (λ p. Differs k p n) xs
  flipped n [] h = tt
  flipped n (x ∷ xs) h = ((λ e. h.0 (sym e)), flipped n xs h.1)

  pub apart_push : (xs : List P) (n : P) → Apart k xs → AllByRecursion (λ p. Differs k p n) xs → Apart k (xs ++ n ∷ [])
  apart_push [] n h q = (tt, tt)
  apart_push (x ∷ xs) n h q = (all_push (Differs k x) xs n h.0 q.0, apart_push xs n h.1 q.1)

  pub apart_reverse : (xs : List P) → Apart k xs → Apart k (reverse xs)
  apart_reverse [] h = tt
  apart_reverse (x ∷ xs) h = subst (Apart k) (sym (reverse_cons x xs)) (apart_push (reverse xs) x (apart_reverse xs h.1) (all_reverse (λ p. Differs k p x) xs (flipped x xs h.0)))

  -- with a first place that stays first
  pub apart_turned : (e : P) (xs : List P) → Apart k (e ∷ xs) → Apart k (e ∷ reverse xs)
  apart_turned e xs h = (all_reverse (Differs k e) xs h.0, apart_reverse xs h.1)

  -- n first, and n last
  pub apart_last : (e n : P) (ps : List P) → Apart k (e ∷ n ∷ ps) → Apart k (e ∷ (ps ++ n ∷ []))
  apart_last e n ps h = (all_push (Differs k e) ps n h.0.1 h.0.0, apart_push ps n h.1.1 (flipped n ps h.1.0))

  module _ (f g : P → Option P) (e : P) where
    pub next_is : (xs : List P) (n : P) (ys : List P) → Linked k f g e (xs ++ n ∷ ys) → f n ≡ Some (first_of ys e)
    next_is xs n ys l = reads_next f e xs n ys e l.forward

    pub prev_is : (xs : List P) (n : P) (ys : List P) → Linked k f g e (xs ++ n ∷ ys) → g n ≡ Some (last_from e xs)
    prev_is xs n ys l =
        reads_next g e (reverse ys) n (reverse xs) e (subst (λ m. Run g e m e) (reverse_cut xs n ys) l.back) ∙ ap (λ p. Some p) (first_reverse xs e)

    pub first_is : (ps : List P) → Linked k f g e ps → f e ≡ Some (first_of ps e)
    first_is ps l = reads_first f e ps e l.forward

    pub last_is : (ps : List P) → Linked k f g e ps → g e ≡ Some (last_from e ps)
    last_is ps l = reads_first g e (reverse ps) e l.back ∙ ap (λ p. Some p) (first_reverse ps e)

    pub unlinked : (f' g' : P → Option P) (xs : List P) (n : P) (ys : List P) → Sets k f f' (last_from e xs) (first_of ys e) → Sets k g g' (first_of ys e) (last_from e xs)
        → Linked k f g e (xs ++ n ∷ ys) → Linked k f' g' e (xs ++ ys)
    unlinked f' g' xs n ys s t l = record {
      forward = dropped k f f' e xs n ys e l.apart s l.forward;
      back = subst (λ m. Run g' e m e) (sym (reverse-append xs ys)) (
          dropped k g g' e (reverse ys) n (reverse xs) e (subst (λ m. Apart k (e ∷ m)) (reverse_cut xs n ys) (apart_turned e (xs ++ n ∷ ys) l.apart))
          (subst (λ (p : P × P). Sets k g g' p.0 p.1) (λ i. (sym (last_reverse e ys) i, sym (first_reverse xs e) i)) t)
          (subst (λ m. Run g e m e) (reverse_cut xs n ys) l.back));
      apart = apart_without k (e ∷ xs) n ys l.apart;
    }

    pub linked_first : (f₁ f' g₁ g' : P → Option P) (n : P) (ps : List P) → Apart k (e ∷ n ∷ ps)
        → Sets k f f₁ n (first_of ps e) → Sets k f₁ f' e n → Sets k g g₁ n e → Sets k g₁ g' (first_of ps e) n → Linked k f g e ps → Linked k f' g' e (n ∷ ps)
    linked_first f₁ f' g₁ g' n ps h s s' t t' l = record {
      forward = put k f f₁ f' e [] n ps e h s s' l.forward;
      back = subst (λ m. Run g' e m e) (sym (reverse_cons n ps)) (
          put k g g₁ g' e (reverse ps) n [] e (subst (λ m. Apart k (e ∷ m)) (reverse_cons n ps) (apart_turned e (n ∷ ps) h)) t
          (subst (λ p. Sets k g₁ g' p n) (sym (last_reverse e ps)) t') (subst (λ m. Run g e m e) (sym (append_nil (reverse ps))) l.back));
      apart = h;
    }

    pub linked_last : (f₁ f' g₁ g' : P → Option P) (n : P) (ps : List P) → Apart k (e ∷ n ∷ ps)
        → Sets k f f₁ n e → Sets k f₁ f' (last_from e ps) n → Sets k g g₁ n (last_from e ps) → Sets k g₁ g' e n → Linked k f g e ps → Linked k f' g' e (ps ++ n ∷ [])
    linked_last f₁ f' g₁ g' n ps h s s' t t' l = let fit : Apart k (e ∷ (ps ++ n ∷ [])) = apart_last e n ps h in record {
      forward = put k f f₁ f' e ps n [] e fit s s' (subst (λ m. Run f e m e) (sym (append_nil ps)) l.forward);
      back = subst (λ m. Run g' e m e) (sym (reverse_cut ps n [])) (
          put k g g₁ g' e [] n (reverse ps) e (subst (λ m. Apart k (e ∷ m)) (reverse_cut ps n []) (apart_turned e (ps ++ n ∷ []) fit))
          (subst (λ p. Sets k g g₁ n p) (sym (first_reverse ps e)) t) t' l.back);
      apart = fit;
    }

    -- it stays where the end and each place read what they read
    pub still_linked : (f' g' : P → Option P) (ps : List P) → f' e ≡ f e → g' e ≡ g e → AllByRecursion (λ p. f' p ≡ f p) ps → AllByRecursion (λ p. g' p ≡ g p) ps → Linked k f g e ps → Linked k f' g' e ps
    still_linked f' g' ps a b h i l = record {
      forward = stays k f f' e ps e a h l.forward;
      back = stays k g g' e (reverse ps) e b (all_reverse (λ p. g' p ≡ g p) ps i) l.back;
      apart = l.apart;
    }

-- the same with other names of the functions
pub sets_as : {P : Type 0} (k k' : P → ℕ) (f f' h h' : P → Option P) (e b : P) → ((c : P) → k' c ≡ k c) → ((c : P) → h c ≡ f c) → ((c : P) → h' c ≡ f' c) → Sets k f f' e b → Sets k' h h' e b
sets_as k k' f f' h h' e b i j l s = (l e ∙ s.0, λ c d. l c ∙ s.1 c (λ m. d (i c ∙ m ∙ sym (i e))) ∙ sym (j c))

module _ {P : Type 0} (k k' : P → ℕ) (i : (c : P) → k' c ≡ k c) where
  away_as : (c : P) (ps : List P) → Away k c ps → Away k' c ps
  away_as c [] h = tt
  away_as c (p ∷ ps) h = ((λ e. h.0 (sym (i c) ∙ e ∙ i p)), away_as c ps h.1)

  pub apart_as : (ps : List P) → Apart k ps → Apart k' ps
  apart_as [] h = tt
  apart_as (p ∷ ps) h = (away_as p ps h.0, apart_as ps h.1)

  pub linked_as : (f g f' g' : P → Option P) (e : P) (ps : List P) → ((c : P) → f' c ≡ f c) → ((c : P) → g' c ≡ g c) → Linked k f g e ps → Linked k' f' g' e ps
  linked_as f g f' g' e ps a b l = record {
    forward = stays k f f' e ps e (a e) (all f f' a ps) l.forward;
    back = stays k g g' e (reverse ps) e (b e) (all g g' b (reverse ps)) l.back;
    apart = apart_as (e ∷ ps) l.apart;
  }
    where
      all : (f f' : P → Option P) → ((c : P) → f' c ≡ f c) → (ps : List P) → AllByRecursion (λ p. f' p ≡ f p) ps
      all f f' a [] = tt
      all f f' a (p ∷ ps) = (a p, all f f' a ps)
