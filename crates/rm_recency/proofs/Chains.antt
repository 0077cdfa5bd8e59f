-- A place is taken out of a chain, or put in, by what its neighbours read.
use Rattle.std.proofs.Common.{◌≡◌, ℕ, List, [], ◌∷◌, ◌++◌, Option, Some, refl, sym, ap, ◌∙◌, subst}
use Rattle.std.specs.List.{AllByRecursion}
use Rattle.rm_recency.specs.Chain.{Run, last_from, first_of, Differs, Away, Apart, Sets}

module _ {P : Type 0} where
  pub cut : (f : P → Option P) (a : P) (xs : List P) (n : P) (ys : List P) (z : P) → Run f a (xs ++ n ∷ ys) z → Run f a xs n × Run f n ys z
  cut f a [] n ys z r = (r.0, r.1)
  cut f a (x ∷ xs) n ys z r = let on = cut f x xs n ys z r.1 in ((r.0, on.0), on.1)

  pub glue : (f : P → Option P) (a : P) (xs : List P) (n : P) (ys : List P) (z : P) → Run f a xs n → Run f n ys z → Run f a (xs ++ n ∷ ys) z
  glue f a [] n ys z r s = (r, s)
  glue f a (x ∷ xs) n ys z r s = (r.0, glue f x xs n ys z r.1 s)

  -- what a place reads
  pub reads_first : (f : P → Option P) (a : P) (ys : List P) (z : P) → Run f a ys z → f a ≡ Some (first_of ys z)
  reads_first f a [] z r = r
  reads_first f a (y ∷ ys) z r = r.0

  pub reads_next : (f : P → Option P) (a : P) (xs : List P) (n : P) (ys : List P) (z : P) → Run f a (xs ++ n ∷ ys) z → f n ≡ Some (first_of ys z)
  reads_next f a xs n ys z r = reads_first f n ys z (cut f a xs n ys z r).1

  last_push : (a : P) (xs : List P) (n : P) → last_from a (xs ++ n ∷ []) ≡ n
  last_push a [] n = refl
  last_push a (x ∷ xs) n = last_push x xs n

  first_append : (xs ys : List P) (z : P) → first_of (xs ++ ys) z ≡ first_of xs (first_of ys z)
  first_append [] ys z = refl
  first_append (x ∷ xs) ys z = refl

module _ {P : Type 0} (k : P → ℕ) where
  all_left : (Q : P → Type 0) (xs ys : List P) → AllByRecursion Q (xs ++ ys) → AllByRecursion Q xs
  all_left Q [] ys h = tt
  all_left Q (x ∷ xs) ys h = (h.0, all_left Q xs ys h.1)

  all_right : (Q : P → Type 0) (xs ys : List P) → AllByRecursion Q (xs ++ ys) → AllByRecursion Q ys
  all_right Q [] ys h = h
  all_right Q (x ∷ xs) ys h = all_right Q xs ys h.1

  all_both : (Q : P → Type 0) (xs ys : List P) → AllByRecursion Q xs → AllByRecursion Q ys → AllByRecursion Q (xs ++ ys)
  all_both Q [] ys g h = h
  all_both Q (x ∷ xs) ys g h = (g.0, all_both Q xs ys g.1 h)

  turned : (c : P) (ps : List P) → Away k c ps → AllByRecursion (λ p. Differs k p c) ps
  turned c [] h = tt
  turned c (p ∷ ps) h = ((λ e. h.0 (sym e)), turned c ps h.1)

  -- the last of a list is away from what is away from all of it
  away_last : (c p : P) (ps : List P) → Away k c (p ∷ ps) → Differs k c (last_from p ps)
  away_last c p [] h = h.0
  away_last c p (q ∷ ps) h = away_last c q ps h.1

  pub apart_left : (xs ys : List P) → Apart k (xs ++ ys) → Apart k xs
  apart_left [] ys h = tt
  apart_left (x ∷ xs) ys h = (all_left (Differs k x) xs ys h.0, apart_left xs ys h.1)

  pub apart_right : (xs ys : List P) → Apart k (xs ++ ys) → Apart k ys
  apart_right [] ys h = h
  apart_right (x ∷ xs) ys h = apart_right xs ys h.1

  pub apart_without : (xs : List P) (n : P) (ys : List P) → Apart k (xs ++ n ∷ ys) → Apart k (xs ++ ys)
  apart_without [] n ys h = h.1
  apart_without (x ∷ xs) n ys h =
      (all_both (Differs k x) xs ys (all_left (Differs k x) xs (n ∷ ys) h.0) (all_right (Differs k x) xs (n ∷ ys) h.0).1, apart_without xs n ys h.1)

  -- the last of a first part is away from each of the rest
  last_away : (a : P) (xs ys : List P) → Apart k (a ∷ (xs ++ ys)) → Away k (last_from a xs) ys
  last_away a [] ys h = h.0
  last_away a (x ∷ xs) ys h = last_away x xs ys h.1

  -- a chain stays where none of its places is set
  pub keep : (f f' : P → Option P) (e b : P) → Sets k f f' e b → (a : P) (ps : List P) (z : P) → Differs k a e → AllByRecursion (λ p. Differs k p e) ps → Run f a ps z → Run f' a ps z
  keep f f' e b s a [] z d h r = s.1 a d ∙ r
  keep f f' e b s a (p ∷ ps) z d h r = (s.1 a d ∙ r.0, keep f f' e b s p ps z h.0 h.1 r.1)

  -- its last place reads another
  pub turn : (f f' : P → Option P) (a : P) (ps : List P) (z w : P) → Apart k (a ∷ ps) → Sets k f f' (last_from a ps) w → Run f a ps z → Run f' a ps w
  turn f f' a [] z w h s r = s.0
  turn f f' a (p ∷ ps) z w h s r = (s.1 a (away_last a p ps h.0) ∙ r.0, turn f f' p ps z w h.1 s r.1)

  -- n is taken out
  pub dropped : (f f' : P → Option P) (a : P) (xs : List P) (n : P) (ys : List P) (z : P) → Apart k (a ∷ (xs ++ n ∷ ys)) → Sets k f f' (last_from a xs) (first_of ys z)
      → Run f a (xs ++ n ∷ ys) z → Run f' a (xs ++ ys) z
  dropped f f' a xs n [] z h s r =
      let on = cut f a xs n [] z r in
      let fit : Apart k (a ∷ xs) = apart_left (a ∷ xs) (n ∷ []) h in
      subst (λ l. Run f' a l z) (sym (append_nil xs)) (turn f f' a xs n z fit s on.0)
    where
      append_nil : (l : List P) → l ++ [] ≡ l
      append_nil [] = refl
      append_nil (x ∷ l) = ap (λ m. x ∷ m) (append_nil l)
  dropped f f' a xs n (y ∷ ys) z h s r =
      let on = cut f a xs n (y ∷ ys) z r in
      let fit : Apart k (a ∷ xs) = apart_left (a ∷ xs) (n ∷ y ∷ ys) h in
      let off : AllByRecursion (λ p. Differs k p (last_from a xs)) (n ∷ y ∷ ys) = turned (last_from a xs) (n ∷ y ∷ ys) (last_away a xs (n ∷ y ∷ ys) h) in
      glue f' a xs y ys z (turn f f' a xs n y fit s on.0) (keep f f' (last_from a xs) y s y ys z off.1.0 off.1.1 on.1.1)

  -- each of a first part is away from the place after it
  before : (xs : List P) (n : P) (ys : List P) → Apart k (xs ++ n ∷ ys) → AllByRecursion (λ p. Differs k p n) xs
  before [] n ys h = tt
  before (x ∷ xs) n ys h = ((all_right (Differs k x) xs (n ∷ ys) h.0).0, before xs n ys h.1)

  up_to : (f : P → Option P) (a : P) (xs ys : List P) (z : P) → Run f a (xs ++ ys) z → Run f a xs (first_of ys z)
  up_to f a [] [] z r = r
  up_to f a [] (y ∷ ys) z r = r.0
  up_to f a (x ∷ xs) ys z r = (r.0, up_to f x xs ys z r.1)

  onward : (f f₁ f' : P → Option P) (e b n : P) (a : P) (xs ys : List P) (z : P) → Sets k f f₁ n (first_of ys z) → Sets k f₁ f' e n
      → Differs k n e → AllByRecursion (λ p. Differs k p n) ys → AllByRecursion (λ p. Differs k p e) ys → Run f a (xs ++ ys) z → Run f' n ys z
  onward f f₁ f' e b n a xs [] z s s' d hn he r = s'.1 n d ∙ s.0
  onward f f₁ f' e b n a xs (y ∷ ys) z s s' d hn he r =
      let on = (cut f a xs y ys z r).1 in
      (s'.1 n d ∙ s.0, keep f₁ f' e n s' y ys z he.0 he.1 (keep f f₁ n y s y ys z hn.0 hn.1 on))

  -- n is put in
  pub put : (f f₁ f' : P → Option P) (a : P) (xs : List P) (n : P) (ys : List P) (z : P) → Apart k (a ∷ (xs ++ n ∷ ys)) → Sets k f f₁ n (first_of ys z) → Sets k f₁ f' (last_from a xs) n
      → Run f a (xs ++ ys) z → Run f' a (xs ++ n ∷ ys) z
  put f f₁ f' a xs n ys z h s s' r =
      let fit : Apart k (a ∷ xs) = apart_left (a ∷ xs) (n ∷ ys) h in
      let off = before (a ∷ xs) n ys h in
      let e : P = last_from a xs in
      let away = turned e (n ∷ ys) (last_away a xs (n ∷ ys) h) in
      let tail : Away k n ys = (apart_right (a ∷ xs) (n ∷ ys) h).0 in
      glue f' a xs n ys z (turn f₁ f' a xs (first_of ys z) n fit s' (keep f f₁ n (first_of ys z) s a xs (first_of ys z) off.0 off.1 (up_to f a xs ys z r)))
      (onward f f₁ f' e n n a xs ys z s s' away.0 (turned n ys tail) away.1 r)

  -- a chain stays where each of its places reads what it read
  pub stays : (f f' : P → Option P) (a : P) (ps : List P) (z : P) → f' a ≡ f a → AllByRecursion (λ p. f' p ≡ f p) ps → Run f a ps z → Run f' a ps z
  stays f f' a [] z e h r = e ∙ r
  stays f f' a (p ∷ ps) z e h r = (e ∙ r.0, stays f f' p ps z h.0 h.1 r.1)
