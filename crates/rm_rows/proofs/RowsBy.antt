-- The rows at places, where a row changes, comes in or goes.
use Rattle.std.proofs.Common.{◌≡◌, suc, Bool, true, false, List, [], ◌∷◌, ◌++◌, length, find, Option, Some, None, refl, sym, ap, ◌∙◌, subst, inl, inr}
use Rattle.std.specs.List.{list_any, list_all}
use Rattle.std.proofs.lemmas.Bool.{cases_Bool}
use Rattle.rm_evicting.specs.declared.Row.{Row}
use Rattle.rm_evicting.specs.Row.{at_first, without_first}
use Rattle.rm_rows.specs.Stored.{In, Distinct, add_row, rows_by, Has}

module _ {P K V : Type 0} where
  pub rows_same : (row row' : P → Option (Row K V)) (es : List P) → ((q : P) → In q es → row' q ≡ row q) → rows_by row' es ≡ rows_by row es
  rows_same row row' [] f = refl
  rows_same row row' (q ∷ es) f = λ i. add_row (f q (inl refl) i) (rows_same row row' es (λ p h. f p (inr h)) i)

  pub rows_length : (row : P → Option (Row K V)) (es : List P) → ((q : P) → In q es → Has row q) → length (rows_by row es) ≡ length es
  rows_length row [] f = refl
  rows_length row (q ∷ es) f = let on = f q (inl refl) in ap (λ o. length (add_row o (rows_by row es))) on.1 ∙ ap suc (rows_length row es (λ p h. f p (inr h)))

  pub rows_push : (row : P → Option (Row K V)) (es : List P) (p : P) (r : Row K V) → row p ≡ Some r → rows_by row (es ++ p ∷ []) ≡ rows_by row es ++ r ∷ []
  rows_push row [] p r e = ap (λ o. add_row o []) e
  rows_push row (q ∷ es) p r e = ap (add_row (row q)) (rows_push row es p r e) ∙ moved (row q) (rows_by row es)
    where
      moved : (o : Option (Row K V)) (l : List (Row K V)) → add_row o (l ++ r ∷ []) ≡ add_row o l ++ r ∷ []
      moved None l = refl
      moved (Some x) l = refl

  module _ (row : P → Option (Row K V)) (test : Row K V → Bool) where
    pub any_in : (es : List P) (p : P) (r : Row K V) → ((q : P) → In q es → Has row q) → In p es → row p ≡ Some r → test r ≡ true → list_any test (rows_by row es) ≡ true
    any_in [] p r has h e t = absurd h
    any_in (q ∷ es) p r has h e t = elim h [
      | inl same ↦ let here : row q ≡ Some r = ap row (sym same) ∙ e in rw (here, t) refl
      | inr k ↦ let on = has q (inl refl) in rw on.1 (elim (cases_Bool (test on.0)) [ inl a ↦ rw a refl | inr b ↦ rw b (any_in es p r (λ x m. has x (inr m)) k e t) ])
    ]

    pub none_in : (es : List P) → ((q : P) → In q es → (s : Row K V) → row q ≡ Some s → test s ≡ false) → ((q : P) → In q es → Has row q) → list_any test (rows_by row es) ≡ false
    none_in [] f has = refl
    none_in (q ∷ es) f has = let on = has q (inl refl) in rw (on.1, f q (inl refl) on.0 on.1) (none_in es (λ x m. f x (inr m)) (λ x m. has x (inr m)))

    pub all_true : (es : List P) → ((q : P) → In q es → (s : Row K V) → row q ≡ Some s → test s ≡ true) → ((q : P) → In q es → Has row q) → list_all test (rows_by row es) ≡ true
    all_true [] f has = refl
    all_true (q ∷ es) f has = let on = has q (inl refl) in rw (on.1, f q (inl refl) on.0 on.1) (all_true es (λ x m. f x (inr m)) (λ x m. has x (inr m)))

    pub some_false : (es : List P) (p : P) (r : Row K V) → ((q : P) → In q es → Has row q) → In p es → row p ≡ Some r → test r ≡ false → list_all test (rows_by row es) ≡ false
    some_false [] p r has h e t = absurd h
    some_false (q ∷ es) p r has h e t = elim h [
      | inl same ↦ let here : row q ≡ Some r = ap row (sym same) ∙ e in rw (here, t) refl
      | inr k ↦ let on = has q (inl refl) in rw on.1 (elim (cases_Bool (test on.0)) [ inl a ↦ rw a (some_false es p r (λ x m. has x (inr m)) k e t) | inr b ↦ rw b refl ])
    ]

    -- the first row that passes is p's
    pub found_out : (xs : List P) (p : P) (ys : List P) (r : Row K V) → row p ≡ Some r → test r ≡ true → ((q : P) → In q xs → (s : Row K V) → row q ≡ Some s → test s ≡ false) → ((q : P) → In q xs → Has row q)
        → find test (rows_by row (xs ++ p ∷ ys)) ≡ Some r
    found_out [] p ys r e t f has = rw (e, t) refl
    found_out (x ∷ xs) p ys r e t f has = let on = has x (inl refl) in rw (on.1, f x (inl refl) on.0 on.1) (found_out xs p ys r e t (λ q m. f q (inr m)) (λ q m. has q (inr m)))

    pub rows_out : (xs : List P) (p : P) (ys : List P) (r : Row K V) → row p ≡ Some r → test r ≡ true → ((q : P) → In q xs → (s : Row K V) → row q ≡ Some s → test s ≡ false) → ((q : P) → In q xs → Has row q)
        → rows_by row (xs ++ ys) ≡ without_first test (rows_by row (xs ++ p ∷ ys))
    rows_out [] p ys r e t f has = rw (e, t) refl
    rows_out (x ∷ xs) p ys r e t f has =
        let on = has x (inl refl) in rw (on.1, f x (inl refl) on.0 on.1) (ap (λ l. on.0 ∷ l) (rows_out xs p ys r e t (λ q m. f q (inr m)) (λ q m. has q (inr m))))

    -- the row at p changes, which is the first that passes
    pub rows_changed : (row' : P → Option (Row K V)) (g : Row K V → Row K V) (es : List P) (p : P) (r : Row K V) → row p ≡ Some r → row' p ≡ Some (g r) → test r ≡ true
        → ((q : P) → In q es → ¬ (q ≡ p) → row' q ≡ row q) → ((q : P) → In q es → ¬ (q ≡ p) → (s : Row K V) → row q ≡ Some s → test s ≡ false)
        → ((q : P) → In q es → Has row q) → Distinct es → In p es → rows_by row' es ≡ at_first test g (rows_by row es)
    rows_changed row' g [] p r e e' t same off has d h = absurd h
    rows_changed row' g (q ∷ es) p r e e' t same off has d h = elim h [
      | inl k ↦
          let here : row q ≡ Some r = ap row (sym k) ∙ e in let here' : row' q ≡ Some (g r) = ap row' (sym k) ∙ e' in
          rw (here, here', t) (ap (λ l. g r ∷ l) (rows_same row row' es (λ x m. same x (inr m) (λ z. d.0 (subst (λ y. In y es) (z ∙ k) m)))))
      | inr k ↦
          let far : ¬ (q ≡ p) = (λ z. d.0 (subst (λ y. In y es) (sym z) k)) in
          let on = has q (inl refl) in
          rw (same q (inl refl) far, on.1, off q (inl refl) far on.0 on.1) (ap (λ l. on.0 ∷ l) (rows_changed row' g es p r e e' t (λ x m. same x (inr m)) (λ x m. off x (inr m)) (λ x m. has x (inr m)) d.1 k))
    ]
