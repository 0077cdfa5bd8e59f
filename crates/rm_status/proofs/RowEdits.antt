-- Edits of rows in order of their indexes.
use Rattle.std.proofs.Common.{◌≡◌, ℕ, ◌<◌, ◌≤◌, ◌+◌, suc, true, false, cond, not, nat_lt, List, [], ◌∷◌, length, map, Option, Some, None, nat_eq, refl, sym, ap, subst, ◌∙◌, arith}
use Rattle.std.specs.Prelude.{◌↔◌, insert, remove}
use Rattle.std.specs.List.{position_or_len, find, filter_map, cons_option}
use Rattle.std.specs.Option.{option_map}
use Rattle.std.proofs.Math.Numerals.{one-add}
use Rattle.std.proofs.lemmas.Bool.Decides.{nat_tests}
use borrow.Author.Tests.{eqb-true, eq-eqb}
use Rattle.rm_model.specs.ControlTable.{ControlTable}
use Rattle.rm_model.specs.ControlRows.{is_absent}
use Rattle.rm_model.specs.Judgement.{is_row_number}
use Rattle.rm_status.specs.declared.row.Row.{Row}
use Rattle.rm_status.specs.Rows.{row_in, place_in, AllAbove, Rising, IsIndexAfter, IsThere, AllThere, AreControlRows}

pub eq_less : (a b : ℕ) → a < b → nat_eq a b ≡ false
eq_less a b h = grind (arith, nat_tests)

pub eq_more : (a b : ℕ) → b < a → nat_eq a b ≡ false
eq_more a b h = grind (arith, nat_tests)

pub eq_itself : (a : ℕ) → nat_eq a a ≡ true
eq_itself a = eq-eqb a a refl

pub lt_no : (a b : ℕ) → nat_lt a b ≡ false → b ≤ a
lt_no a b h = grind (arith, nat_tests)

pub lt_yes : (a b : ℕ) → nat_lt a b ≡ true → a < b
lt_yes a b h = grind (arith, nat_tests)

pub eq_no : (a b : ℕ) → nat_eq a b ≡ false → a ≡ b → ⊥
eq_no a b h e = grind (arith, nat_tests)

pub swap_no : (a b c : ℕ) → nat_eq a b ≡ false → a ≡ c → nat_eq b c ≡ false
swap_no a b c h e = grind (arith, nat_tests)

module _ {C : Type 0} where
  pub above_none : (i j : ℕ) (rows : List (Row C)) → AllAbove i rows → j ≤ i → row_in rows j ≡ None
  above_none i j [] h le = refl
  above_none i j (r ∷ rows) h le = rw (eq_more r.index j (omega (arith, h.0))) (above_none i j rows h.1 le)

  above_more : (i j : ℕ) (rows : List (Row C)) → AllAbove i rows → j ≤ i → AllAbove j rows
  above_more i j [] h le = tt
  above_more i j (r ∷ rows) h le = (omega (arith, h.0), above_more i j rows h.1 le)

  -- no row above
  pub after_none : (at : ℕ) (rows : List (Row C)) → None ≡ find (λ r. nat_lt at r.index) rows → IsIndexAfter rows at None
  after_none at [] h i lt = refl
  after_none at (r ∷ rows) h i lt =
      elim (nat_lt at r.index) as (λ t. nat_lt at r.index ≡ t → None ≡ cond t (Some r) (find (λ x. nat_lt at x.index) rows) → row_in (r ∷ rows) i ≡ None) [
        | true ↦ λ _ k. cc
        | false ↦ λ e k. rw (eq_less r.index i (let le = lt_no at r.index e in omega arith)) (after_none at rows k i lt)
      ] refl h

  after_here : (at : ℕ) (r : Row C) (rows : List (Row C)) → Rising (r ∷ rows) → at < r.index → IsIndexAfter (r ∷ rows) at (Some r.index)
  after_here at r rows rise lt =
      (lt, (r, (rw (eq_itself r.index))), λ i above under. rw (eq_more r.index i under) (above_none r.index i rows rise.0 (omega arith)))

  after_there : (at k : ℕ) (r : Row C) (rows : List (Row C)) → r.index ≤ at → IsIndexAfter rows at (Some k) → IsIndexAfter (r ∷ rows) at (Some k)
  after_there at k r rows le h =
      (h.0, (h.1.0, (rw (eq_less r.index k (omega (arith, h.0))) h.1.1)), λ i above under. rw (eq_less r.index i (omega arith)) (h.2 i above under))

  pub after_some : (at : ℕ) (x : Row C) (rows : List (Row C)) → Rising rows → Some x ≡ find (λ r. nat_lt at r.index) rows → IsIndexAfter rows at (Some x.index)
  after_some at x [] rise h = absurd (cc)
  after_some at x (r ∷ rows) rise h =
      elim (nat_lt at r.index) as (λ t. nat_lt at r.index ≡ t → Some x ≡ cond t (Some r) (find (λ y. nat_lt at y.index) rows) → IsIndexAfter (r ∷ rows) at (Some x.index)) [
        | true ↦ λ e k. let is : r ≡ x = cc in let same : r.index ≡ x.index = ap (λ y. y.index) is in subst (λ k. IsIndexAfter (r ∷ rows) at (Some k)) same (after_here at r rows rise (lt_yes at r.index e))
        | false ↦ λ e k. after_there at x.index r rows (lt_no at r.index e) (after_some at x rows rise.1 k)
      ] refl h

  -- a row taken away
  abbrev pub without : List (Row C) → ℕ → List (Row C)
  without [] i = []
  without (r ∷ rows) i = cond (nat_eq r.index i) rows (r ∷ without rows i)

  pub remove-place : (rows : List (Row C)) (i : ℕ) → remove rows (place_in rows i) ≡ without rows i
  remove-place [] i = refl
  remove-place (r ∷ rows) i =
      elim (nat_eq r.index i) as (λ t. remove (r ∷ rows) (cond (not t) (1 + place_in rows i) 0) ≡ cond t rows (r ∷ without rows i)) [
        | true ↦ refl
        | false ↦ rw (one-add (place_in rows i)) (ap (λ l. r ∷ l) (remove-place rows i))
      ]

  above-without : (i j : ℕ) (rows : List (Row C)) → AllAbove i rows → AllAbove i (without rows j)
  above-without i j [] h = tt
  above-without i j (r ∷ rows) h = elim (nat_eq r.index j) as (λ t. AllAbove i (cond t rows (r ∷ without rows j))) [ true ↦ h.1 | false ↦ (h.0, above-without i j rows h.1) ]

  pub rising-without : (rows : List (Row C)) (i : ℕ) → Rising rows → Rising (without rows i)
  rising-without [] i h = tt
  rising-without (r ∷ rows) i h = elim (nat_eq r.index i) as (λ t. Rising (cond t rows (r ∷ without rows i))) [ true ↦ h.1 | false ↦ (above-without r.index i rows h.0, rising-without rows i h.1) ]

  pub row_in-without : (rows : List (Row C)) (i j : ℕ) → Rising rows → row_in (without rows i) j ≡ cond (nat_eq i j) None (row_in rows j)
  row_in-without [] i j h = elim (nat_eq i j) as (λ t. ◌≡◌ {A = Option (Row C)} None (cond t None None)) [ true ↦ refl | false ↦ refl ]
  row_in-without (r ∷ rows) i j h =
      elim (nat_eq r.index i) as (λ t. nat_eq r.index i ≡ t → row_in (cond t rows (r ∷ without rows i)) j ≡ cond (nat_eq i j) None (row_in (r ∷ rows) j)) [
        | true ↦ λ e. gone (eqb-true r.index i e)
        | false ↦ λ e. kept e (row_in-without rows i j h.1)
      ] refl
    where
      gone : r.index ≡ i → row_in rows j ≡ cond (nat_eq i j) None (row_in (r ∷ rows) j)
      gone is = elim (nat_eq i j) as (λ t. nat_eq i j ≡ t → row_in rows j ≡ cond t None (row_in (r ∷ rows) j)) [
        | true ↦ λ e. let same = eqb-true i j e in above_none r.index j rows h.0 (omega arith)
        | false ↦ λ e. let other : nat_eq r.index j ≡ false = rw is e in rw other
      ] refl

      kept : nat_eq r.index i ≡ false → row_in (without rows i) j ≡ cond (nat_eq i j) None (row_in rows j) → row_in (r ∷ without rows i) j ≡ cond (nat_eq i j) None (row_in (r ∷ rows) j)
      kept e more = elim (nat_eq r.index j) as (λ t. nat_eq r.index j ≡ t → cond t (Some r) (row_in (without rows i) j) ≡ cond (nat_eq i j) None (cond t (Some r) (row_in rows j))) [
        | true ↦ λ k. let here = eqb-true r.index j k in let other = swap_no r.index i j e here in rw other
        | false ↦ λ k. more
      ] refl

  pub there-without : (table : ControlTable) (rows : List (Row C)) (i : ℕ) → AllThere table rows → AllThere table (without rows i)
  there-without table [] i h = tt
  there-without table (r ∷ rows) i h = elim (nat_eq r.index i) as (λ t. AllThere table (cond t rows (r ∷ without rows i))) [ true ↦ h.1 | false ↦ (h.0, there-without table rows i h.1) ]

  -- a row put in its place
  abbrev pub with_row : List (Row C) → Row C → List (Row C)
  with_row [] x = x ∷ []
  with_row (r ∷ rows) x = cond (nat_lt x.index r.index) (x ∷ (r ∷ rows)) (r ∷ with_row rows x)

  pub insert-place : (rows : List (Row C)) (x : Row C) → insert rows (position_or_len (λ r. nat_lt x.index r.index) rows) x ≡ with_row rows x
  insert-place [] x = refl
  insert-place (r ∷ rows) x =
      elim (nat_lt x.index r.index) as (λ t. insert (r ∷ rows) (cond (not t) (1 + position_or_len (λ y. nat_lt x.index y.index) rows) 0) x ≡ cond t (x ∷ (r ∷ rows)) (r ∷ with_row rows x)) [
        | true ↦ refl
        | false ↦ rw (one-add (position_or_len (λ y. nat_lt x.index y.index) rows)) (ap (λ l. r ∷ l) (insert-place rows x))
      ]

  above-with_row : (i : ℕ) (rows : List (Row C)) (x : Row C) → AllAbove i rows → i < x.index → AllAbove i (with_row rows x)
  above-with_row i [] x h lt = (lt, tt)
  above-with_row i (r ∷ rows) x h lt = elim (nat_lt x.index r.index) as (λ t. AllAbove i (cond t (x ∷ (r ∷ rows)) (r ∷ with_row rows x))) [ true ↦ (lt, h) | false ↦ (h.0, above-with_row i rows x h.1 lt) ]

  pub there-with_row : (table : ControlTable) (rows : List (Row C)) (x : Row C) → AllThere table rows → IsThere table x → AllThere table (with_row rows x)
  there-with_row table [] x h here = (here, tt)
  there-with_row table (r ∷ rows) x h here = elim (nat_lt x.index r.index) as (λ t. AllThere table (cond t (x ∷ (r ∷ rows)) (r ∷ with_row rows x))) [ true ↦ (here, h) | false ↦ (h.0, there-with_row table rows x h.1 here) ]

  not_here : (r x : Row C) (rows : List (Row C)) → row_in (r ∷ rows) x.index ≡ None → nat_eq r.index x.index ≡ false
  not_here r x rows h = elim (nat_eq r.index x.index) as (λ t. cond t (Some r) (row_in rows x.index) ≡ None → t ≡ false) [ true ↦ λ k. cc | false ↦ λ k. refl ] h

  not_there : (r x : Row C) (rows : List (Row C)) → row_in (r ∷ rows) x.index ≡ None → row_in rows x.index ≡ None
  not_there r x rows h = elim (nat_eq r.index x.index) as (λ t. cond t (Some r) (row_in rows x.index) ≡ None → row_in rows x.index ≡ None) [ true ↦ λ k. cc | false ↦ λ k. k ] h

  pub rising-with_row : (rows : List (Row C)) (x : Row C) → Rising rows → row_in rows x.index ≡ None → Rising (with_row rows x)
  rising-with_row [] x h absent = (tt, tt)
  rising-with_row (r ∷ rows) x h absent =
      elim (nat_lt x.index r.index) as (λ t. nat_lt x.index r.index ≡ t → Rising (cond t (x ∷ (r ∷ rows)) (r ∷ with_row rows x))) [
        | true ↦ λ e. let lt = lt_yes x.index r.index e in ((lt, above_more r.index x.index rows h.0 (omega arith)), h)
        | false ↦ λ e.
            let le = lt_no x.index r.index e in
            let ne = eq_no r.index x.index (not_here r x rows absent) in
            (above-with_row r.index rows x h.0 (omega arith), rising-with_row rows x h.1 (not_there r x rows absent))
      ] refl

  pub row_in-with_row : (rows : List (Row C)) (x : Row C) (i : ℕ) → row_in rows x.index ≡ None → row_in (with_row rows x) i ≡ cond (nat_eq x.index i) (Some x) (row_in rows i)
  row_in-with_row [] x i absent = refl
  row_in-with_row (r ∷ rows) x i absent =
      elim (nat_lt x.index r.index) as (λ t. row_in (cond t (x ∷ (r ∷ rows)) (r ∷ with_row rows x)) i ≡ cond (nat_eq x.index i) (Some x) (row_in (r ∷ rows) i)) [
        | true ↦ refl
        | false ↦ later (row_in-with_row rows x i (not_there r x rows absent))
      ]
    where
      later : row_in (with_row rows x) i ≡ cond (nat_eq x.index i) (Some x) (row_in rows i) → row_in (r ∷ with_row rows x) i ≡ cond (nat_eq x.index i) (Some x) (row_in (r ∷ rows) i)
      later more = elim (nat_eq r.index i) as (λ t. nat_eq r.index i ≡ t → cond t (Some r) (row_in (with_row rows x) i) ≡ cond (nat_eq x.index i) (Some x) (cond t (Some r) (row_in rows i))) [
        | true ↦ λ k. let other = swap_no r.index x.index i (not_here r x rows absent) (eqb-true r.index i k) in rw other
        | false ↦ λ k. more
      ] refl

  pub length-with_row : (rows : List (Row C)) (x : Row C) → length (with_row rows x) ≡ length rows + 1
  length-with_row [] x = refl
  length-with_row (r ∷ rows) x = elim (nat_lt x.index r.index) as (λ t. length (cond t (x ∷ (r ∷ rows)) (r ∷ with_row rows x)) ≡ suc (length rows) + 1) [ true ↦ omega arith | false ↦ omega (arith, length-with_row rows x) ]

  -- each row changed, its index kept
  module _ {D : Type 0} (f : Row C → Row D) (same : (r : Row C) → (f r).index ≡ r.index) where
    above-map : (i : ℕ) (rows : List (Row C)) → AllAbove i rows ↔ AllAbove i (map f rows)
    above-map i [] = (λ h. h, λ h. h)
    above-map i (r ∷ rows) = (
      λ h. (subst (λ (n : ℕ). i < n) (sym (same r)) h.0, (above-map i rows).0 h.1),
      λ h. (subst (λ (n : ℕ). i < n) (same r) h.0, (above-map i rows).1 h.1),
    )

    pub rising-map : (rows : List (Row C)) → Rising rows ↔ Rising (map f rows)
    rising-map [] = (λ h. h, λ h. h)
    rising-map (r ∷ rows) = (
      λ h. (subst (λ (n : ℕ). AllAbove n (map f rows)) (sym (same r)) ((above-map r.index rows).0 h.0), (rising-map rows).0 h.1),
      λ h. ((above-map r.index rows).1 (subst (λ (n : ℕ). AllAbove n (map f rows)) (same r) h.0), (rising-map rows).1 h.1),
    )

    pub there-map : (table : ControlTable) → ((r : Row C) → (f r).state ≡ r.state) → (rows : List (Row C)) → AllThere table rows ↔ AllThere table (map f rows)
    there-map table kept [] = (λ h. h, λ h. h)
    there-map table kept (r ∷ rows) = (
      λ h. ((ap (is_row_number table) (same r) ∙ h.0.0, ap is_absent (kept r) ∙ h.0.1), (there-map table kept rows).0 h.1),
      λ h. ((ap (is_row_number table) (sym (same r)) ∙ h.0.0, ap is_absent (sym (kept r)) ∙ h.0.1), (there-map table kept rows).1 h.1),
    )

    -- they are the rows of a control table exactly where those were, of which they come
    pub rows-map : (table : ControlTable) → ((r : Row C) → (f r).state ≡ r.state) → (rows : List (Row C)) → AreControlRows table rows ↔ AreControlRows table (map f rows)
    rows-map table kept rows = (
      λ h. ((rising-map rows).0 h.0, (there-map table kept rows).0 h.1),
      λ h. ((rising-map rows).1 h.0, (there-map table kept rows).1 h.1),
    )

    pub row_in-map : (rows : List (Row C)) (i : ℕ) → row_in (map f rows) i ≡ option_map f (row_in rows i)
    row_in-map [] i = refl
    row_in-map (r ∷ rows) i = ap (λ n. cond (nat_eq n i) (Some (f r)) (row_in (map f rows) i)) (same r) ∙ (elim (nat_eq r.index i) as (λ t. cond t (Some (f r)) (row_in (map f rows) i) ≡ option_map f (cond t (Some r) (row_in rows i))) [ true ↦ refl | false ↦ row_in-map rows i ])

  abbrev pub Keeps : Row C → Option (Row C) → Type 0
  Keeps r None = Unit {0}
  Keeps r (Some x) = x.index ≡ r.index

  -- each row changed or taken away, its index kept
  module _ (f : Row C → Option (Row C)) (same : (r : Row C) → Keeps r (f r)) where
    above-filter : (i : ℕ) (rows : List (Row C)) → AllAbove i rows → AllAbove i (filter_map f rows)
    above-filter i [] h = tt
    above-filter i (r ∷ rows) h = elim (f r) as (λ o. Keeps r o → AllAbove i (cons_option o (filter_map f rows))) [ None ↦ λ k. above-filter i rows h.1 | Some x ↦ λ k. (rw k h.0, above-filter i rows h.1) ] (same r)

    pub rising-filter : (rows : List (Row C)) → Rising rows → Rising (filter_map f rows)
    rising-filter [] h = tt
    rising-filter (r ∷ rows) h = elim (f r) as (λ o. Keeps r o → Rising (cons_option o (filter_map f rows))) [ None ↦ λ k. rising-filter rows h.1 | Some x ↦ λ k. (rw k (above-filter r.index rows h.0), rising-filter rows h.1) ] (same r)

    pub there-filter : (table : ControlTable) → ((r x : Row C) → f r ≡ Some x → IsThere table r → IsThere table x) → (rows : List (Row C)) → AllThere table rows → AllThere table (filter_map f rows)
    there-filter table stays [] h = tt
    there-filter table stays (r ∷ rows) h = elim (f r) as (λ o. f r ≡ o → AllThere table (cons_option o (filter_map f rows))) [ None ↦ λ _. there-filter table stays rows h.1 | Some x ↦ λ e. (stays r x e h.0, there-filter table stays rows h.1) ] refl

    abbrev pub then_f : Option (Row C) → Option (Row C)
    then_f None = None
    then_f (Some r) = f r

    pub row_in-filter : (rows : List (Row C)) (i : ℕ) → Rising rows → row_in (filter_map f rows) i ≡ then_f (row_in rows i)
    row_in-filter [] i h = refl
    row_in-filter (r ∷ rows) i h =
        elim (f r) as (λ o. Keeps r o → f r ≡ o → row_in (cons_option o (filter_map f rows)) i ≡ then_f (row_in (r ∷ rows) i)) [
          | None ↦ λ k e. gone e (row_in-filter rows i h.1)
          | Some x ↦ λ k e. kept x k e (row_in-filter rows i h.1)
        ] (same r) refl
      where
        gone : f r ≡ None → row_in (filter_map f rows) i ≡ then_f (row_in rows i) → row_in (filter_map f rows) i ≡ then_f (row_in (r ∷ rows) i)
        gone e more = elim (nat_eq r.index i) as (λ t. nat_eq r.index i ≡ t → row_in (filter_map f rows) i ≡ then_f (cond t (Some r) (row_in rows i))) [
          | true ↦ λ k. let here = eqb-true r.index i k in rw e (above_none r.index i (filter_map f rows) (above-filter r.index rows h.0) (omega arith))
          | false ↦ λ k. more
        ] refl

        kept : (x : Row C) → x.index ≡ r.index → f r ≡ Some x → row_in (filter_map f rows) i ≡ then_f (row_in rows i) → row_in (x ∷ filter_map f rows) i ≡ then_f (row_in (r ∷ rows) i)
        kept x is e more = ap (λ n. cond (nat_eq n i) (Some x) (row_in (filter_map f rows) i)) is ∙ (elim (nat_eq r.index i) as (λ t. cond t (Some x) (row_in (filter_map f rows) i) ≡ then_f (cond t (Some r) (row_in rows i))) [ true ↦ sym e | false ↦ more ])
