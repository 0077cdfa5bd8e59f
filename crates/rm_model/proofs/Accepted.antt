-- The finite map of a Set's bindings gives to each variable what its first binding does.
use Rattle.std.proofs.Common.{◌≡◌, ℕ, List, [], ◌∷◌, Bool, true, false, cond, Option, Some, None, refl, sym, ap, ◌∙◌, subst, find, option_map}
use Rattle.std.specs.Str.{bytes_eq}
use Rattle.std.specs.Ordering.{nat_cmp, ordering_reverse}
use Rattle.std.specs.declared.cmp.Ordering.TheVariants.{Less, Equal, Greater}
use Rattle.std.specs.Cmp.Lexicographic.{slice_cmp}
use Rattle.std.proofs.lemmas.Map.Lookups.{exact_bytes}
use Rattle.std.proofs.lemmas.Slice.Eq.{bytes_eq-Decides}
use Rattle.std.proofs.lemmas.Cmp.{nat_list_cmp_total}
use Rattle.rm_val.specs.Val.{Val}
use Rattle.rm_model.specs.Journal.{Assignment, Assignments, value_given}
use Rattle.rm_model.specs.Judgement.{Bindings}
use Rattle.rm_model.specs.Names.{Below}
use Rattle.rm_model.specs.Accepted.{placed, with_assignment, assignments_of}
use Rattle.rm_model.proofs.Next.{below_of_greater}
use Rattle.rm_model.proofs.Finite.{not_below_itself}

not_greater_itself : (n : List ℕ) → slice_cmp nat_cmp n n ≡ Greater → ⊥
not_greater_itself n e =
    let back : Greater ≡ ordering_reverse Greater = sym e ∙ nat_list_cmp_total.antisymm n n ∙ ap ordering_reverse e in
    cc

first_of : (b : Bool) (a : Assignment) (o : Option Assignment) → option_map (λ x. x.value) (cond b (Some a) o) ≡ cond b (Some a.value) (option_map (λ x. x.value) o)
first_of true a o = refl
first_of false a o = refl

-- the first assignment, or the others
given_first : (a : Assignment) (more : Assignments) (name : List ℕ) → value_given (a ∷ more) name ≡ cond (bytes_eq a.name name) (Some a.value) (value_given more name)
given_first a more name = first_of (bytes_eq a.name name) a (find (λ x. bytes_eq x.name name) more)

drop_second : (b : Bool) (x y o : Option Val) → cond b x o ≡ cond b x (cond b y o)
drop_second true x y o = refl
drop_second false x y o = refl

swap : (b c : Bool) (x y o : Option Val) → (b ≡ true → c ≡ true → ⊥) → cond b x (cond c y o) ≡ cond c y (cond b x o)
swap true true x y o apart = absurd (apart refl refl)
swap true false x y o apart = refl
swap false true x y o apart = refl
swap false false x y o apart = refl

given_with : (a : Assignment) (l : Assignments) (name : List ℕ) → value_given (with_assignment a l) name ≡ cond (bytes_eq a.name name) (Some a.value) (value_given l name)
given_with a [] name = given_first a [] name
given_with a (b ∷ more) name =
    elim (slice_cmp nat_cmp a.name b.name) as (λ o. slice_cmp nat_cmp a.name b.name ≡ o → value_given (placed o a b more (with_assignment a more)) name ≡ cond (bytes_eq a.name name) (Some a.value) (value_given (b ∷ more) name)) [
      | Less ↦ λ _. given_first a (b ∷ more) name
      | Equal ↦ λ e.
          let same : a.name ≡ b.name = exact_bytes a.name b.name e in
          given_first a more name ∙ drop_second (bytes_eq a.name name) (Some a.value) (Some b.value) (value_given more name)
          ∙ ap (λ n. cond (bytes_eq a.name name) (Some a.value) (cond (bytes_eq n name) (Some b.value) (value_given more name))) same
          ∙ ap (cond (bytes_eq a.name name) (Some a.value)) (sym (given_first b more name))
      | Greater ↦ λ e.
          given_first b (with_assignment a more) name ∙ ap (cond (bytes_eq b.name name) (Some b.value)) (given_with a more name)
          ∙ swap (bytes_eq b.name name) (bytes_eq a.name name) (Some b.value) (Some a.value) (value_given more name) (apart e)
          ∙ ap (cond (bytes_eq a.name name) (Some a.value)) (sym (given_first b more name))
    ] refl
  where
    apart : slice_cmp nat_cmp a.name b.name ≡ Greater → bytes_eq b.name name ≡ true → bytes_eq a.name name ≡ true → ⊥
    apart e p q =
        let first : b.name ≡ name = (bytes_eq-Decides b.name name).0 p in
        let second : a.name ≡ name = (bytes_eq-Decides a.name name).0 q in
        let same : slice_cmp nat_cmp name name ≡ Greater = subst (λ n. slice_cmp nat_cmp n name ≡ Greater) second (subst (λ n. slice_cmp nat_cmp a.name n ≡ Greater) first e) in
        not_greater_itself name same

pub given_of : (bindings : Bindings) (name : List ℕ) → value_given (assignments_of bindings) name ≡ value_given bindings name
given_of [] name = refl
given_of (b ∷ more) name =
    given_with b (assignments_of more) name ∙ ap (cond (bytes_eq b.name name) (Some b.value)) (given_of more name) ∙ sym (given_first b more name)

-- Two Sets that give the same to each variable have the same assignments, whatever the order of their bindings.

abbrev AllAbove : List ℕ → Assignments → Type 0
AllAbove name [] = Unit {0}
AllAbove name (b ∷ more) = Below name b.name × AllAbove name more

abbrev Rising : Assignments → Type 0
Rising [] = Unit {0}
Rising (b ∷ more) = AllAbove b.name more × Rising more

above_more : (m n : List ℕ) (l : Assignments) → Below m n → AllAbove n l → AllAbove m l
above_more m n [] below h = tt
above_more m n (b ∷ more) below h = (nat_list_cmp_total.trans m n b.name below h.0, above_more m n more below h.1)

above_with : (n : List ℕ) (a : Assignment) (l : Assignments) → Below n a.name → AllAbove n l → AllAbove n (with_assignment a l)
above_with n a [] below h = (below, tt)
above_with n a (b ∷ more) below h =
    elim (slice_cmp nat_cmp a.name b.name) as (λ o. AllAbove n (placed o a b more (with_assignment a more))) [
      | Less ↦ (below, h)
      | Equal ↦ (below, h.1)
      | Greater ↦ (h.0, above_with n a more below h.1)
    ]

rising_with : (a : Assignment) (l : Assignments) → Rising l → Rising (with_assignment a l)
rising_with a [] h = (tt, tt)
rising_with a (b ∷ more) h =
    elim (slice_cmp nat_cmp a.name b.name) as (λ o. slice_cmp nat_cmp a.name b.name ≡ o → Rising (placed o a b more (with_assignment a more))) [
      | Less ↦ λ e. ((e, above_more a.name b.name more e h.0), h)
      | Equal ↦ λ e. (subst (λ n. AllAbove n more) (sym (exact_bytes a.name b.name e)) h.0, h.1)
      | Greater ↦ λ e. (above_with b.name a more (below_of_greater a.name b.name e) h.0, rising_with a more h.1)
    ] refl

rising_of : (bindings : Bindings) → Rising (assignments_of bindings)
rising_of [] = tt
rising_of (b ∷ more) = rising_with b (assignments_of more) (rising_of more)

other_name : (n m : List ℕ) → Below n m → bytes_eq m n ≡ false
other_name n m below =
    elim (bytes_eq m n) as (λ b. bytes_eq m n ≡ b → b ≡ false) [
      | true ↦ λ e. let same : m ≡ n = (bytes_eq-Decides m n).0 e in absurd (not_below_itself n (subst (Below n) same below))
      | false ↦ λ _. refl
    ] refl

none_above : (n : List ℕ) (l : Assignments) → AllAbove n l → value_given l n ≡ None
none_above n [] h = refl
none_above n (b ∷ more) h = given_first b more n ∙ ap (λ t. cond t (Some b.value) (value_given more n)) (other_name n b.name h.0) ∙ none_above n more h.1

itself : (n : List ℕ) → bytes_eq n n ≡ true
itself n = (bytes_eq-Decides n n).1 refl

given_head : (a : Assignment) (more : Assignments) → value_given (a ∷ more) a.name ≡ Some a.value
given_head a more = given_first a more a.name ∙ ap (λ t. cond t (Some a.value) (value_given more a.name)) (itself a.name)

some_none : {A : Type 0} (x : A) → ◌≡◌ {A = Option A} (Some x) None → ⊥
some_none x e = cc

in_some : {A : Type 0} (x y : A) → Some x ≡ Some y → x ≡ y
in_some x y e = cc

same_rising : (l k : Assignments) → Rising l → Rising k → ((name : List ℕ) → value_given l name ≡ value_given k name) → l ≡ k
same_rising [] [] p q same = refl
same_rising [] (b ∷ k) p q same = absurd (some_none b.value (sym (given_head b k) ∙ sym (same b.name)))
same_rising (a ∷ l) [] p q same = absurd (some_none a.value (sym (given_head a l) ∙ same a.name))
same_rising (a ∷ l) (b ∷ k) p q same =
    elim (slice_cmp nat_cmp a.name b.name) as (λ o. slice_cmp nat_cmp a.name b.name ≡ o → a ∷ l ≡ b ∷ k) [
      | Less ↦ λ e. absurd (some_none a.value (sym (given_head a l) ∙ same a.name ∙ none_above a.name (b ∷ k) (e, above_more a.name b.name k e q.0)))
      | Equal ↦ λ e. equal (exact_bytes a.name b.name e) (same_rising l k p.1 q.1)
      | Greater ↦ λ e.
          let under : Below b.name a.name = below_of_greater a.name b.name e in
          absurd (some_none b.value (sym (given_head b k) ∙ sym (same b.name) ∙ none_above b.name (a ∷ l) (under, above_more b.name a.name l under p.0)))
    ] refl
  where
    equal : a.name ≡ b.name → (((name : List ℕ) → value_given l name ≡ value_given k name) → l ≡ k) → a ∷ l ≡ b ∷ k
    equal names others = together (others rest)
      where
        values : a.value ≡ b.value
        values = in_some a.value b.value (sym (given_head a l) ∙ same a.name ∙ ap (value_given (b ∷ k)) names ∙ given_head b k)

        rest : (name : List ℕ) → value_given l name ≡ value_given k name
        rest name =
            elim (bytes_eq a.name name) as (λ t. bytes_eq a.name name ≡ t → value_given l name ≡ value_given k name) [
              | true ↦ λ e.
                  let here : a.name ≡ name = (bytes_eq-Decides a.name name).0 e in
                  none_above name l (subst (λ n. AllAbove n l) here p.0) ∙ sym (none_above name k (subst (λ n. AllAbove n k) (sym names ∙ here) q.0))
              | false ↦ λ e.
                  sym (given_first a l name ∙ ap (λ t. cond t (Some a.value) (value_given l name)) e) ∙ same name
                  ∙ (given_first b k name ∙ ap (λ t. cond t (Some b.value) (value_given k name)) (ap (λ n. bytes_eq n name) (sym names) ∙ e))
            ] refl

        together : l ≡ k → a ∷ l ≡ b ∷ k
        together more = λ i. record { name = names i; value = values i } ∷ more i

pub same_assignments : (bindings others : Bindings) → ((name : List ℕ) → value_given bindings name ≡ value_given others name) → assignments_of bindings ≡ assignments_of others
same_assignments bindings others same =
    same_rising (assignments_of bindings) (assignments_of others) (rising_of bindings) (rising_of others)
    (λ name. given_of bindings name ∙ same name ∙ sym (given_of others name))
