-- Frames of several captures in one list are in order.
use Rattle.std.proofs.Common.{◌≡◌, ℕ, zero, suc, ◌<◌, ◌≤◌, Bool, true, false, List, [], ◌∷◌, length, get_or, inl, inr, refl, sym, ap, subst, ◌∙◌, arith}
use Rattle.std.specs.Prelude.{◌⊎◌, ⊤, filter, nat_eq, nat_lt}
use Rattle.std.proofs.lemmas.Bool.Decides.{nat_tests}
use Rattle.rm_model.specs.Journal.{Frame}
use Rattle.rm_captures.specs.Merge.{AreAbove, AreInOrder, AreMerged, AreOf, merge}
use Rattle.rm_captures.proofs.MergeLemmas.{merge_first, merge_second, merge_none, merge_alone}

-- one list has all of two: the next is that of the first where it isn't later, and else that of the second
data Merges : List Frame → List Frame → List Frame → Type 0 where
  over : Merges [] [] []
  comes : (f : Frame) (fs gs all : List Frame) → ((g : Frame) (more : List Frame) → gs ≡ g ∷ more → f.moment ≤ g.moment) → Merges fs gs all → Merges (f ∷ fs) gs (f ∷ all)
  goes : (g : Frame) (fs gs all : List Frame) → ((f : Frame) (more : List Frame) → fs ≡ f ∷ more → g.moment < f.moment) → Merges fs gs all → Merges fs (g ∷ gs) (g ∷ all)

firsts_alone : (fs : List Frame) → Merges fs [] fs
firsts_alone [] = over
firsts_alone (f ∷ fs) = comes f fs [] fs (λ g more e. absurd cc) (firsts_alone fs)

merges_one : (g : Frame) (gs : List Frame) → ((fs : List Frame) → Merges fs gs (merge fs gs)) → (fs : List Frame) → Merges fs (g ∷ gs) (merge fs (g ∷ gs))
merges_one g gs rest [] =
    subst (Merges [] (g ∷ gs)) (sym (merge_none (g ∷ gs)))
    (goes g [] gs gs (λ f more e. absurd cc) (subst (Merges [] gs) (merge_none gs) (rest [])))
merges_one g gs rest (f ∷ fs) = by_test (nat_lt g.moment f.moment) refl (merges_one g gs rest fs)
  where
    by_test : (later : Bool) → nat_lt g.moment f.moment ≡ later → Merges fs (g ∷ gs) (merge fs (g ∷ gs)) → Merges (f ∷ fs) (g ∷ gs) (merge (f ∷ fs) (g ∷ gs))
    by_test true test behind =
        let lt : g.moment < f.moment = grind (arith, nat_tests) in
        subst (Merges (f ∷ fs) (g ∷ gs)) (sym (merge_second f g fs gs lt))
        (goes g (f ∷ fs) gs (merge (f ∷ fs) gs) (λ other more e. let same : f ≡ other = cc in omega (arith, lt, ap (λ (x : Frame). x.moment) same)) (rest (f ∷ fs)))
    by_test false test behind =
        let le : f.moment ≤ g.moment = grind (arith, nat_tests) in
        subst (Merges (f ∷ fs) (g ∷ gs)) (sym (merge_first f g fs gs le))
        (comes f fs (g ∷ gs) (merge fs (g ∷ gs)) (λ other more e. let same : g ≡ other = cc in omega (arith, le, ap (λ (x : Frame). x.moment) same)) behind)

merges : (fs gs : List Frame) → Merges fs gs (merge fs gs)
merges fs [] = subst (Merges fs []) (sym (merge_alone fs)) (firsts_alone fs)
merges fs (g ∷ gs) = merges_one g gs (λ others. merges others gs) fs

-- a frame stands before another, or beside it
abbrev Before : Frame → Frame → Type 0
Before a b = (a.moment < b.moment) ⊎ ((a.moment ≡ b.moment) × (a.interface ≤ b.interface))

before_then : (a b c : Frame) → Before a b → Before b c → Before a c
before_then a b c (inl x) (inl y) = inl (omega (arith, x, y))
before_then a b c (inl x) (inr y) = inl (omega (arith, x, y.0))
before_then a b c (inr x) (inl y) = inl (omega (arith, x.0, y))
before_then a b c (inr x) (inr y) = inr (x.0 ∙ y.0, omega (arith, x.1, y.1))

-- each stands before the next, and P holds of the first
abbrev Chain : (Frame → Type 0) → List Frame → Type 0
Chain P [] = ⊤
Chain P (x ∷ xs) = P x × Chain (Before x) xs

chain_head : (P Q : Frame → Type 0) (xs : List Frame) → ((x : Frame) (more : List Frame) → xs ≡ x ∷ more → Q x) → Chain P xs → Chain Q xs
chain_head P Q [] head chain = tt
chain_head P Q (x ∷ xs) head chain = (head x xs refl, chain.1)

chain_after : (a : Frame) (xs : List Frame) → Chain (Before a) xs → (j : ℕ) (d : Frame) → j < length xs → Before a (get_or xs j d)
chain_after a [] chain j d within = absurd (omega (arith, within))
chain_after a (x ∷ xs) chain zero d within = chain.0
chain_after a (x ∷ xs) chain (suc j) d within = before_then a x (get_or xs j d) chain.0 (chain_after x xs chain.1 j d (omega (arith, within)))

chain_pair : (P : Frame → Type 0) (xs : List Frame) → Chain P xs → (i j : ℕ) (d : Frame) → i < j → j < length xs → Before (get_or xs i d) (get_or xs j d)
chain_pair P [] chain i j d less within = absurd (omega (arith, within))
chain_pair P (x ∷ xs) chain i zero d less within = absurd (omega (arith, less))
chain_pair P (x ∷ xs) chain zero (suc j) d less within = chain_after x xs chain.1 j d (omega (arith, within))
chain_pair P (x ∷ xs) chain (suc i) (suc j) d less within = chain_pair (Before x) xs chain.1 i j d (omega (arith, less)) (omega (arith, within))

abbrev any_frame : Frame → Type 0
any_frame frame = ⊤

ordered : (xs : List Frame) → AreInOrder xs → Chain any_frame xs
ordered xs order = from any_frame xs (λ d within. tt) (λ i j d less within. pairs i j d less within)
  where
    pairs : (i j : ℕ) (d : Frame) → i < j → j < length xs → Before (get_or xs i d) (get_or xs j d)
    pairs i j d less within = by_moment (nat_lt (get_or xs i d).moment (get_or xs j d).moment) refl
      where
        by_moment : (sooner : Bool) → nat_lt (get_or xs i d).moment (get_or xs j d).moment ≡ sooner → Before (get_or xs i d) (get_or xs j d)
        by_moment true test = inl (grind (arith, nat_tests))
        by_moment false test =
            let not_later : (get_or xs i d).moment ≤ (get_or xs j d).moment = order.moments i j d (omega (arith, less)) within in
            let same : (get_or xs i d).moment ≡ (get_or xs j d).moment = grind (arith, nat_tests) in
            inr (same, order.interfaces i j d less within same)

    from : (P : Frame → Type 0) (ys : List Frame) → ((d : Frame) → 0 < length ys → P (get_or ys 0 d)) → ((i j : ℕ) (d : Frame) → i < j → j < length ys → Before (get_or ys i d) (get_or ys j d)) → Chain P ys
    from P [] head pair = tt
    from P (y ∷ ys) head pair = (
      head y (omega arith),
      from (Before y) ys (λ d within. pair 0 1 d (omega arith) (omega (arith, within)))
          (λ i j d less within. pair (suc i) (suc j) d (omega (arith, less)) (omega (arith, within))),
    )

in_order : (P : Frame → Type 0) (xs : List Frame) → Chain P xs → AreInOrder xs
in_order P xs chain = record {
  moments = λ i j d le within. by_place i j d le within (nat_eq i j) refl;
  interfaces = λ i j d less within same. elim (chain_pair P xs chain i j d less within) [
    | inl sooner ↦ absurd (omega (arith, sooner, same))
    | inr at ↦ at.1
  ];
}
  where
    by_place : (i j : ℕ) (d : Frame) → i ≤ j → j < length xs → (here : Bool) → nat_eq i j ≡ here → (get_or xs i d).moment ≤ (get_or xs j d).moment
    by_place i j d le within true test =
        let same : i ≡ j = grind (arith, nat_tests) in omega (arith, ap (λ (n : ℕ). (get_or xs n d).moment) same)
    by_place i j d le within false test =
        let less : i < j = grind (arith, nat_tests) in
        elim (chain_pair P xs chain i j d less within) [
          | inl sooner ↦ omega (arith, sooner)
          | inr at ↦ omega (arith, at.0)
        ]

-- of some frames each has an interface that passes
abbrev All : (ℕ → Type 0) → List Frame → Type 0
All P [] = ⊤
All P (x ∷ xs) = P x.interface × All P xs

all_of : (P : ℕ → Type 0) (xs : List Frame) → ((index : ℕ) (any : Frame) → index < length xs → P (get_or xs index any).interface) → All P xs
all_of P [] each = tt
all_of P (x ∷ xs) each = (each 0 x (omega arith), all_of P xs (λ index any within. each (suc index) any (omega (arith, within))))

merged_chain : (number : ℕ) (fs gs all : List Frame) → Merges fs gs all → All (λ k. k ≡ number) fs → All (λ k. number < k) gs → (P : Frame → Type 0) → Chain P fs → Chain P gs → Chain P all
merged_chain number _ _ _ over own high P first second = tt
merged_chain number _ _ _ (comes f fs gs all soon behind) own high P first second = (
  first.0,
  merged_chain number fs gs all behind own.1 high (Before f) first.1
      (chain_head P (Before f) gs (λ g more e. beside g more e (soon g more e)) second),
)
  where
    beside : (g : Frame) (more : List Frame) → gs ≡ g ∷ more → f.moment ≤ g.moment → Before f g
    beside g more e le = by_moment (nat_lt f.moment g.moment) refl
      where
        above : number < g.interface
        above = (subst (All (λ k. number < k)) e high).0

        by_moment : (sooner : Bool) → nat_lt f.moment g.moment ≡ sooner → Before f g
        by_moment true test = inl (grind (arith, nat_tests))
        by_moment false test =
            let same : f.moment ≡ g.moment = grind (arith, nat_tests) in inr (same, omega (arith, above, own.0))
merged_chain number _ _ _ (goes g fs gs all late behind) own high P first second = (
  second.0,
  merged_chain number fs gs all behind own high.1 (Before g) (chain_head P (Before g) fs (λ f more e. inl (late f more e)) first) second.1,
)

own_frames : (number : ℕ) (fs gs all : List Frame) → Merges fs gs all → All (λ k. k ≡ number) fs → All (λ k. number < k) gs → filter (λ (frame : Frame). nat_eq frame.interface number) all ≡ fs
own_frames number _ _ _ over own high = refl
own_frames number _ _ _ (comes f fs gs all soon behind) own high =
    let yes : nat_eq f.interface number ≡ true = let is = own.0 in grind (arith, nat_tests) in
    rw yes (ap (λ (xs : List Frame). f ∷ xs) (own_frames number fs gs all behind own.1 high))
own_frames number _ _ _ (goes g fs gs all late behind) own high =
    let no : nat_eq g.interface number ≡ false = let above = high.0 in grind (arith, nat_tests) in
    rw no (own_frames number fs gs all behind own high.1)

rest_frames : (number : ℕ) (fs gs all : List Frame) → Merges fs gs all → All (λ k. k ≡ number) fs → All (λ k. number < k) gs → filter (λ (frame : Frame). nat_lt number frame.interface) all ≡ gs
rest_frames number _ _ _ over own high = refl
rest_frames number _ _ _ (comes f fs gs all soon behind) own high =
    let no : nat_lt number f.interface ≡ false = let is = own.0 in grind (arith, nat_tests) in
    rw no (rest_frames number fs gs all behind own.1 high)
rest_frames number _ _ _ (goes g fs gs all late behind) own high =
    let yes : nat_lt number g.interface ≡ true = let above = high.0 in grind (arith, nat_tests) in
    rw yes (ap (λ (xs : List Frame). g ∷ xs) (rest_frames number fs gs all behind own high.1))

pub are_merged : (number : ℕ) (first others : List Frame) → AreOf number first → AreInOrder first → AreAbove number others → AreInOrder others → AreMerged number first others (merge first others)
are_merged number first others own own_order high high_order =
    let made = merges first others in
    let mine = all_of (λ k. k ≡ number) first own in
    let theirs = all_of (λ k. number < k) others high in record {
      own = own_frames number first others (merge first others) made mine theirs;
      rest = rest_frames number first others (merge first others) made mine theirs;
      order = in_order any_frame (merge first others) (merged_chain number first others (merge first others) made mine theirs any_frame (ordered first own_order) (ordered others high_order));
    }
