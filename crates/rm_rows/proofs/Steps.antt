-- What a reference does to the rows and their three orders.
use Rattle.std.proofs.Common.{◌≡◌, ℕ, ◌<◌, ◌≤◌, Bool, true, false, List, [], ◌∷◌, ◌++◌, find, nat_le, slice_get, Option, Some, refl, sym, ap, ◌∙◌, subst, arith, inl, inr}
use Rattle.std.specs.declared.cmp.Ordering.{Ordering}
use Rattle.std.specs.declared.cmp.Ordering.TheVariants.{Less, Greater}
use Rattle.std.specs.Cmp.{IsTotalOrder}
use Rattle.std.specs.Ordering.{ordering_reverse}
use Rattle.std.proofs.lemmas.Bool.{cases_Bool, le-leb}
use Rattle.std.proofs.lemmas.Bool.Decides.{nat_tests}
use Rattle.rm_evicting.specs.declared.Row.{Row}
use Rattle.rm_evicting.specs.Held.{IsExact}
use Rattle.rm_evicting.specs.Row.{holds, is_oldest, without_oldest, at_first, renewed}
use Rattle.rm_rows.specs.Stored.{In, Distinct, Pairwise, rows_by, Has, IsAfter, Later, Earlier, Before, Stored}
use Rattle.rm_rows.proofs.Members.{of_some, compared, in_at, in_append, in_left, in_middle, in_without, in_with, all_in, in_all, pair_without, pair_with, pair_push, pair_before, pair_at, pair_weaker, distinct_push, distinct_without, distinct_gone, apart_in}
use Rattle.rm_rows.proofs.RowsBy.{any_in, none_in, all_true, some_false, found_out, rows_out, rows_changed}

not_below : (m n : ℕ) → m < n → nat_le n m ≡ false
not_below m n h = grind (arith, nat_tests, h)

module _ {P : Type 0} (R : P → P → Type 0) where
  pair_after : (xs : List P) (p : P) (ys : List P) → Pairwise R (xs ++ p ∷ ys) → (q : P) → In q ys → R p q
  pair_after [] p ys h q k = in_all (R p) ys h.0 q k
  pair_after (x ∷ xs) p ys h q k = pair_after xs p ys h.1 q k

  pub pair_gone : (p : P) → ¬ (R p p) → (xs ys : List P) → Pairwise R (xs ++ p ∷ ys) → ¬ (In p (xs ++ ys))
  pair_gone p n xs ys h k = elim (in_append p xs ys k) [ inl a ↦ n (pair_before R xs p ys h p a) | inr b ↦ n (pair_after xs p ys h p b) ]

pub irreflexive : {K : Type 0} (cmp : K → K → Ordering) → IsTotalOrder cmp → (k : K) → cmp k k ≡ Less → ⊥
irreflexive cmp order k l = let back : Less ≡ Greater = sym l ∙ order.antisymm k k ∙ ap ordering_reverse l in cc

-- the row at p becomes another, and no other row does
module _ {P K V : Type 0} (row row' : P → Option (Row K V)) (es : List P) (p : P) (r r' : Row K V) (e : row p ≡ Some r) (e' : row' p ≡ Some r') (distinct : Distinct es) (member : In p es)
    (same : (q : P) → In q es → ¬ (q ≡ p) → row' q ≡ row q) where
  -- what both rows at p have alike, each row has as before
  told_back : {Y : Type 0} (of : Row K V → Y) → of r' ≡ of r → (q : P) → In q es → (s' : Row K V) → row' q ≡ Some s' → (s : Row K V) × (row q ≡ Some s) × (of s' ≡ of s)
  told_back of alike q k s' f = elim (apart_in p es distinct member q k) [
    | inl z ↦ (r, ap row z ∙ e, ap of (of_some (sym f ∙ ap row' z ∙ e')) ∙ alike)
    | inr m ↦ (s', sym (same q k m) ∙ f, refl)
  ]

  has_still : ((q : P) → In q es → Has row q) → (q : P) → In q es → Has row' q
  has_still has q k = elim (apart_in p es distinct member q k) [ inl z ↦ (r', ap row' z ∙ e') | inr m ↦ let on = has q k in (on.0, same q k m ∙ on.1) ]

-- the rows stay in order of entry and of keys where the key and the entry stay
record IsStill {P K V : Type 0} (cmp : K → K → Ordering) (row : P → Option (Row K V)) (es xs : List P) : Type 0 where
  has : (q : P) → In q es → Has row q
  rises : Pairwise (Earlier row) es
  sorted : Pairwise (Before row cmp) xs

is_still : {P K V : Type 0} (cmp : K → K → Ordering) (row row' : P → Option (Row K V)) (es rs xs : List P) (p : P) (r r' : Row K V) → row p ≡ Some r → row' p ≡ Some r' → r'.key ≡ r.key → r'.entry ≡ r.entry → In p es
    → ((q : P) → In q es → ¬ (q ≡ p) → row' q ≡ row q) → Stored row cmp es rs xs → IsStill cmp row' es xs
is_still {K = K} cmp row row' es rs xs p r r' e e' key entry member same h =
    let entry_back = told_back row row' es p r r' e e' h.distinct member same (λ w. w.entry) entry in
    let key_back = told_back row row' es p r r' e e' h.distinct member same (λ w. w.key) key in
    record {
      has = has_still row row' es p r r' e e' h.distinct member same h.has;
      rises = pair_weaker (Earlier row) (Earlier row') es (λ a b k m l x y f g.
          let x0 = entry_back a k x f in let y0 = entry_back b m y g in
          subst (λ (j : ℕ × ℕ). j.0 < j.1) (λ i. (sym x0.2 i, sym y0.2 i)) (l x0.0 y0.0 x0.1 y0.1)) h.rises;
      sorted = pair_weaker (Before row cmp) (Before row' cmp) xs (λ a b k m l x y f g.
          let x0 = key_back a (h.index.back a k) x f in let y0 = key_back b (h.index.back b m) y g in
          subst (λ (j : K × K). cmp j.0 j.1 ≡ Less) (λ i. (sym x0.2 i, sym y0.2 i)) (l x0.0 y0.0 x0.1 y0.1)) h.sorted;
    }

module _ {P K V : Type 0} (cmp : K → K → Ordering) (order : IsTotalOrder cmp) where
  pub not_before : (row : P → Option (Row K V)) (p : P) (r : Row K V) → row p ≡ Some r → ¬ (Before row cmp p p)
  not_before row p r e h = irreflexive cmp order r.key (h r r e e)

  pub not_later : (row : P → Option (Row K V)) (p : P) (r : Row K V) → row p ≡ Some r → ¬ (Later row p p)
  not_later row p r e h = let k : r.last < r.last = (h r r e e).0 in omega arith

  keys_differ : (row : P → Option (Row K V)) (p q : P) (r s : Row K V) → row p ≡ Some r → row q ≡ Some s → Before row cmp p q → ¬ (r.key ≡ s.key)
  keys_differ row p q r s e f b k = irreflexive cmp order s.key (subst (λ j. cmp j s.key ≡ Less) k (b r s e f))

  pub keys_apart : (row : P → Option (Row K V)) (xs : List P) → Pairwise (Before row cmp) xs → (p q : P) → In p xs → In q xs → ¬ (p ≡ q) → (r s : Row K V) → row p ≡ Some r → row q ≡ Some s → ¬ (r.key ≡ s.key)
  keys_apart row xs h p q a b n r s e f k =
      let i = in_at p xs a in let j = in_at q xs b in
      elim (compared i.0 j.0) [
        | inl lt ↦ keys_differ row p q r s e f (pair_at (Before row cmp) xs i.0 j.0 p q h lt i.2 j.2) k
        | inr m ↦ elim m [
          | inl same ↦ n (of_some (sym i.2 ∙ ap (slice_get xs) same ∙ j.2))
          | inr lt ↦ keys_differ row q p s r f e (pair_at (Before row cmp) xs j.0 i.0 q p h lt j.2 i.2) (sym k)
        ]
      ]

  -- p goes
  pub gone : (row : P → Option (Row K V)) (xs ys us vs ls bs : List P) (p : P) → Stored row cmp (xs ++ p ∷ ys) (us ++ p ∷ vs) (ls ++ p ∷ bs) → Stored row cmp (xs ++ ys) (us ++ vs) (ls ++ bs)
  gone row xs ys us vs ls bs p h =
      let on = h.has p (in_middle p xs ys) in
      let out = distinct_gone xs p ys h.distinct in
      let out_r = pair_gone (Later row) p (not_later row p on.0 on.1) us vs h.falls in
      let out_x = pair_gone (Before row cmp) p (not_before row p on.0 on.1) ls bs h.sorted in
      record {
        has = λ q k. h.has q (in_with q xs p ys k);
        distinct = distinct_without xs p ys h.distinct;
        rises = pair_without (Earlier row) xs p ys h.rises;
        since = λ q k. h.since q (in_with q xs p ys k);
        recent = record { there = λ q k. rest q us vs (λ e. out (subst (λ z. In z (xs ++ ys)) e k)) (h.recent.there q (in_with q xs p ys k)); back = λ q k. rest q xs ys (λ e. out_r (subst (λ z. In z (us ++ vs)) e k)) (h.recent.back q (in_with q us p vs k)) };
        index = record { there = λ q k. rest q ls bs (λ e. out (subst (λ z. In z (xs ++ ys)) e k)) (h.index.there q (in_with q xs p ys k)); back = λ q k. rest q xs ys (λ e. out_x (subst (λ z. In z (ls ++ bs)) e k)) (h.index.back q (in_with q ls p bs k)) };
        falls = pair_without (Later row) us p vs h.falls;
        sorted = pair_without (Before row cmp) ls p bs h.sorted;
      }
    where
      rest : (q : P) (ks ms : List P) → ¬ (q ≡ p) → In q (ks ++ p ∷ ms) → In q (ks ++ ms)
      rest q ks ms n k = elim (in_without q ks p ms k) [ inl e ↦ absurd (n e) | inr m ↦ m ]

  -- other rows in place of these, with the same keys and stamps
  pub kept_rows : (row row' : P → Option (Row K V)) (es rs xs : List P) → ((q : P) → In q es → row' q ≡ row q) → Stored row cmp es rs xs → Stored row' cmp es rs xs
  kept_rows row row' es rs xs same h = record {
    has = λ q k. let on = h.has q k in (on.0, same q k ∙ on.1);
    distinct = h.distinct;
    rises = pair_weaker (Earlier row) (Earlier row') es (λ p q a b l r s e f. l r s (sym (same p a) ∙ e) (sym (same q b) ∙ f)) h.rises;
    since = λ q k r e. h.since q k r (sym (same q k) ∙ e);
    recent = h.recent;
    index = h.index;
    falls = pair_weaker (Later row) (Later row') rs (λ p q a b l r s e f. l r s (sym (same p (h.recent.back p a)) ∙ e) (sym (same q (h.recent.back q b)) ∙ f)) h.falls;
    sorted = pair_weaker (Before row cmp) (Before row' cmp) xs (λ p q a b l r s e f. l r s (sym (same p (h.index.back p a)) ∙ e) (sym (same q (h.index.back q b)) ∙ f)) h.sorted;
  }

  -- p comes in: last by entry, first by recency, and in its place by key
  pub comes : (row : P → Option (Row K V)) (es rs ls bs : List P) (p : P) (r : Row K V) → row p ≡ Some r → r.entry ≡ r.last → ¬ (In p es)
      → ((q : P) → In q es → (s : Row K V) → row q ≡ Some s → IsAfter r s) → ((q : P) → In q ls → Before row cmp q p) → ((q : P) → In q bs → Before row cmp p q)
      → Stored row cmp es rs (ls ++ bs) → Stored row cmp (es ++ p ∷ []) (p ∷ rs) (ls ++ p ∷ bs)
  comes row es rs ls bs p r e new n last below above h = record {
    has = λ q k. elim (in_append q es (p ∷ []) k) [ inl a ↦ h.has q a | inr b ↦ elim b [ inl same ↦ (r, ap row same ∙ e) | inr z ↦ absurd z ] ];
    distinct = distinct_push es p n h.distinct;
    rises = pair_push (Earlier row) es p (λ q k a b f g.
        let before = (last q k a f).0 in let since = h.since q k a f in
        subst (λ (w : Row K V). a.entry < w.entry) (of_some (sym e ∙ g)) (let lt : a.entry < r.entry = omega (arith, before, since, new) in lt)) h.rises;
    since = λ q k. elim (in_append q es (p ∷ []) k) [
      | inl a ↦ h.since q a
      | inr b ↦ elim b [
        | inl same ↦ λ w f. subst (λ (w : Row K V). w.entry ≤ w.last) (of_some (sym e ∙ ap row (sym same) ∙ f)) (let le : r.entry ≤ r.last = omega (arith, new) in le)
        | inr z ↦ absurd z
      ]
    ];
    recent = record {
      there = λ q k. elim (in_append q es (p ∷ []) k) [ inl a ↦ inr (h.recent.there q a) | inr b ↦ elim b [ inl same ↦ inl same | inr z ↦ absurd z ] ];
      back = λ q k. elim k [ inl same ↦ subst (λ z. In z (es ++ p ∷ [])) (sym same) (in_middle p es []) | inr m ↦ in_left q es (p ∷ []) (h.recent.back q m) ];
    };
    index = record {
      there = λ q k. elim (in_append q es (p ∷ []) k) [ inl a ↦ in_with q ls p bs (h.index.there q a) | inr b ↦ elim b [ inl same ↦ subst (λ z. In z (ls ++ p ∷ bs)) (sym same) (in_middle p ls bs) | inr z ↦ absurd z ] ];
      back = λ q k. elim (in_without q ls p bs k) [ inl same ↦ subst (λ z. In z (es ++ p ∷ [])) (sym same) (in_middle p es []) | inr m ↦ in_left q es (p ∷ []) (h.index.back q m) ];
    };
    falls = (all_in (Later row p) rs (λ q k a s f g. subst (λ (w : Row K V). IsAfter w s) (of_some (sym e ∙ f)) (last q (h.recent.back q k) s g)), h.falls);
    sorted = pair_with (Before row cmp) ls p bs below above h.sorted;
  }

  -- the row at p is renewed, and p goes first by recency
  pub renews : (row row' : P → Option (Row K V)) (es us vs xs : List P) (p : P) (r r' : Row K V) → row p ≡ Some r → row' p ≡ Some r' → r'.key ≡ r.key → r'.entry ≡ r.entry → In p es
      → ((q : P) → In q es → ¬ (q ≡ p) → row' q ≡ row q) → ((q : P) → In q es → (s : Row K V) → row q ≡ Some s → IsAfter r' s)
      → Stored row cmp es (us ++ p ∷ vs) xs → Stored row' cmp es (p ∷ (us ++ vs)) xs
  renews row row' es us vs xs p r r' e e' key entry member same last h =
      let out_r = pair_gone (Later row) p (not_later row p r e) us vs h.falls in
      let near = apart_in p es h.distinct member in
      let still = is_still cmp row row' es (us ++ p ∷ vs) xs p r r' e e' key entry member same h in
      let away = λ (q : P) (k : In q (us ++ vs)) (z : q ≡ p). out_r (subst (λ y. In y (us ++ vs)) z k) in
      let member_r = λ (q : P) (k : In q (us ++ vs)). h.recent.back q (in_with q us p vs k) in
      record {
        has = still.has;
        distinct = h.distinct;
        rises = still.rises;
        since = λ q k s' f. elim (near q k) [
          | inl z ↦ subst (λ (w : Row K V). w.entry ≤ w.last) (of_some (sym e' ∙ ap row' (sym z) ∙ f))
              (let before = (last p member r e).0 in let since = h.since p member r e in let le : r'.entry ≤ r'.last = omega (arith, before, since, entry) in le)
          | inr m ↦ h.since q k s' (sym (same q k m) ∙ f)
        ];
        recent = record {
          there = λ q k. in_without q us p vs (h.recent.there q k);
          back = λ q k. elim k [ inl z ↦ subst (λ y. In y es) (sym z) member | inr m ↦ member_r q m ];
        };
        index = h.index;
        falls = (
          all_in (Later row' p) (us ++ vs) (λ q k a s f g. subst (λ (w : Row K V). IsAfter w s) (of_some (sym e' ∙ f)) (last q (member_r q k) s (sym (same q (member_r q k) (away q k)) ∙ g))),
          pair_weaker (Later row) (Later row') (us ++ vs) (λ a b k m l x y f g. l x y (sym (same a (member_r a k) (away a k)) ∙ f) (sym (same b (member_r b m) (away b m)) ∙ g)) (pair_without (Later row) us p vs h.falls),
        );
        sorted = still.sorted;
      }

  module _ (eq : K → K → Bool) (exact : IsExact eq) where
    -- a key that differs from that of each place by key is held by none
    pub absent : (row : P → Option (Row K V)) (es rs xs : List P) (h : K) → Stored row cmp es rs xs → ((q : P) → In q xs → (s : Row K V) → row q ≡ Some s → ¬ (h ≡ s.key)) → holds eq h (rows_by row es) ≡ false
    absent row es rs xs h st off = none_in row (λ s. eq h s.key) es (λ q k s e. differs s (off q (st.index.there q k) s e)) st.has
      where
        differs : (s : Row K V) → ¬ (h ≡ s.key) → eq h s.key ≡ false
        differs s n = elim (cases_Bool (eq h s.key)) [ inl t ↦ absurd (n (exact.same h s.key t)) | inr f ↦ f ]

    pub present : (row : P → Option (Row K V)) (es rs xs : List P) (h : K) (p : P) (r : Row K V) → Stored row cmp es rs xs → In p es → row p ≡ Some r → r.key ≡ h → holds eq h (rows_by row es) ≡ true
    present row es rs xs h p r st k e key = any_in row (λ s. eq h s.key) es p r st.has k e (subst (λ j. eq h j ≡ true) (sym key) (exact.itself h))

    pub renewed_rows : (row row' : P → Option (Row K V)) (es rs xs : List P) (h : K) (stamp tick : ℕ) (p : P) (r : Row K V) → Stored row cmp es rs xs → In p es → row p ≡ Some r → r.key ≡ h
        → row' p ≡ Some (record r { last = stamp; tick = tick }) → ((q : P) → In q es → ¬ (q ≡ p) → row' q ≡ row q) → rows_by row' es ≡ renewed eq h stamp tick (rows_by row es)
    renewed_rows row row' es rs xs h stamp tick p r st k e key e' same =
        rows_changed row (λ s. eq h s.key) row' (λ s. record s { last = stamp; tick = tick }) es p r e e' (subst (λ j. eq h j ≡ true) (sym key) (exact.itself h)) same
        (λ q m n s f. elim (cases_Bool (eq h s.key)) [
          | inl t ↦ absurd (keys_apart row xs st.sorted q p (st.index.there q m) (st.index.there p k) n s r f e (sym (exact.same h s.key t) ∙ sym key))
          | inr t ↦ t
        ]) st.has st.distinct k

  -- in a table whose last place by recency is p, p's row is the oldest
  module _ (row : P → Option (Row K V)) (xs ys ws zs : List P) (p : P) (r : Row K V) (h : Stored row cmp (xs ++ p ∷ ys) (ws ++ p ∷ []) zs) (e : row p ≡ Some r) where
    abbrev es : List P
    es = xs ++ p ∷ ys

    others : (q : P) → In q es → ¬ (q ≡ p) → (s : Row K V) → row q ≡ Some s → r.last < s.last
    others q k n s f = elim (in_append q ws (p ∷ []) (h.recent.there q k)) [
      | inl a ↦ (pair_before (Later row) ws p [] h.falls q a s r f e).0
      | inr b ↦ elim b [ inl z ↦ absurd (n z) | inr z ↦ absurd z ]
    ]

    oldest_here : is_oldest (rows_by row es) r ≡ true
    oldest_here = all_true row (λ s. nat_le r.last s.last) es (λ q k s f. elim (in_without q xs p ys k) [
      | inl z ↦ ap (λ (w : Row K V). nat_le r.last w.last) (of_some (sym f ∙ ap row z ∙ e)) ∙ le-leb r.last r.last (omega arith)
      | inr m ↦ let lt = others q k (λ z. distinct_gone xs p ys h.distinct (subst (λ y. In y (xs ++ ys)) z m)) s f in le-leb r.last s.last (omega arith)
    ]) h.has

    oldest_not : (q : P) → In q xs → (s : Row K V) → row q ≡ Some s → is_oldest (rows_by row es) s ≡ false
    oldest_not q k s f =
        let lt = others q (in_left q xs (p ∷ ys) k) (λ z. distinct_gone xs p ys h.distinct (subst (λ y. In y (xs ++ ys)) z (in_left q xs ys k))) s f in
        some_false row (λ o. nat_le s.last o.last) es p r h.has (in_middle p xs ys) e (not_below r.last s.last lt)

    pub oldest_found : find (is_oldest (rows_by row es)) (rows_by row es) ≡ Some r
    oldest_found = found_out row (is_oldest (rows_by row es)) xs p ys r e oldest_here oldest_not (λ q k. h.has q (in_left q xs (p ∷ ys) k))

    pub oldest_out : rows_by row (xs ++ ys) ≡ without_oldest (rows_by row es)
    oldest_out = rows_out row (is_oldest (rows_by row es)) xs p ys r e oldest_here oldest_not (λ q k. h.has q (in_left q xs (p ∷ ys) k))

module _ {P K V : Type 0} (cmp : K → K → Ordering) where
  -- the row at p has another value
  pub revalued : (row row' : P → Option (Row K V)) (es rs xs : List P) (p : P) (r r' : Row K V) → row p ≡ Some r → row' p ≡ Some r' → r'.key ≡ r.key → r'.entry ≡ r.entry → r'.last ≡ r.last → r'.tick ≡ r.tick → In p es
      → ((q : P) → In q es → ¬ (q ≡ p) → row' q ≡ row q) → Stored row cmp es rs xs → Stored row' cmp es rs xs
  revalued row row' es rs xs p r r' e e' key entry last tick member same h =
      let still = is_still cmp row row' es rs xs p r r' e e' key entry member same h in
      let since_back = told_back row row' es p r r' e e' h.distinct member same (λ w. (w.entry, w.last)) (λ i. (entry i, last i)) in
      let last_back = told_back row row' es p r r' e e' h.distinct member same (λ w. (w.last, w.tick)) (λ i. (last i, tick i)) in
      record {
        has = still.has;
        distinct = h.distinct;
        rises = still.rises;
        since = λ q k s' f. let on = since_back q k s' f in subst (λ (j : ℕ × ℕ). j.0 ≤ j.1) (sym on.2) (h.since q k on.0 on.1);
        recent = h.recent;
        index = h.index;
        falls = pair_weaker (Later row) (Later row') rs (λ a b k m l x y f g.
            let x0 = last_back a (h.recent.back a k) x f in let y0 = last_back b (h.recent.back b m) y g in
            subst (λ (j : (ℕ × ℕ) × (ℕ × ℕ)). (j.1.0 < j.0.0) × (j.1.1 ≤ j.0.1)) (λ i. (sym x0.2 i, sym y0.2 i)) (l x0.0 y0.0 x0.1 y0.1)) h.falls;
        sorted = still.sorted;
      }

module _ {P K V : Type 0} (cmp : K → K → Ordering) (order : IsTotalOrder cmp) (eq : K → K → Bool) (exact : IsExact eq) where
  -- the row of a key changes
  pub changed_rows : (row row' : P → Option (Row K V)) (es rs xs : List P) (h : K) (f : Row K V → Row K V) (p : P) (r : Row K V) → Stored row cmp es rs xs → In p es → row p ≡ Some r → r.key ≡ h
      → row' p ≡ Some (f r) → ((q : P) → In q es → ¬ (q ≡ p) → row' q ≡ row q) → rows_by row' es ≡ at_first (λ s. eq h s.key) f (rows_by row es)
  changed_rows row row' es rs xs h f p r st k e key e' same =
      rows_changed row (λ s. eq h s.key) row' f es p r e e' (subst (λ j. eq h j ≡ true) (sym key) (exact.itself h)) same
      (λ q m n s g. elim (cases_Bool (eq h s.key)) [
        | inl t ↦ absurd (keys_apart cmp order row xs st.sorted q p (st.index.there q m) (st.index.there p k) n s r g e (sym (exact.same h s.key t) ∙ sym key))
        | inr t ↦ t
      ]) st.has st.distinct k
