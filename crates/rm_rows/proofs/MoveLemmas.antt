-- Moves of nodes, and what is kept over them.
use Rattle.std.proofs.Common.{◌≡◌, ℕ, ◌+◌, ◌<◌, ◌≤◌, Bool, List, [], ◌∷◌, ◌++◌, length, take, drop, insert, find, Option, Some, All, refl, sym, ap, ◌∙◌, subst, arith, inl, inr}
use Rattle.std.specs.declared.cmp.Ordering.{Ordering}
use Rattle.std.specs.declared.cmp.Ordering.TheVariants.{Less}
use Rattle.std.specs.Cmp.{IsTotalOrder}
use denote.RawPtr.{Ptr}
use Rattle.rm_evicting.specs.declared.Row.{Row}
use Rattle.rm_evicting.specs.Held.{IsExact}
use Rattle.rm_evicting.specs.Row.{renewed, is_oldest, without_oldest}
use Rattle.rm_recency.specs.declared.RecencyList.{RecencyList}
use Rattle.rm_recency.specs.Threads.{Threaded, IsAt, place, row_at, SameNodes, IsNone, Added, RowSet}
use Rattle.rm_recency.proofs.ThreadLemmas.{place_as, at_as, same_trans, last_cut}
use Rattle.rm_recency.proofs.RowLemmas.{place_by, at_by}
use Rattle.rm_rows.specs.Stored.{In, rows_by, Later, Earlier, Stored}
use Rattle.rm_rows.proofs.Members.{of_some, in_cut, in_append, in_middle, in_with, in_take, in_drop, join_at, all_in, in_all, pair_weaker, distinct_gone}
use Rattle.rm_rows.proofs.RowsBy.{rows_same, rows_push}
use Rattle.rm_rows.proofs.Steps.{pair_gone, not_later, renews, renewed_rows, kept_rows, comes, gone, oldest_out, oldest_found}
use Rattle.rm_rows.specs.Index.{rows_in, IsByEntry, IsIndex, HasKey, IsGap, IsWithout, Kept, Loose, Fits, PutOut}
use Rattle.rm_rows.proofs.KeptLemmas.{same_place, none_from, same_rows, all_after, member_at, is_index, index_as, gap_as}

length_push : {X : Type 0} (l : List X) (x : X) → length (l ++ x ∷ []) ≡ length l + 1
length_push [] x = refl
length_push (y ∷ l) x = let e = length_push l x in omega arith

module _ {K V : Type 0} (cmp : K → K → Ordering) (order : IsTotalOrder cmp) where
  -- a row is renewed: t, after `unlink`, after `link_front`, after `set_row`
  module _ (t t₁ t₂ t₃ : RecencyList K V) (p : Ptr) (r r' : Row K V)
      (list₁ : (us vs : List Ptr) → Threaded t (us ++ p ∷ vs) → Threaded t₁ (us ++ vs)) (same₁ : SameNodes t t₁)
      (list₂ : (ps : List Ptr) → Threaded t₁ ps → IsNone t₁ p ps → Threaded t₂ (p ∷ ps)) (same₂ : SameNodes t₁ t₂)
      (row : row_at t₂ p ≡ Some r) (sets : RowSet t₂ t₃ p r') (key : r'.key ≡ r.key) (entered : r'.entry ≡ r.entry)
      (es xs : List Ptr) (k : Kept cmp t es xs) (member : In p xs) where
    in_es : In p es
    in_es = k.stored.index.back p member

    renewed_at : (q : Ptr) → In q es → IsAt t q
    renewed_at = member_at cmp t es k.rs xs k.links k.recency k.stored

    moved : SameNodes t t₂
    moved = same_trans t t₁ t₂ same₁ same₂

    was : row_at t p ≡ Some r
    was = sym (same_rows t₁ t₂ same₂ p ∙ same_rows t t₁ same₁ p) ∙ row

    far : (q : Ptr) → In q es → ¬ (q ≡ p) → row_at t₃ q ≡ row_at t q
    far q h n =
        sets.there q (λ e. n (same_place t q p (renewed_at q h) (renewed_at p in_es) (sym (place_as t t₂ moved q) ∙ e ∙ place_as t t₂ moved p))) ∙ same_rows t₁ t₂ same₂ q ∙ same_rows t t₁ same₁ q

    pub renew_kept : All (λ (s : Row K V). s.last < r'.last) (rows_in t es) → All (λ (s : Row K V). s.tick ≤ r'.tick) (rows_in t es) → Kept cmp t₃ es xs
    renew_kept stamp ticks =
        let cut = in_cut p k.rs (k.stored.recent.there p in_es) in let us = cut.0 in let vs = cut.1 in
        let stored = subst (λ (l : List Ptr). Stored (row_at t) cmp es l xs) cut.2 k.stored in
        let thread₁ : Threaded t₁ (us ++ vs) = list₁ us vs (subst (Threaded t) cut.2 k.recency) in
        let none : IsNone t₁ p (us ++ vs) = none_from t₁ p (us ++ vs) (at_as t t₁ same₁ p (renewed_at p in_es)) thread₁.links (pair_gone (Later (row_at t)) p (not_later cmp order (row_at t) p r was) us vs stored.falls) in
        record {
          rs = p ∷ (us ++ vs);
          recency = sets.keeps (p ∷ (us ++ vs)) (list₂ (us ++ vs) thread₁ none);
          links = all_in (IsAt t₃) es (λ q h. at_by t₂ t₃ sets.bytes q (sym sets.len) (at_as t t₂ moved q (renewed_at q h)));
          count = k.count ∙ sym (sets.len ∙ same₂.len ∙ same₁.len);
          stored = renews cmp order (row_at t) (row_at t₃) es us vs xs p r r' was sets.here key entered in_es far (all_after t es r' stamp ticks) stored;
        }

    pub renew_rows : (eq : K → K → Bool) → IsExact eq → (h : K) (tick : ℕ) → HasKey cmp t p h → r' ≡ record r { last = r'.last; tick = tick }
        → rows_in t₃ es ≡ renewed eq h r'.last tick (rows_in t es)
    renew_rows eq exact h tick has new =
        let is : r.key ≡ h = ap (λ (w : Row K V). w.key) (of_some (sym was ∙ has.1)) ∙ has.2 in
        renewed_rows cmp order eq exact (row_at t) (row_at t₃) es k.rs xs h r'.last tick p r k.stored in_es was is (sets.here ∙ ap (λ (w : Row K V). Some w) new) far

  -- a loose node is put in: t, after `link_front`
  module _ (t t₁ : RecencyList K V) (p : Ptr)
      (list₁ : (ps : List Ptr) → Threaded t ps → IsNone t p ps → Threaded t₁ (p ∷ ps)) (same₁ : SameNodes t t₁)
      (es xs : List Ptr) where
    rows₁ : (q : Ptr) → row_at t₁ q ≡ row_at t q
    rows₁ q = same_rows t t₁ same₁ q

    put_at : (q : Ptr) → IsAt t q → IsAt t₁ q
    put_at = at_as t t₁ same₁

    pub put_kept : (i : ℕ) → Loose cmp t es xs p → Fits cmp t xs p i → Kept cmp t₁ (es ++ p ∷ []) (insert xs i p)
    put_kept i l f =
        let here : row_at t₁ p ≡ Some f.row = rows₁ p ∙ f.here in
        let none = none_from t p l.rs l.at l.recency.links (λ h. l.out (l.stored.recent.back p h)) in
        let stored₁ : Stored (row_at t₁) cmp es l.rs (take i xs ++ drop i xs) = subst (λ (m : List Ptr). Stored (row_at t₁) cmp es l.rs m) (sym (join_at xs i)) (kept_rows cmp order (row_at t) (row_at t₁) es l.rs xs (λ q h. rows₁ q) l.stored) in
        record {
          rs = p ∷ l.rs;
          recency = list₁ l.rs l.recency none;
          links = all_in (IsAt t₁) (es ++ p ∷ []) (λ q h. elim (in_append q es (p ∷ []) h) [
            | inl a ↦ put_at q (in_all (IsAt t) es l.links q a)
            | inr b ↦ elim b [ inl e ↦ subst (IsAt t₁) (sym e) (put_at p l.at) | inr z ↦ absurd z ]
          ]);
          count = length_push es p ∙ l.count ∙ sym same₁.len;
          stored = comes cmp order (row_at t₁) es l.rs (take i xs) (drop i xs) p f.row here f.new l.out
              (λ q h s e. f.latest q s (l.stored.index.there q h) (sym (rows₁ q) ∙ e))
              (λ q h a b e g. let on = in_take q xs i h in subst (λ (w : Row K V). cmp a.key w.key ≡ Less) (of_some (sym here ∙ g)) (f.gap.below on.0 q a on.1 on.2 (sym (rows₁ q) ∙ e)))
              (λ q h a b e g. let on = in_drop q xs i h in subst (λ (w : Row K V). cmp w.key b.key ≡ Less) (of_some (sym here ∙ e)) (f.gap.above on.0 q b on.1 on.2 (sym (rows₁ q) ∙ g)))
              stored₁;
        }

    pub put_rows : (row : Row K V) → row_at t p ≡ Some row → rows_in t₁ (es ++ p ∷ []) ≡ rows_in t es ++ row ∷ []
    put_rows row e =
        rows_push (row_at t₁) es p row (rows₁ p ∙ e) ∙ ap (λ (m : List (Row K V)). m ++ row ∷ []) (rows_same (row_at t) (row_at t₁) es (λ q h. rows₁ q))

  -- a node that was added is loose
  module _ (t t₁ : RecencyList K V) (p : Ptr) (row : Row K V) (added : Added t t₁ p row) (es xs : List Ptr) (k : Kept cmp t es xs) where
    added_at : (q : Ptr) → In q es → IsAt t q
    added_at = member_at cmp t es k.rs xs k.links k.recency k.stored

    there : (q : Ptr) → In q es → row_at t₁ q ≡ row_at t q
    there q h = added.there q (added_at q h)

    pub added_loose : Loose cmp t₁ es xs p
    added_loose = record {
      rs = k.rs;
      recency = added.keeps k.rs k.recency;
      links = all_in (IsAt t₁) es (λ q h. added.stays q (added_at q h));
      count = let c = k.count in let l = added.len in omega arith;
      stored = kept_rows cmp order (row_at t) (row_at t₁) es k.rs xs there k.stored;
      at = added.at;
      out = λ h. let a : place t p < t.nodes.len = (added_at p h).0 in let b : place t p ≡ t.nodes.len = sym (place_by t t₁ added.bytes p) ∙ added.place in omega arith;
    }

    pub added_fits : (i : ℕ) → IsGap cmp t xs row.key i → row.entry ≡ row.last → All (λ (r : Row K V). r.last < row.last) (rows_in t es) → All (λ (r : Row K V). r.tick ≤ row.tick) (rows_in t es) → Fits cmp t₁ xs p i
    added_fits i gap new stamp ticks = record {
      row = row;
      here = added.here;
      new = new;
      gap = gap_as cmp t t₁ xs row.key i (λ q m. there q (k.stored.index.back q m)) gap;
      latest = λ q s h e. all_after t es row stamp ticks q (k.stored.index.back q h) s (sym (there q (k.stored.index.back q h)) ∙ e);
    }

    pub added_rows : rows_in t₁ es ≡ rows_in t es
    added_rows = rows_same (row_at t) (row_at t₁) es there

append_nil : {X : Type 0} (l : List X) → l ++ [] ≡ l
append_nil [] = refl
append_nil (x ∷ l) = ap (λ m. x ∷ m) (append_nil l)

length_cut : {X : Type 0} (l : List X) (x : X) (m : List X) → length (l ++ m) + 1 ≡ length (l ++ x ∷ m)
length_cut [] x m = omega arith
length_cut (y ∷ l) x m = let e = length_cut l x m in omega arith

module _ {K V : Type 0} (cmp : K → K → Ordering) (order : IsTotalOrder cmp) where
  module _ (t : RecencyList K V) (es xs : List Ptr) (k : Kept cmp t es xs) where
    -- a table that isn't empty has a last node by recency
    pub recent_last : 0 < t.nodes.len → (ws : List Ptr) × (q : Ptr) × (k.rs ≡ ws ++ q ∷ [])
    recent_last some = with_es es refl
      where
        with_rs : (q : Ptr) (l : List Ptr) → In q l → (ws : List Ptr) × (r : Ptr) × (l ≡ ws ++ r ∷ [])
        with_rs q [] h = absurd h
        with_rs q (x ∷ l) h = last_cut x l

        with_es : (l : List Ptr) → es ≡ l → (ws : List Ptr) × (q : Ptr) × (k.rs ≡ ws ++ q ∷ [])
        with_es [] e = let n : 0 ≡ t.nodes.len = sym (ap length e) ∙ k.count in absurd (omega arith)
        with_es (q ∷ l) e = with_rs q k.rs (k.stored.recent.there q (subst (In q) (sym e) (inl refl)))

    -- the last node by recency has been taken out of that list
    module _ (t₁ : RecencyList K V) (some : 0 < t.nodes.len) (result : Option Ptr) (takes : (ws : List Ptr) (q : Ptr) → Threaded t (ws ++ q ∷ []) → (result ≡ Some q) × Threaded t₁ ws) where
      pub takes_some : (q : Ptr) × (result ≡ Some q)
      takes_some = let on = recent_last some in (on.1, (takes on.0 on.1 (subst (Threaded t) on.2 k.recency)).0)

      module _ (p : Ptr) (is : result ≡ Some p) (same₁ : SameNodes t t₁) where
        pub taken : (ws : List Ptr) × (k.rs ≡ ws ++ p ∷ []) × Threaded t₁ ws
        taken =
            let on = recent_last some in let got = takes on.0 on.1 (subst (Threaded t) on.2 k.recency) in
            (on.0, on.2 ∙ ap (λ (q : Ptr). on.0 ++ q ∷ []) (of_some (sym got.0 ∙ is)), got.1)

        pub taken_in : In p es
        taken_in = k.stored.recent.back p (subst (In p) (sym taken.1) (in_middle p taken.0 []))

        taken_all : (q : Ptr) → In q es → IsAt t₁ q
        taken_all q h = at_as t t₁ same₁ q (member_at cmp t es k.rs xs k.links k.recency k.stored q h)

        pub taken_at : IsAt t₁ p
        taken_at = taken_all p taken_in

        same_row : (q : Ptr) → row_at t₁ q ≡ row_at t q
        same_row q = same_rows t t₁ same₁ q

        pub taken_order : IsByEntry t₁ es
        taken_order = (all_in (IsAt t₁) es taken_all, pair_weaker (Earlier (row_at t)) (Earlier (row_at t₁)) es (λ p q a b l r s e f. l r s (sym (same_row p) ∙ e) (sym (same_row q) ∙ f)) k.stored.rises)

        pub taken_index : IsIndex cmp t₁ xs
        taken_index = index_as cmp t t₁ xs (at_as t t₁ same₁) same_row (is_index cmp t es k.rs xs k.links k.recency k.stored)

        pub taken_member : In p xs
        taken_member = k.stored.index.there p taken_in

        pub put_out_is : (r : Row K V) (es' xs' : List Ptr) → row_at t₁ p ≡ Some r → IsWithout es p es' → IsWithout xs p xs' → PutOut cmp t t₁ es es' xs xs' p
        put_out_is r es' xs' here left out =
            let as₁ = left.0 in let bs₁ = left.1 in let ws = taken.0 in let us = out.0 in let vs = out.1 in
            let was : row_at t p ≡ Some r = sym (same_row p) ∙ here in
            let st : Stored (row_at t) cmp (as₁ ++ p ∷ bs₁) (ws ++ p ∷ []) (us ++ p ∷ vs) =
            subst (λ (w : List Ptr × List Ptr × List Ptr). Stored (row_at t) cmp w.0 w.1 w.2) (λ i. (left.2 i, taken.1 i, out.2 i)) k.stored in
            let rest : Stored (row_at t) cmp es' ws xs' =
            subst (λ (w : List Ptr × List Ptr × List Ptr). Stored (row_at t) cmp w.0 w.1 w.2) (λ i. (sym left.3 i, append_nil ws i, sym out.3 i)) (gone cmp order (row_at t) as₁ bs₁ ws [] us vs p st) in
            let old : rows_in t es ≡ rows_by (row_at t) (as₁ ++ p ∷ bs₁) = ap (rows_by (row_at t)) left.2 in
            let among : (q : Ptr) → In q es' → In q es = (λ q h. subst (In q) (sym left.2) (in_with q as₁ p bs₁ (subst (In q) left.3 h))) in
            record {
              loose = record {
                rs = ws;
                recency = taken.2;
                links = all_in (IsAt t₁) es' (λ q h. taken_all q (among q h));
                count = ap (λ (l : List Ptr). length l + 1) left.3 ∙ length_cut as₁ p bs₁ ∙ sym (ap length left.2) ∙ k.count ∙ sym same₁.len;
                stored = kept_rows cmp order (row_at t) (row_at t₁) es' ws xs' (λ q h. same_row q) rest;
                at = taken_at;
                out = λ h. distinct_gone as₁ p bs₁ st.distinct (subst (In p) left.3 h);
              };
              rows = rows_same (row_at t) (row_at t₁) es' (λ q h. same_row q) ∙ ap (rows_by (row_at t)) left.3 ∙ oldest_out cmp order (row_at t) as₁ bs₁ ws (us ++ p ∷ vs) p r st was ∙ ap without_oldest (sym old);
              row = r;
              here = here;
              oldest = ap (λ (l : List (Row K V)). find (is_oldest l) l) old ∙ oldest_found cmp order (row_at t) as₁ bs₁ ws (us ++ p ∷ vs) p r st was;
              same = same_row;
              among = λ q h. subst (In q) (sym out.2) (in_with q us p vs (subst (In q) out.3 h));
            }

  -- a loose node gets another row: t, after `put_out`, after `set_row`
  module _ (t t₁ t₂ : RecencyList K V) (es es' xs xs' : List Ptr) (p : Ptr) (row : Row K V) (k : Kept cmp t es xs) (o : PutOut cmp t t₁ es es' xs xs' p) (sets : RowSet t₁ t₂ p row) where
    abbrev l : Loose cmp t₁ es' xs' p
    l = o.loose

    set_at : (q : Ptr) → IsAt t₁ q → IsAt t₂ q
    set_at q h = at_by t₁ t₂ sets.bytes q (sym sets.len) h

    still : (q : Ptr) → In q es' → row_at t₂ q ≡ row_at t₁ q
    still q h =
        sets.there q (λ e. l.out (subst (λ z. In z es') (same_place t₁ q p (member_at cmp t₁ es' l.rs xs' l.links l.recency l.stored q h) l.at e) h))

    pub set_loose : Loose cmp t₂ es' xs' p
    set_loose = record {
      rs = l.rs;
      recency = sets.keeps l.rs l.recency;
      links = all_in (IsAt t₂) es' (λ q h. set_at q (in_all (IsAt t₁) es' l.links q h));
      count = l.count ∙ sym sets.len;
      stored = kept_rows cmp order (row_at t₁) (row_at t₂) es' l.rs xs' still l.stored;
      at = set_at p l.at;
      out = l.out;
    }

    pub set_rows : rows_in t₂ es' ≡ without_oldest (rows_in t es)
    set_rows = rows_same (row_at t₁) (row_at t₂) es' still ∙ o.rows

    pub set_fits : (i : ℕ) → IsGap cmp t₁ xs' row.key i → row.entry ≡ row.last → All (λ (r : Row K V). r.last < row.last) (rows_in t es) → All (λ (r : Row K V). r.tick ≤ row.tick) (rows_in t es) → Fits cmp t₂ xs' p i
    set_fits i gap new stamp ticks = record {
      row = row;
      here = sets.here;
      new = new;
      gap = gap_as cmp t₁ t₂ xs' row.key i (λ q m. still q (l.stored.index.back q m)) gap;
      latest = λ q s h e. all_after t es row stamp ticks q (k.stored.index.back q (o.among q h)) s (sym (still q (l.stored.index.back q h) ∙ o.same q) ∙ e);
    }
