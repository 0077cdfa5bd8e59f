-- The value of one row is lent.
use Rattle.std.proofs.Common.{◌≡◌, ℕ, Bool, List, [], ◌∷◌, find, slice_get, Option, Some, None, IfSome, IfNone, refl, sym, ap, ◌∙◌, subst, arith, inl, inr}
use Rattle.std.specs.Option.{option_map}
use Rattle.std.specs.Borrow.{MutBor}
use Rattle.std.specs.declared.cmp.Ordering.{Ordering}
use Rattle.std.specs.Cmp.{IsTotalOrder}
use Rattle.std.proofs.lemmas.Bool.{cases_Bool}
use Rattle.std.proofs.lemmas.Option.{get_or_from_slice_get}
use Rattle.std.specs.declared.vec.Vec.{Vec}
use Rattle.std_alloc.specs.declared.vec.deque.VecDeque.{VecDeque}
use Rattle.std.specs.declared.alloc.Global.{Global}
use denote.RawPtr.{Ptr}
use Rattle.rm_evicting.specs.declared.Row.{Row}
use Rattle.rm_evicting.specs.Held.{IsExact}
use Rattle.rm_evicting.specs.Row.{at_first}
use Rattle.rm_recency.specs.declared.Node.{Node}
use Rattle.rm_recency.specs.declared.RecencyList.{RecencyList}
use Rattle.rm_recency.specs.Threads.{IsAt, IsAtSome, place, row_of, row_at, RowSet, value_by}
use Rattle.rm_recency.specs.Lending.{valued, with_value_of, with_value as with_value_in, with_value_at}
use Rattle.rm_recency.proofs.RowLemmas.{row_set, at_by}
use Rattle.rm_rows.specs.Stored.{In}
use Rattle.rm_rows.proofs.Members.{of_some, all_in}
use Rattle.rm_rows.proofs.Steps.{revalued, changed_rows}
use Rattle.rm_rows.specs.Table.{row_of as row_of_key, value_of, with_value}
use Rattle.rm_rows.specs.Index.{rows_in, HasKey, Kept, IsReserved}
use Rattle.rm_rows.proofs.KeptLemmas.{member_at, same_place}
use Rattle.rm_rows.proofs.TouchLemmas.{seek_some}

-- a list in which none passes has none changed
pub unchanged : {X : Type 0} (test : X → Bool) (f : X → X) (xs : List X) → find test xs ≡ None → at_first test f xs ≡ xs
unchanged test f [] e = refl
unchanged test f (x ∷ xs) e = elim (cases_Bool (test x)) [
  | inl a ↦ let n : Some x ≡ None = rw a at e in absurd (some_none n)
  | inr b ↦ rw b (ap (λ l. x ∷ l) (unchanged test f xs (rw b at e)))
]
  where
    some_none : Some x ≡ None → ⊥
    some_none e = cc

none_some : {X : Type 0} {x : X} → None ≡ Some x → ⊥
none_some e = cc

node_from : {K V : Type 0} (o : Option (Node K V)) (r : Row K V) → option_map row_of o ≡ Some r → (n : Node K V) × (o ≡ Some n) × (n.row ≡ r)
node_from None r e = absurd (none_some e)
node_from (Some n) r e = (n, refl, of_some e)

module _ {K V : Type 0} (t : RecencyList K V) (p : Ptr) (w : V) (at : IsAt t p) (r : Row K V) (here : row_at t p ≡ Some r) where
  abbrev with_w : Row K V → Row K V
  with_w s = record s { value = w }

  sets : RowSet t (with_value_in t p w) p (with_w r)
  sets =
      let on = node_from (slice_get t.nodes.items (place t p)) r here in let n = on.0 in
      subst (λ (o : Option (Node K V)). RowSet t (with_value_of t p w o) p (with_w r)) (sym on.1)
      (subst (λ (s : Row K V). RowSet t (with_value_of t p w (Some n)) p (with_w s)) on.2
      (row_set t p n (valued n w) at (sym (get_or_from_slice_get t.nodes.items (place t p) n n on.1)) refl))

module _ {K V : Type 0} (cmp : K → K → Ordering) (order : IsTotalOrder cmp) (eq : K → K → Bool) (exact : IsExact eq) (t : RecencyList K V) (es xs : List Ptr) (k : Kept cmp t es xs) where
  module _ (p : Ptr) (w : V) (h : K) (member : In p xs) (has : HasKey cmp t p h) where
    in_es : In p es
    in_es = k.stored.index.back p member

    at : (q : Ptr) → In q es → IsAt t q
    at = member_at cmp t es k.rs xs k.links k.recency k.stored

    abbrev r : Row K V
    r = has.0

    lent : RowSet t (with_value_in t p w) p (with_w t p w (at p in_es) r has.1 r)
    lent = sets t p w (at p in_es) r has.1

    far : (q : Ptr) → In q es → ¬ (q ≡ p) → row_at (with_value_in t p w) q ≡ row_at t q
    far q h n = lent.there q (λ e. n (same_place t q p (at q h) (at p in_es) e))

    lent_kept : Kept cmp (with_value_in t p w) es xs
    lent_kept = record {
      rs = k.rs;
      recency = lent.keeps k.rs k.recency;
      links = all_in (IsAt (with_value_in t p w)) es (λ q h. at_by t (with_value_in t p w) lent.bytes q (sym lent.len) (at q h));
      count = k.count ∙ sym lent.len;
      stored = revalued cmp (row_at t) (row_at (with_value_in t p w)) es k.rs xs p r (record r { value = w }) has.1 lent.here refl refl refl refl in_es far k.stored;
    }

    lent_rows : rows_in (with_value_in t p w) es ≡ with_value eq h w (rows_in t es)
    lent_rows = changed_rows cmp order eq exact (row_at t) (row_at (with_value_in t p w)) es k.rs xs h (λ (s : Row K V). record s { value = w }) p r k.stored in_es has.1 has.2 lent.here far

  abbrev pub IsNode : K → Option Ptr → Type 0
  IsNode h o = IfSome o (λ p. In p xs × HasKey cmp t p h)

  pub none_for : (h : K) (o : Option Ptr) → IfNone o ((es' : List Ptr) → Kept cmp t es' xs → row_of_key eq h (rows_in t es') ≡ None) → IfNone o (row_of_key eq h (rows_in t es) ≡ None)
  none_for h None f = f es k
  none_for h (Some p) f = tt

  pub node_at_some : (h : K) (o : Option Ptr) → IsNode h o → IsAtSome t o
  node_at_some h None i = tt
  node_at_some h (Some p) i = at p 0 h i.0 i.1
    where
      at : (p : Ptr) → ℕ → (h : K) → In p xs → HasKey cmp t p h → IsAt t p
      at p n h m a = member_at cmp t es k.rs xs k.links k.recency k.stored p (k.stored.index.back p m)

  pub lent_kept_at : (h : K) (o : Option Ptr) (w : V) → IsNode h o → Kept cmp (with_value_at t o w) es xs
  lent_kept_at h None w i = k
  lent_kept_at h (Some p) w i = lent_kept p w h i.0 i.1

  pub lent_rows_at : (h : K) (o : Option Ptr) (w : V) → IsNode h o → IfNone o (row_of_key eq h (rows_in t es) ≡ None) → rows_in (with_value_at t o w) es ≡ with_value eq h w (rows_in t es)
  lent_rows_at h None w i n = sym (unchanged (λ (s : Row K V). eq h s.key) (λ (s : Row K V). record s { value = w }) (rows_in t es) n)
  lent_rows_at h (Some p) w i n = lent_rows p w h i.0 i.1

  pub lent_len_at : (h : K) (o : Option Ptr) (w : V) → IsNode h o → ((with_value_at t o w).nodes.len ≡ t.nodes.len) × ((with_value_at t o w).nodes.cap ≡ t.nodes.cap)
  lent_len_at h None w i = (refl, refl)
  lent_len_at h (Some p) w i = ((lent p w h i.0 i.1).len, (lent p w h i.0 i.1).bytes.capacity)

  pub lent_value : (h : K) (o : Option Ptr) (v : V) → IsNode h o → value_by t o ≡ Some v → option_map value_of (row_of_key eq h (rows_in t es)) ≡ Some v
  lent_value h None v i e = absurd (none_some e)
  lent_value h (Some p) v i e =
      let has = i.1 in
      ap (option_map value_of) (seek_some cmp order eq exact t es xs k h p has.0 i.0 has.1 has.2) ∙ sym (ap (option_map (λ (s : Row K V). s.value)) has.1) ∙ e

  pub lent_none : (h : K) (o : Option Ptr) → o ≡ None → IfNone o (row_of_key eq h (rows_in t es) ≡ None) → row_of_key eq h (rows_in t es) ≡ None
  lent_none h None e n = n
  lent_none h (Some p) e n = absurd (none_some (sym e))

  pub lent_is : (h : K) (o : Option Ptr) (res : Option (MutBor V)) → IsNode h o → IfNone o (row_of_key eq h (rows_in t es) ≡ None) → IfSome res (λ v. value_by t o ≡ Some v.now) → IfNone res (o ≡ None)
      → IfSome res (λ v. option_map value_of (row_of_key eq h (rows_in t es)) ≡ Some v.now) × IfNone res (row_of_key eq h (rows_in t es) ≡ None)
  lent_is h o None i n e f = (tt, lent_none h o f n)
  lent_is h o (Some v) i n e f = (lent_value h o v.now i e, tt)

pub lent_reserved : {K V : Type 0} (cmp : K → K → Ordering) (t u : RecencyList K V) (d : VecDeque Ptr Global) (v : Vec Ptr Global) (room capacity : ℕ) → IsReserved cmp t d v room capacity → Kept cmp u d.items v.items → u.nodes.len ≡ t.nodes.len → u.nodes.cap ≡ t.nodes.cap → IsReserved cmp u d v room capacity
lent_reserved cmp t u d v room capacity a k l c = let n = a.nodes in let m = a.holds.nodes in let f = a.holds.few in record {
  holds = record { kept = k; some = a.holds.some; nodes = omega arith; ring = a.holds.ring; places = a.holds.places; few = omega arith; count = a.holds.count ∙ sym l };
  within = a.within;
  nodes = omega arith;
  ring = a.ring;
  places = a.places;
}
