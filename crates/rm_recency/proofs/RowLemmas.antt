-- What is left as it was where a row is added or set.
use Rattle.std.proofs.Common.{◌≡◌, ℕ, zero, suc, ◌+◌, ◌-◌, ◌*◌, ◌/◌, ◌<◌, List, [], ◌∷◌, ◌++◌, map, length, slice_get, slice_index_or, Option, Some, None, option_map, refl, sym, ap, ◌∙◌, subst, arith, Vec}
use Rattle.std.specs.declared.alloc.Global.{Global}
use Rattle.std.specs.List.{AllByRecursion}
use denote.RawPtr.{Ptr, ◌+ₚ◌, count_of}
use Rattle.rm_recency.specs.Chain.{last_from}
use Rattle.rm_recency.proofs.Rings.{still_linked, linked_as}
use Rattle.rm_recency.specs.declared.Links.{Links}
use Rattle.rm_recency.specs.declared.Node.{Node}
use Rattle.rm_recency.specs.declared.RecencyList.{RecencyList}
use Rattle.rm_recency.specs.Threads.{row_of, place, IsAt, number, node_at, next_of, prev_of, SameBytes, Keeps, Added, RowSet}
use Rattle.rm_recency.proofs.SetLemmas.{set_here, set_there, changed, within, same_link}

module _ {X : Type 0} where
  push_there : (xs : List X) (n : X) (i : ℕ) → i < length xs → slice_get (xs ++ n ∷ []) i ≡ slice_get xs i
  push_there [] n i h = absurd (omega arith)
  push_there (x ∷ xs) n zero h = refl
  push_there (x ∷ xs) n (suc i) h = push_there xs n i (omega arith)

  push_here : (xs : List X) (n : X) → slice_get (xs ++ n ∷ []) (length xs) ≡ Some n
  push_here [] n = refl
  push_here (x ∷ xs) n = push_here xs n

module _ {K V : Type 0} where
  module _ (t u : RecencyList K V) (same : SameBytes t u) where
    pub place_by : (p : Ptr) → place u p ≡ place t p
    place_by p = λ i. (count_of p - count_of (same.ptr i)) / (same.stride i).bytes

    pub number_by : (c : Option Ptr) → number u c ≡ number t c
    number_by None = refl
    number_by (Some p) = ap suc (place_by p)

    pub at_by : (p : Ptr) → t.nodes.len ≡ u.nodes.len → IsAt t p → IsAt u p
    at_by p l h =
        let e = place_by p in
        (subst (λ (k : ℕ). k < u.nodes.len) (sym e) (subst (λ (m : ℕ). place t p < m) l h.0), h.1 ∙ (λ i. (sym same.ptr i) +ₚ (sym e i * (sym same.stride i).bytes)))

  module _ (t : RecencyList K V) (v : Vec (Node K V) Global) (n : Node K V) (p : Ptr) where
    abbrev grown : RecencyList K V
    grown = record { nodes = v; ends = t.ends; stride = t.stride }

    module _ (items : v.items ≡ t.nodes.items ++ n ∷ []) (len : v.len ≡ t.nodes.len + 1) (ptr : v.ptr ≡ t.nodes.ptr) (cap : v.cap ≡ t.nodes.cap) where
      bytes : SameBytes t grown
      bytes = record { ptr = ptr; capacity = cap; stride = refl }

      node_there : (q : Ptr) → IsAt t q → node_at grown q ≡ node_at t q
      node_there q h =
          let l : t.nodes.len ≡ length t.nodes.items = t.nodes.ok.0 in let k : place t q < t.nodes.len = h.0 in
          (λ i. slice_get (items i) (place_by t grown bytes q i)) ∙ push_there t.nodes.items n (place t q) (omega arith)

      at_there : (q : Ptr) → IsAt t q → IsAt grown q
      at_there q h =
          let e = place_by t grown bytes q in let k : place t q < t.nodes.len = h.0 in
          let m : place t q < v.len = omega arith in
          (subst (λ (k : ℕ). k < v.len) (sym e) m, h.1 ∙ (λ i. (sym ptr i) +ₚ (sym e i * t.stride.bytes)))

      all_there : (Q R : Ptr → Type 0) → ((q : Ptr) → Q q → R q) → (ps : List Ptr) → AllByRecursion Q ps → AllByRecursion R ps
      all_there Q R f [] h = tt
      all_there Q R f (q ∷ ps) h = (f q h.0, all_there Q R f ps h.1)

      all_some : (R : Option Ptr → Type 0) → ((q : Ptr) → IsAt t q → R (Some q)) → (ps : List Ptr) → AllByRecursion (IsAt t) ps → AllByRecursion R (map Some ps)
      all_some R f [] h = tt
      all_some R f (q ∷ ps) h = (f q h.0, all_some R f ps h.1)

      grown_keeps : Keeps t grown
      grown_keeps ps h = record {
        ring = linked_as (number t) (number grown) (number_by t grown bytes) (next_of grown) (prev_of grown) (next_of grown) (prev_of grown) None (map Some ps) (λ c. refl) (λ c. refl) (
            still_linked (number t) (next_of t) (prev_of t) None (next_of grown) (prev_of grown) (map Some ps) refl refl
            (all_some (λ c. next_of grown c ≡ next_of t c) (λ q k. ap (option_map (λ (m : Node K V). m.links.next)) (node_there q k)) ps h.links)
            (all_some (λ c. prev_of grown c ≡ prev_of t c) (λ q k. ap (option_map (λ (m : Node K V). m.links.prev)) (node_there q k)) ps h.links) h.ring);
        links = all_there (IsAt t) (IsAt grown) at_there ps h.links;
      }

      pub added : IsAt grown p → place grown p ≡ t.nodes.len → Added t grown p n.row
      added at e = let l : t.nodes.len ≡ length t.nodes.items = t.nodes.ok.0 in record {
        bytes = bytes;
        len = len;
        at = at;
        place = e;
        here = ap (option_map row_of) ((λ i. slice_get (items i) ((e ∙ l) i)) ∙ push_here t.nodes.items n);
        there = λ q h. ap (option_map row_of) (node_there q h);
        stays = at_there;
        keeps = grown_keeps;
      }

  module _ (t : RecencyList K V) (p : Ptr) (n m : Node K V) (at : IsAt t p) (e : n ≡ slice_index_or t.nodes.items (place t p) n) where
    abbrev u : RecencyList K V
    u = changed t p n m

    pub row_set : m.links ≡ n.links → RowSet t u p m.row
    row_set same = record {
      bytes = record { ptr = refl; capacity = refl; stride = refl };
      len = refl;
      here = ap (option_map row_of) (set_here t.nodes.items (place t p) m (within t p n m at e));
      there = λ q d. ap (option_map row_of) (set_there t.nodes.items (place t p) (place t q) m d);
      keeps = λ ps k. record {
        ring = linked_as (number t) (number u) (number_by t u (record { ptr = refl; capacity = refl; stride = refl })) (next_of t) (prev_of t) (next_of u) (prev_of u) None (map Some ps)
            (same_link t p n m at e (λ l. l.next) (ap (λ (l : Links K V). l.next) same)) (same_link t p n m at e (λ l. l.prev) (ap (λ (l : Links K V). l.prev) same)) k.ring;
        links = k.links;
      };
    }

-- the last of a list that has one
some_none : {X : Type 0} {p : X} → None ≡ Some p → ⊥
some_none e = cc

of_some : {X : Type 0} {x y : X} → Some x ≡ Some y → x ≡ y
of_some e = cc

last_after : {X : Type 0} (q : X) (qs : List X) (p : X) → last_from (Some q) (map Some qs) ≡ Some p → (xs : List X) × (q ∷ qs ≡ xs ++ p ∷ [])
last_after q [] p e = ([], ap (λ x. x ∷ []) (of_some e))
last_after q (r ∷ qs) p e = let on = last_after r qs p e in (q ∷ on.0, ap (λ l. q ∷ l) on.1)

pub last_in : {X : Type 0} (ps : List X) (p : X) → last_from None (map Some ps) ≡ Some p → (xs : List X) × (ps ≡ xs ++ p ∷ [])
last_in [] p e = absurd (some_none e)
last_in (q ∷ qs) p e = last_after q qs p e
