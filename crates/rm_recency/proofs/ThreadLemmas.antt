-- What a few writes of links do to the two lists.
use Rattle.std.proofs.Common.{◌≡◌, ℕ, zero, suc, pred, ◌-◌, ◌*◌, ◌/◌, ◌<◌, List, [], ◌∷◌, ◌++◌, map, Option, Some, None, refl, sym, ap, ◌∙◌, subst}
use Rattle.std.proofs.lemmas.List.{map-append}
use Rattle.std.specs.List.{AllByRecursion}
use denote.RawPtr.{Ptr, ◌+ₚ◌, count_of}
use Rattle.rm_recency.specs.Chain.{last_from, first_of, Away, Apart, Sets, Linked}
use Rattle.rm_recency.proofs.Rings.{next_is, prev_is, first_is, last_is, unlinked, linked_first, sets_as, linked_as}
use Rattle.rm_recency.specs.declared.RecencyList.{RecencyList}
use Rattle.rm_recency.specs.Threads.{place, IsAt, IsAtSome, number, next_of, prev_of, Threaded, SameNodes, NextSet, PrevSet, IsNone}

same_some : {X : Type 0} {x y : X} → Some x ≡ Some y → x ≡ y
same_some e = cc

module _ {X : Type 0} (Q : X → Type 0) where
  all_cut : (xs : List X) (p : X) (ys : List X) → AllByRecursion Q (xs ++ p ∷ ys) → AllByRecursion Q xs × Q p × AllByRecursion Q ys
  all_cut [] p ys h = (tt, h.0, h.1)
  all_cut (x ∷ xs) p ys h = let on = all_cut xs p ys h.1 in ((h.0, on.0), on.1, on.2)

  all_glue : (xs ys : List X) → AllByRecursion Q xs → AllByRecursion Q ys → AllByRecursion Q (xs ++ ys)
  all_glue [] ys g h = h
  all_glue (x ∷ xs) ys g h = (g.0, all_glue xs ys g.1 h)

all_as : {X : Type 0} (Q R : X → Type 0) → ((x : X) → Q x → R x) → (xs : List X) → AllByRecursion Q xs → AllByRecursion R xs
all_as Q R i [] h = tt
all_as Q R i (x ∷ xs) h = (i x h.0, all_as Q R i xs h.1)

-- a list with a last element
pub last_cut : {X : Type 0} (a : X) (xs : List X) → (us : List X) × (p : X) × (a ∷ xs ≡ us ++ p ∷ [])
last_cut a [] = ([], a, refl)
last_cut a (x ∷ xs) = let on = last_cut x xs in (a ∷ on.0, on.1, ap (λ l. a ∷ l) on.2)

module _ {K V : Type 0} where
  module _ (t : RecencyList K V) where
    at_last : (ps : List Ptr) → (a : Option Ptr) → IsAtSome t a → AllByRecursion (IsAt t) ps → IsAtSome t (last_from a (map Some ps))
    at_last [] a h g = h
    at_last (p ∷ ps) a h g = at_last ps (Some p) g.0 g.1

    at_first : (ps : List Ptr) → AllByRecursion (IsAt t) ps → IsAtSome t (first_of (map Some ps) None)
    at_first [] g = tt
    at_first (p ∷ ps) g = g.0

  module _ (t u : RecencyList K V) (same : SameNodes t u) where
    pub place_as : (p : Ptr) → place u p ≡ place t p
    place_as p = λ i. (count_of p - count_of (same.block.0 i)) / (same.stride i).bytes

    pub number_as : (c : Option Ptr) → number u c ≡ number t c
    number_as None = refl
    number_as (Some p) = ap suc (place_as p)

    pub at_as : (p : Ptr) → IsAt t p → IsAt u p
    at_as p h =
        let e = place_as p in (
          subst (λ (k : ℕ). k < u.nodes.len) (sym e) (subst (λ (m : ℕ). place t p < m) (sym same.len) h.0),
          h.1 ∙ (λ i. (sym same.block.0 i) +ₚ (sym e i * (sym same.stride i).bytes)),
        )

    pub at_some_as : (c : Option Ptr) → IsAtSome t c → IsAtSome u c
    at_some_as None h = tt
    at_some_as (Some p) h = at_as p h

  pub same_trans : (t u w : RecencyList K V) → SameNodes t u → SameNodes u w → SameNodes t w
  same_trans t u w a b = record {
    block = (b.block.0 ∙ a.block.0, (b.block.1.0 ∙ a.block.1.0, b.block.1.1 ∙ a.block.1.1));
    len = b.len ∙ a.len;
    stride = b.stride ∙ a.stride;
    rows = b.rows ∙ a.rows;
  }

  module _ (t : RecencyList K V) (xs : List Ptr) (p : Ptr) (ys : List Ptr) (h : Threaded t (xs ++ p ∷ ys)) where
    cut_ring : Linked (number t) (next_of t) (prev_of t) None (map Some xs ++ Some p ∷ map Some ys)
    cut_ring = subst (λ l. Linked (number t) (next_of t) (prev_of t) None l) (map-append Some xs (p ∷ ys)) h.ring

    pub next_read : (b : Option Ptr) → next_of t (Some p) ≡ Some b → b ≡ first_of (map Some ys) None
    next_read b e = same_some (sym e ∙ next_is (number t) (next_of t) (prev_of t) None (map Some xs) (Some p) (map Some ys) cut_ring)

    pub prev_read : (a : Option Ptr) → prev_of t (Some p) ≡ Some a → a ≡ last_from None (map Some xs)
    prev_read a e = same_some (sym e ∙ prev_is (number t) (next_of t) (prev_of t) None (map Some xs) (Some p) (map Some ys) cut_ring)

    pub next_at : (b : Option Ptr) → next_of t (Some p) ≡ Some b → IsAtSome t b
    next_at b e = subst (IsAtSome t) (sym (next_read b e)) (at_first t ys (all_cut (IsAt t) xs p ys h.links).2)

    pub prev_at : (a : Option Ptr) → prev_of t (Some p) ≡ Some a → IsAtSome t a
    prev_at a e = subst (IsAtSome t) (sym (prev_read a e)) (at_last t xs None tt (all_cut (IsAt t) xs p ys h.links).0)

    pub here_at : IsAt t p
    here_at = (all_cut (IsAt t) xs p ys h.links).1

    pub unlink_list : (u w : RecencyList K V) (a b : Option Ptr) → next_of t (Some p) ≡ Some b → prev_of t (Some p) ≡ Some a → NextSet t u a b → PrevSet u w b a → Threaded w (xs ++ ys)
    unlink_list u w a b eb ea m n =
        let same = same_trans t u w m.nodes n.nodes in
        let a' = prev_read a ea in let b' = next_read b eb in
        let k = number t in
        record {
          ring = subst (λ l. Linked (number w) (next_of w) (prev_of w) None l) (sym (map-append Some xs ys)) (
              linked_as k (number w) (number_as t w same) (next_of w) (prev_of w) (next_of w) (prev_of w) None (map Some xs ++ map Some ys) (λ c. refl) (λ c. refl) (
              unlinked k (next_of t) (prev_of t) None (next_of w) (prev_of w) (map Some xs) (Some p) (map Some ys)
              (subst (λ (q : Option Ptr × Option Ptr). Sets k (next_of t) (next_of w) q.0 q.1) (λ i. (a' i, b' i)) (sets_as k k (next_of t) (next_of u) (next_of t) (next_of w) a b (λ c. refl) (λ c. refl) n.next m.next))
              (subst (λ (q : Option Ptr × Option Ptr). Sets k (prev_of t) (prev_of w) q.0 q.1) (λ i. (b' i, a' i))
              (sets_as (number u) k (prev_of u) (prev_of w) (prev_of t) (prev_of w) b a (λ c. sym (number_as t u m.nodes c)) (λ c. sym (m.prev c)) (λ c. refl) n.prev)) cut_ring));
          links = let both = all_cut (IsAt t) xs p ys h.links in all_as (IsAt t) (IsAt w) (at_as t w same) (xs ++ ys) (all_glue (IsAt t) xs ys both.0 both.2);
        }

  module _ (t : RecencyList K V) (ps : List Ptr) (h : Threaded t ps) where
    pub front_read : (b : Option Ptr) → next_of t None ≡ Some b → b ≡ first_of (map Some ps) None
    front_read b e = same_some (sym e ∙ first_is (number t) (next_of t) (prev_of t) None (map Some ps) h.ring)

    pub last_read : (a : Option Ptr) → prev_of t None ≡ Some a → a ≡ last_from None (map Some ps)
    last_read a e = same_some (sym e ∙ last_is (number t) (next_of t) (prev_of t) None (map Some ps) h.ring)

    pub front_at : (b : Option Ptr) → next_of t None ≡ Some b → IsAtSome t b
    front_at b e = subst (IsAtSome t) (sym (front_read b e)) (at_first t ps h.links)

    pub last_at : (a : Option Ptr) → prev_of t None ≡ Some a → IsAtSome t a
    last_at a e = subst (IsAtSome t) (sym (last_read a e)) (at_last t ps None tt h.links)

    fresh : (p : Ptr) → IsNone t p ps → Apart (number t) (None ∷ Some p ∷ map Some ps)
    fresh p n = let b = h.ring.apart in (((λ e. zero_suc e), b.0), (away ps n, b.1))
      where
        zero_suc : {n : ℕ} → zero ≡ suc n → ⊥
        zero_suc e = cc

        suc_same : {a b : ℕ} → suc a ≡ suc b → a ≡ b
        suc_same e = ap pred e

        away : (qs : List Ptr) → IsNone t p qs → Away (number t) (Some p) (map Some qs)
        away [] n = tt
        away (q ∷ qs) n = ((λ e. n.0 (suc_same e)), away qs n.1)

    module _ (t₁ t₂ t₃ t₄ : RecencyList K V) (p : Ptr) where
      pub front_list : (b : Option Ptr) → IsAt t p → IsNone t p ps → next_of t None ≡ Some b → NextSet t t₁ (Some p) b → NextSet t₁ t₂ None (Some p) → PrevSet t₂ t₃ (Some p) None → PrevSet t₃ t₄ b (Some p)
          → Threaded t₄ (p ∷ ps)
      front_list b at none eb m₁ m₂ m₃ m₄ =
          let k = number t in
          let same₂ = same_trans t t₁ t₂ m₁.nodes m₂.nodes in let same₃ = same_trans t t₂ t₃ same₂ m₃.nodes in let same = same_trans t t₃ t₄ same₃ m₄.nodes in
          let b' = front_read b eb in
          record {
            ring = linked_as k (number t₄) (number_as t t₄ same) (next_of t₄) (prev_of t₄) (next_of t₄) (prev_of t₄) None (Some p ∷ map Some ps) (λ c. refl) (λ c. refl) (
                linked_first k (next_of t) (prev_of t) None (next_of t₁) (next_of t₄) (prev_of t₃) (prev_of t₄) (Some p) (map Some ps) (fresh p none)
                (subst (Sets k (next_of t) (next_of t₁) (Some p)) b' m₁.next)
                (sets_as (number t₁) k (next_of t₁) (next_of t₂) (next_of t₁) (next_of t₄) None (Some p) (λ c. sym (number_as t t₁ m₁.nodes c)) (λ c. refl) (λ c. m₄.next c ∙ m₃.next c) m₂.next)
                (sets_as (number t₂) k (prev_of t₂) (prev_of t₃) (prev_of t) (prev_of t₃) (Some p) None (λ c. sym (number_as t t₂ same₂ c)) (λ c. sym (m₂.prev c ∙ m₁.prev c)) (λ c. refl) m₃.prev)
                (subst (λ e. Sets k (prev_of t₃) (prev_of t₄) e (Some p)) b' (sets_as (number t₃) k (prev_of t₃) (prev_of t₄) (prev_of t₃) (prev_of t₄) b (Some p) (λ c. sym (number_as t t₃ same₃ c)) (λ c. refl) (λ c. refl) m₄.prev))
                h.ring);
            links = all_as (IsAt t) (IsAt t₄) (at_as t t₄ same) (p ∷ ps) (at, h.links);
          }
