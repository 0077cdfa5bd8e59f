-- A step of the search by key.
use Rattle.std.proofs.Common.{◌≡◌, ℕ, ◌+◌, ◌-◌, ◌/◌, ◌<◌, List, length, slice_get, get_or, Some, refl, ap, ◌∙◌, arith}
use Rattle.std.specs.declared.cmp.Ordering.{Ordering}
use Rattle.std.specs.declared.cmp.Ordering.TheVariants.{Less, Equal, Greater}
use Rattle.std.specs.Cmp.{IsTotalOrder}
use Rattle.std.specs.Ordering.{ordering_reverse}
use Rattle.std.proofs.lemmas.Option.{slice_get_read}
use denote.RawPtr.{Ptr}
use Rattle.rm_evicting.specs.declared.Row.{Row}
use Rattle.rm_recency.specs.declared.RecencyList.{RecencyList}
use Rattle.rm_recency.specs.Threads.{row_at}
use Rattle.rm_rows.specs.Stored.{Before}
use Rattle.rm_rows.proofs.Members.{half, pair_at, up_to, from_on}
use Rattle.rm_rows.specs.Index.{IsIndex, HasKey, IsParted, IsSearched}

abbrev pub middle : ℕ → ℕ → ℕ
middle low high = low + (high - low) / 2

module _ {K V : Type 0} (cmp : K → K → Ordering) (t : RecencyList K V) (xs : List Ptr) (low high : ℕ) (index : IsIndex cmp t xs) (lt : low < high)
    (p : Ptr) (r : Row K V) (at : p ≡ get_or xs (low + (high - low) / 2) p) (row : row_at t p ≡ Some r) where
  abbrev m : ℕ
  m = middle low high

  module _ {IsLow IsHigh : K → Type 0} (s : IsParted t xs IsLow IsHigh low high) where
    got_at : slice_get xs m ≡ Some p
    got_at = let w = s.within in let k = (half low high lt).1 in slice_get_read xs (length xs) m p refl (omega arith) at

    -- the key in the middle is low, and so are those below it
    pub raised : IsLow r.key → ((k : K) → cmp k r.key ≡ Less → IsLow k) → IsParted t xs IsLow IsHigh (m + 1) high
    raised e down = let a = (half low high lt).1 in record {
      order = omega arith;
      within = s.within;
      below = up_to (row_at t) xs m p r got_at row (λ x. IsLow x.key) e (λ k q x l g f. down x.key (pair_at (Before (row_at t) cmp) xs k m q p index.1 l g got_at x r f row));
      above = s.above;
    }

    -- it is high, and so are those above it
    pub lowered : IsHigh r.key → ((k : K) → cmp r.key k ≡ Less → IsHigh k) → IsParted t xs IsLow IsHigh low m
    lowered e up = let a = (half low high lt).0 in let b = (half low high lt).1 in let w = s.within in record {
      order = omega arith;
      within = omega arith;
      below = s.below;
      above = from_on (row_at t) xs m p r got_at row (λ x. IsHigh x.key) e (λ k q x l g f. up x.key (pair_at (Before (row_at t) cmp) xs m k p q index.1 l got_at g r x row f));
    }

module _ {K V : Type 0} (cmp : K → K → Ordering) (order : IsTotalOrder cmp) (t : RecencyList K V) (xs : List Ptr) (h : K) (low high : ℕ) (index : IsIndex cmp t xs) (s : IsSearched cmp t xs h low high) (lt : low < high)
    (p : Ptr) (r : Row K V) (at : p ≡ get_or xs (low + (high - low) / 2) p) (row : row_at t p ≡ Some r) where
  pub more : cmp r.key h ≡ Less → IsSearched cmp t xs h (middle low high + 1) high
  more e = raised cmp t xs low high index lt p r at row s e (λ k l. order.trans k r.key h l e)

  pub less : cmp r.key h ≡ Greater → IsSearched cmp t xs h low (middle low high)
  less e =
      let back : cmp h r.key ≡ Less = order.antisymm h r.key ∙ ap ordering_reverse e in
      lowered cmp t xs low high index lt p r at row s back (λ k l. order.trans h r.key k back l)

  pub hit : ((a b : K) → cmp a b ≡ Equal → a ≡ b) → cmp r.key h ≡ Equal → (q : Ptr) × (slice_get xs (middle low high) ≡ Some q) × HasKey cmp t q h
  hit exact e = (p, got_at cmp t xs low high index lt p r at row s, (r, row, exact r.key h e))
