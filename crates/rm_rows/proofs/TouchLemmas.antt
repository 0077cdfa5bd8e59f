-- What a reference does to the list of rows.
use Rattle.std.proofs.Common.{◌≡◌, ℕ, ◌<◌, ◌≤◌, Bool, true, false, List, [], ◌∷◌, ◌++◌, length, find, slice_get, get_or, Option, Some, None, refl, sym, ap, ◌∙◌, subst, arith, true≢false, inl, inr}
use Rattle.std.specs.Option.{option_map}
use Rattle.std.specs.declared.cmp.Ordering.{Ordering}
use Rattle.std.specs.Cmp.{IsTotalOrder}
use Rattle.std.proofs.lemmas.Bool.{lt-ltb, le-ltb, cases_Bool}
use Rattle.std.specs.List.{list_any}
use Rattle.std.proofs.lemmas.Option.{slice_get_read, slice_get_within}
use Rattle.std.specs.declared.vec.Vec.{Vec}
use Rattle.std_alloc.specs.declared.vec.deque.VecDeque.{VecDeque}
use Rattle.std.specs.declared.alloc.Global.{Global}
use denote.RawPtr.{Ptr}
use Rattle.rm_evicting.specs.declared.Row.{Row}
use Rattle.rm_evicting.specs.Held.{IsExact}
use Rattle.rm_evicting.specs.Row.{holds, is_oldest, without_oldest, renewed, touched, blank_row}
use Rattle.rm_recency.specs.declared.RecencyList.{RecencyList}
use Rattle.rm_recency.specs.Threads.{row_at, IsEmpty}
use Rattle.rm_rows.specs.Stored.{In, Distinct, rows_by}
use Rattle.rm_rows.proofs.Members.{of_some, at_in, in_cut, in_left, distinct_gone}
use Rattle.rm_rows.proofs.RowsBy.{rows_length, found_out}
use Rattle.rm_rows.proofs.Steps.{absent, present, keys_apart}
use Rattle.rm_rows.specs.Table.{key_of, row_of, touch_answer, evicted}
use Rattle.rm_rows.specs.Index.{rows_in, HasKey, IsGap, Kept, Holds, IsReserved}
use Rattle.rm_rows.specs.declared.touch.Touch.TheVariants.{Held, Fresh, Evicted}
use Rattle.rm_rows.proofs.KeptLemmas.{is_index, gap_none}

module _ {K V : Type 0} (eq : K → K → Bool) where
  pub touched-held : (blank : V) (capacity : ℕ) (h : K) (s t : ℕ) (rows : List (Row K V)) → holds eq h rows ≡ true → touched eq blank capacity h s t rows ≡ renewed eq h s t rows
  touched-held blank capacity h s t rows i = rw i refl

  pub touched-fresh : (blank : V) (capacity : ℕ) (h : K) (s t : ℕ) (rows : List (Row K V)) → holds eq h rows ≡ false → length rows < capacity → touched eq blank capacity h s t rows ≡ rows ++ blank_row blank h s t ∷ []
  touched-fresh blank capacity h s t rows o lt = rw (o, lt-ltb (length rows) capacity lt) refl

  pub touched-full : (blank : V) (capacity : ℕ) (h : K) (s t : ℕ) (rows : List (Row K V)) → holds eq h rows ≡ false → capacity ≤ length rows → touched eq blank capacity h s t rows ≡ without_oldest rows ++ blank_row blank h s t ∷ []
  touched-full blank capacity h s t rows o le = rw (o, le-ltb (length rows) capacity le) refl

  pub answer-held : (capacity : ℕ) (h : K) (rows : List (Row K V)) → holds eq h rows ≡ true → touch_answer eq capacity h rows ≡ Held
  answer-held capacity h rows i = rw i refl

  pub answer-fresh : (capacity : ℕ) (h : K) (rows : List (Row K V)) → holds eq h rows ≡ false → length rows < capacity → touch_answer eq capacity h rows ≡ Fresh
  answer-fresh capacity h rows o lt = rw (o, lt-ltb (length rows) capacity lt) refl

  found_key : (o : Option (Row K V)) (k : K) → option_map key_of o ≡ Some k → evicted o ≡ Evicted k
  found_key None k e = cc
  found_key (Some row) k e = let same : row.key ≡ k = cc in ap Evicted same

  pub answer-full : (capacity : ℕ) (h : K) (rows : List (Row K V)) (gone : K) → holds eq h rows ≡ false → capacity ≤ length rows → option_map key_of (find (is_oldest rows) rows) ≡ Some gone → touch_answer eq capacity h rows ≡ Evicted gone
  answer-full capacity h rows gone o le e = rw (o, le-ltb (length rows) capacity le) (found_key (find (is_oldest rows) rows) gone e)

module _ {K V : Type 0} (cmp : K → K → Ordering) (order : IsTotalOrder cmp) (eq : K → K → Bool) (exact : IsExact eq) (t : RecencyList K V) (es xs : List Ptr) (k : Kept cmp t es xs) where
  pub rows_count : length (rows_in t es) ≡ t.nodes.len
  rows_count = rows_length (row_at t) es k.stored.has ∙ k.count

  pub held_here : (h : K) (p : Ptr) → In p xs → HasKey cmp t p h → holds eq h (rows_in t es) ≡ true
  held_here h p member a = present cmp order eq exact (row_at t) es k.rs xs h p a.0 k.stored (k.stored.index.back p member) a.1 a.2

  pub held_nowhere : (h : K) (i : ℕ) → IsGap cmp t xs h i → holds eq h (rows_in t es) ≡ false
  held_nowhere h i gap =
      absent cmp order eq exact (row_at t) es k.rs xs h k.stored (λ q m s e z. gap_none cmp order t xs (is_index cmp t es k.rs xs k.links k.recency k.stored) h i q gap m (s, e, sym z))

module _ {K V : Type 0} (cmp : K → K → Ordering) (t : RecencyList K V) (v : Vec Ptr Global) (seen : List Ptr) (is : seen ≡ v.items) (h : K) (i : ℕ) (found : (p : Ptr) × (slice_get seen i ≡ Some p) × HasKey cmp t p h) where
  got : slice_get v.items i ≡ Some found.0
  got = ap (λ (l : List Ptr). slice_get l i) (sym is) ∙ found.1

  pub place_within : i < v.len
  place_within = let a = slice_get_within v.items i found.0 got in let b : v.len ≡ length v.items = v.ok.0 in omega arith

  module _ (q : Ptr) (at : q ≡ get_or v.items i q) where
    got_q : slice_get v.items i ≡ Some q
    got_q = slice_get_read v.items v.len i q v.ok.0 place_within at

    pub found_in : In q v.items
    found_in = at_in q v.items i got_q

    pub found_key_of : HasKey cmp t q h
    found_key_of = subst (λ (p : Ptr). HasKey cmp t p h) (of_some (sym got ∙ got_q)) found.2

-- where the search found a link, it is one of the index, it has the key, and the key has a row
pub record IsHere {K V : Type 0} (cmp : K → K → Ordering) (eq : K → K → Bool) (t : RecencyList K V) (es xs : List Ptr) (h : K) (q : Ptr) : Type 0 where
  pub member : In q xs
  pub key : HasKey cmp t q h
  pub held : holds eq h (rows_in t es) ≡ true

-- where it found a gap, the key has no row, and there is a row in each node
pub record IsAway {K V : Type 0} (eq : K → K → Bool) (t : RecencyList K V) (es : List Ptr) (h : K) : Type 0 where
  pub off : holds eq h (rows_in t es) ≡ false
  pub count : length (rows_in t es) ≡ t.nodes.len

module _ {K V : Type 0} (cmp : K → K → Ordering) (order : IsTotalOrder cmp) (eq : K → K → Bool) (exact : IsExact eq) (t : RecencyList K V) (es : List Ptr) (v : Vec Ptr Global) (k : Kept cmp t es v.items)
    (seen : List Ptr) (is : seen ≡ v.items) (h : K) (i : ℕ) where
  pub is_here : (found : (p : Ptr) × (slice_get seen i ≡ Some p) × HasKey cmp t p h) (q : Ptr) → q ≡ get_or v.items i q → IsHere cmp eq t es v.items h q
  is_here found q at =
      let member = found_in cmp t v seen is h i found q at in let key = found_key_of cmp t v seen is h i found q at in
      record { member = member; key = key; held = held_here cmp order eq exact t es v.items k h q member key }

  pub is_away : IsGap cmp t seen h i → IsAway eq t es h
  is_away gap = record {
    off = held_nowhere cmp order eq exact t es v.items k h i (subst (λ (l : List Ptr). IsGap cmp t l h i) is gap);
    count = rows_count cmp order eq exact t es v.items k;
  }

pub holds_renewed : {K V : Type 0} (cmp : K → K → Ordering) (t u : RecencyList K V) (d : VecDeque Ptr Global) (v : Vec Ptr Global) (capacity : ℕ) → Holds cmp t d v capacity → Kept cmp u d.items v.items → u.nodes.len ≡ t.nodes.len → u.nodes.cap ≡ t.nodes.cap → Holds cmp u d v capacity
holds_renewed cmp t u d v capacity a k l c = let n = a.nodes in let f = a.few in record {
  kept = k;
  some = a.some;
  nodes = omega arith;
  ring = a.ring;
  places = a.places;
  few = omega arith;
  count = a.count ∙ sym l;
}

none_found : {X : Type 0} (test : X → Bool) (xs : List X) → list_any test xs ≡ false → find test xs ≡ None
none_found test [] e = refl
none_found test (x ∷ xs) e = elim (cases_Bool (test x)) [
  | inl a ↦ let f : true ≡ false = rw a at e in absurd (true≢false f)
  | inr b ↦ rw b (none_found test xs (rw b at e))
]

module _ {K V : Type 0} (cmp : K → K → Ordering) (order : IsTotalOrder cmp) (eq : K → K → Bool) (exact : IsExact eq) (t : RecencyList K V) (es xs : List Ptr) (k : Kept cmp t es xs) where
  pub seek_none : (h : K) (i : ℕ) → IsGap cmp t xs h i → row_of eq h (rows_in t es) ≡ None
  seek_none h i gap = none_found (λ (s : Row K V). eq h s.key) (rows_in t es) (held_nowhere cmp order eq exact t es xs k h i gap)

  pub seek_some : (h : K) (p : Ptr) (r : Row K V) → In p xs → row_at t p ≡ Some r → r.key ≡ h → row_of eq h (rows_in t es) ≡ Some r
  seek_some h p r member e key =
      let in_es = k.stored.index.back p member in
      let cut = in_cut p es in_es in
      let out = distinct_gone cut.0 p cut.1 (subst Distinct cut.2 k.stored.distinct) in
      let among = λ (q : Ptr) (m : In q cut.0). subst (In q) (sym cut.2) (in_left q cut.0 (p ∷ cut.1) m) in
      ap (row_of eq h) (ap (rows_by (row_at t)) cut.2)
      ∙ found_out (row_at t) (λ (s : Row K V). eq h s.key) cut.0 p cut.1 r e (subst (λ j. eq h j ≡ true) (sym key) (exact.itself h))
      (λ q m s f. elim (cases_Bool (eq h s.key)) [
        | inl a ↦ absurd (keys_apart cmp order (row_at t) xs k.stored.sorted q p (k.stored.index.there q (among q m)) member (λ z. out (subst (λ y. In y (cut.0 ++ cut.1)) z (in_left q cut.0 cut.1 m))) s r f e (sym (exact.same h s.key a) ∙ sym key))
        | inr b ↦ b
      ]) (λ q m. k.stored.has q (among q m))

module _ {K V : Type 0} (cmp : K → K → Ordering) (t : RecencyList K V) (d : VecDeque Ptr Global) (v : Vec Ptr Global) (e : IsEmpty t) (entered : d.items ≡ []) (items : v.items ≡ []) where
  pub empty_kept : Kept cmp t d.items v.items
  empty_kept = subst (λ (w : List Ptr × List Ptr). Kept cmp t w.0 w.1) (λ i. (sym entered i, sym items i)) (record {
    rs = [];
    recency = e.list;
    links = tt;
    count = sym e.none;
    stored = record {
      has = λ p h. absurd h;
      distinct = tt;
      rises = tt;
      since = λ p h. absurd h;
      recent = record { there = λ p h. h; back = λ p h. h };
      index = record { there = λ p h. h; back = λ p h. h };
      falls = tt;
      sorted = tt;
    };
  })

  pub empty_reserved : (room capacity : ℕ) → 0 < capacity → capacity ≤ room → room ≤ t.nodes.cap → room ≤ d.cap → room ≤ v.cap → IsReserved cmp t d v room capacity
  empty_reserved room capacity some within nodes ring places = record {
    holds = record {
      kept = empty_kept;
      some = some;
      nodes = omega arith;
      ring = omega arith;
      places = omega arith;
      few = let n = e.none in omega arith;
      count = let a : v.len ≡ length v.items = v.ok.0 in let b : length v.items ≡ 0 = ap length items in a ∙ b ∙ sym e.none;
    };
    within = within;
    nodes = nodes;
    ring = ring;
    places = places;
  }
