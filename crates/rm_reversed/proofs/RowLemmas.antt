-- What rows show where each key is replaced by another that stands for it, and which it stands for.
use Rattle.std.proofs.Common.{◌≡◌, ℕ, Bool, ◌||◌, List, [], ◌∷◌, map, option_map, Option, Some, None, All, Contains, get_or, ◌↔◌, refl, sym, ap, ◌∙◌, subst, inl, inr, arith}
use Rattle.std.specs.declared.cmp.Ordering.{Ordering}
use Rattle.std.specs.declared.cmp.Ordering.TheVariants.{Less}
use Rattle.std.specs.Ordering.{nat_cmp}
use Rattle.std.proofs.lemmas.Bool.{cases_Bool}
use Rattle.std.proofs.lemmas.List.Elements.{All-contains, Contains-get_or}
use Rattle.rm_model.proofs.Members.{in_map}
use Rattle.rm_evicting.specs.declared.Row.{Row}
use Rattle.rm_evicting.specs.Row.{holds}
use Rattle.rm_rows.specs.Table.{keys_of, row_of, IsNextKey, IsAbove}
use Rattle.rm_layers.specs.Marks.{IsLeast, StandsAt}
use Rattle.rm_upper.specs.Cells.{network_in, application_in_row}
use Rattle.rm_upper.specs.Standing.{Layered}
use Rattle.rm_upper.specs.Walk.{IsShown, ShowsNetwork, ShowsApplication}
use Rattle.rm_order.specs.Order.{AreReversed}
use Rattle.rm_reversed.specs.Reversed.{reversed_row, reversed_rows, reversed_layered}

module _ {K : Type 0} (eq : K → K → Bool) (to : K → K) (twice : (key : K) → to (to key) ≡ key) (alike : (one other : K) → eq (to one) (to other) ≡ eq one other) where
  -- a key is another's where that is its own
  across : (k j : K) → eq k (to j) ≡ eq (to k) j
  across k j = sym (alike k (to j)) ∙ ap (eq (to k)) (twice j)

  module _ {V : Type 0} where
    pub holds-of : (k : K) (rows : List (Row K V)) → holds eq k (reversed_rows to rows) ≡ holds eq (to k) rows
    holds-of k [] = refl
    holds-of k (row ∷ rows) = λ d. across k row.key d || holds-of k rows d

    -- the row of a key is that of the other, with its key replaced
    pub row_of-of : (k : K) (rows : List (Row K V)) → row_of eq k (reversed_rows to rows) ≡ option_map (reversed_row to) (row_of eq (to k) rows)
    row_of-of k [] = refl
    row_of-of k (row ∷ rows) = elim (cases_Bool (eq (to k) row.key)) [
      | inl e ↦ rw (across k row.key, e) refl
      | inr e ↦ rw (across k row.key, e) (row_of-of k rows)
    ]

    -- what is read of a row, but of its key, is read of the other's
    read_of : {W : Type 0} (read : Option (Row K V) → W) → ((row : Row K V) → read (Some (reversed_row to row)) ≡ read (Some row)) → (k : K) (rows : List (Row K V))
        → read (row_of eq k (reversed_rows to rows)) ≡ read (row_of eq (to k) rows)
    read_of read same k rows = ap read (row_of-of k rows) ∙ through (row_of eq (to k) rows)
      where
        through : (o : Option (Row K V)) → read (option_map (reversed_row to) o) ≡ read o
        through None = refl
        through (Some row) = same row

    -- and what holds of its value and its tick
    abbrev Has : (Such : ℕ → V → Type 0) → Option (Row K V) → Type 0
    Has Such o = (row : Row K V) × (o ≡ Some row) × Such row.tick row.value

    has-from : (Such : ℕ → V → Type 0) (o : Option (Row K V)) → Has Such (option_map (reversed_row to) o) → Has Such o
    has-from Such None has = let none : None ≡ Some has.0 = has.1 in cc
    has-from Such (Some row) has = let same : reversed_row to row ≡ has.0 = grind (arith, has.1) in (row, refl, subst (λ (r : Row K V). Such r.tick r.value) (sym same) has.2)

    has-to : (Such : ℕ → V → Type 0) (o : Option (Row K V)) → Has Such o → Has Such (option_map (reversed_row to) o)
    has-to Such o has = (reversed_row to has.0, ap (option_map (reversed_row to)) has.1, has.2)

    has_of : (Such : ℕ → V → Type 0) (k : K) (rows : List (Row K V)) → Has Such (row_of eq k (reversed_rows to rows)) ↔ Has Such (row_of eq (to k) rows)
    has_of Such k rows = (
      λ has. has-from Such (row_of eq (to k) rows) (subst (Has Such) (row_of-of k rows) has),
      λ has. subst (Has Such) (sym (row_of-of k rows)) (has-to Such (row_of eq (to k) rows) has),
    )

  module _ {N A : Type 0} (layered : Layered K N A) where
    -- what the row of a key shows is what that of the other shows
    pub network_in-of : (k : K) → network_in (row_of eq k (reversed_layered to layered).table.rows) ≡ network_in (row_of eq (to k) layered.table.rows)
    network_in-of k = read_of network_in (λ row. refl) k layered.table.rows

    pub application_in_row-of : (p : ℕ) (k : K)
        → application_in_row layered.slots p (row_of eq k (reversed_layered to layered).table.rows) ≡ application_in_row layered.slots p (row_of eq (to k) layered.table.rows)
    application_in_row-of p k = read_of (application_in_row layered.slots p) (λ row. refl) k layered.table.rows

    pub shows_network-of : (k : K) (tick : ℕ) → ShowsNetwork eq (reversed_layered to layered) k tick ↔ ShowsNetwork eq layered (to k) tick
    shows_network-of k tick = has_of (λ last value. tick ≡ last) k layered.table.rows

    pub shows_application-of : (k : K) (p tick : ℕ) → ShowsApplication eq (reversed_layered to layered) (k, p) tick ↔ ShowsApplication eq layered (to k, p) tick
    shows_application-of k p tick = has_of (λ last value. IsShown layered.slots value.applications p tick) k layered.table.rows

    -- so do the marks at which it stands
    pub stands_at-of : (mark : ℕ) (k : K) → StandsAt (ShowsNetwork eq (reversed_layered to layered)) mark k ↔ StandsAt (ShowsNetwork eq layered) mark (to k)
    stands_at-of mark k = (λ at. (at.0, (shows_network-of k at.0).0 at.1, at.2), λ at. (at.0, (shows_network-of k at.0).1 at.1, at.2))

    application_at-of : (mark : ℕ) (k : K) (p : ℕ) → StandsAt (ShowsApplication eq (reversed_layered to layered)) mark (k, p) ↔ StandsAt (ShowsApplication eq layered) mark (to k, p)
    application_at-of mark k p = (λ at. (at.0, (shows_application-of k p at.0).0 at.1, at.2), λ at. (at.0, (shows_application-of k p at.0).1 at.1, at.2))

    -- and the least protocol of an application row at a mark is the same
    pub next_in-of : (mark : ℕ) (k : K) (IsAbove : ℕ → Type 0) (result : Option ℕ) → IsLeast nat_cmp (λ p. StandsAt (ShowsApplication eq layered) mark (to k, p)) IsAbove result
        → IsLeast nat_cmp (λ p. StandsAt (ShowsApplication eq (reversed_layered to layered)) mark (k, p)) IsAbove result
    next_in-of mark k IsAbove None least = λ p shown above. least p ((application_at-of mark k p).0 shown) above
    next_in-of mark k IsAbove (Some best) least = ((application_at-of mark k best).1 least.0, least.1, λ p shown. least.2 p ((application_at-of mark k p).0 shown))

module _ {K : Type 0} where
  -- what holds of all of some keys holds of all that are among them
  all_among : (P : K → Type 0) (keys others : List K) → ((k : K) → Contains others k → Contains keys k) → All P keys → All P others
  all_among P keys others among all = λ i d lt. All-contains P keys (get_or others i d) all (among (get_or others i d) (Contains-get_or others i d lt))

  -- the next of some keys is that of others which are the same
  next_same : (cmp : K → K → Ordering) (keys others : List K) → ((k : K) → Contains keys k ↔ Contains others k) → (from result : Option K) → IsNextKey cmp keys from result → IsNextKey cmp others from result
  next_same cmp keys others same from None next = all_among (λ k. ¬ (IsAbove cmp from k)) keys others (λ k. (same k).1) next
  next_same cmp keys others same from (Some best) next =
      ((same best).0 next.0, next.1, all_among (λ k. IsAbove cmp from k → ¬ (cmp k best ≡ Less)) keys others (λ k. (same k).1) next.2)

  module _ (to : K → K) (twice : (key : K) → to (to key) ≡ key) where
    back : (keys : List K) → map to (map to keys) ≡ keys
    back [] = refl
    back (k ∷ keys) = λ d. twice k d ∷ back keys d

    keys_of-of : {V : Type 0} (rows : List (Row K V)) → keys_of (reversed_rows to rows) ≡ map to (keys_of rows)
    keys_of-of [] = refl
    keys_of-of (row ∷ rows) = ap (λ l. to row.key ∷ l) (keys_of-of rows)

    -- keys in an order of their own, each reversed, are those of the rows with each key reversed
    among-of : {V : Type 0} (ordered : List K) (rows : List (Row K V)) → AreReversed to ordered (keys_of rows) → (k : K) → Contains ordered k ↔ Contains (keys_of (reversed_rows to rows)) k
    among-of ordered rows are k = (
      λ in_order. subst (λ keys. Contains keys k) (sym (keys_of-of rows)) (subst (Contains (map to (keys_of rows))) (twice k) (in_map to (keys_of rows) (to k) ((are k).0 in_order))),
      λ in_rows. (are k).1 (subst (λ keys. Contains keys (to k)) (back (keys_of rows)) (in_map to (map to (keys_of rows)) k (subst (λ keys. Contains keys k) (keys_of-of rows) in_rows))),
    )

    pub next-of : {V : Type 0} (cmp : K → K → Ordering) (ordered : List K) (rows : List (Row K V)) → AreReversed to ordered (keys_of rows) → (from result : Option K)
        → IsNextKey cmp ordered from result → IsNextKey cmp (keys_of (reversed_rows to rows)) from result
    next-of cmp ordered rows are from result next = next_same cmp ordered (keys_of (reversed_rows to rows)) (among-of ordered rows are) from result next
