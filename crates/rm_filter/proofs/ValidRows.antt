-- The valid rows of channelTable that are kept are those that the journal lists, in the order of their indexes.
use Rattle.std.proofs.Common.{◌≡◌, ℕ, ◌<◌, ◌⊎◌, inl, inr, List, [], ◌∷◌, Bool, true, false, cond, nat_eq, nat_lt, Some, refl, sym, ap, subst, ◌∙◌, map, arith, Contains, filter_map}
use Rattle.std.specs.Prelude.{filter}
use Rattle.std.proofs.lemmas.Bool.Decides.{nat_tests}
use Rattle.rm_model.specs.Journal.{Journal}
use Rattle.rm_model.specs.ControlRows.{no_rows, is_valid}
use Rattle.rm_model.specs.Indexes.{indexes_of}
use Rattle.rm_model.specs.Indexing.{one_of}
use Rattle.rm_model.proofs.Members.{none_in, here, there, each}
use Rattle.rm_status.specs.declared.row.Row.{Row}
use Rattle.rm_status.specs.Rows.{row_in, state_in, state_seen, AllAbove, Rising}
use Rattle.rm_status.specs.RowsAfter.{AreRowsAfter}
use Rattle.rm_acts.specs.Rows.{has_valid, with_number, with_numbers, named_rows, valid_rows}
use Rattle.rm_acts.specs.Channels.{channel_table}
use Rattle.rm_acts.proofs.RowsLaws.{listed, only_valid}
use Rattle.rm_filter.specs.declared.channel.Channel.{Channel}
use Rattle.rm_filter.specs.ChannelForm.{set_to}
use Rattle.rm_filter.proofs.JudgeLemmas.{found_first, passed_over}

-- numbers above one, and numbers that rise
abbrev AreOver : ℕ → List ℕ → Type 0
AreOver n [] = Unit {0}
AreOver n (m ∷ more) = (n < m) × AreOver n more

abbrev Rise : List ℕ → Type 0
Rise [] = Unit {0}
Rise (n ∷ more) = AreOver n more × Rise more

each_over : (n : ℕ) (more : List ℕ) → AreOver n more → (m : ℕ) → Contains more m → n < m
each_over n [] over m within = absurd (none_in m within)
each_over n (x ∷ more) over m within = each (λ k. n < k) x more over.0 (λ k later. each_over n more over.1 k later) m within

over_more : (n k : ℕ) (more : List ℕ) → n < k → AreOver k more → AreOver n more
over_more n k [] low over = tt
over_more n k (x ∷ more) low over = let high = over.0 in (omega (arith, low, high), over_more n k more low over.1)

-- rising numbers of which each is among the others are the same
same_numbers : (xs ys : List ℕ) → Rise xs → Rise ys → ((n : ℕ) → Contains xs n → Contains ys n) → ((n : ℕ) → Contains ys n → Contains xs n) → xs ≡ ys
same_numbers [] [] one two forth back = refl
same_numbers [] (y ∷ ys) one two forth back = absurd (none_in y (back y (here y ys)))
same_numbers (x ∷ xs) [] one two forth back = absurd (none_in x (forth x (here x xs)))
same_numbers (x ∷ xs) (y ∷ ys) one two forth back =
    let first : x ≡ y = least (among x xs y (back y (here y ys))) (among y ys x (forth x (here x xs))) in
    ap (λ n. n ∷ xs) first
    ∙ ap (λ l. y ∷ l) (same_numbers xs ys one.1 two.1
    (λ n within. later n y ys (each_over x xs one.0 n within) first (among y ys n (forth n (there x xs n within))))
    (λ n within. later n x xs (each_over y ys two.0 n within) (sym first) (among x xs n (back n (there y ys n within)))))
  where
    among : (k : ℕ) (ks : List ℕ) (n : ℕ) → Contains (k ∷ ks) n → (n ≡ k) ⊎ Contains ks n
    among k ks n within = each (λ m. (m ≡ k) ⊎ Contains ks m) k ks (inl refl) (λ m more. inr more) n within

    least : (y ≡ x) ⊎ Contains xs y → (x ≡ y) ⊎ Contains ys x → x ≡ y
    least (inl same) other = sym same
    least (inr more) (inl same) = same
    least (inr more) (inr others) =
        let low = each_over x xs one.0 y more in
        let high = each_over y ys two.0 x others in
        absurd (omega (arith, low, high))

    later : (n k : ℕ) (ks : List ℕ) → {m : ℕ} → m < n → m ≡ k → (n ≡ k) ⊎ Contains ks n → Contains ks n
    later n k ks above is (inl same) = absurd (omega (arith, above, is, same))
    later n k ks above is (inr more) = more

-- numbers that are put in their order rise
over_with : (n m : ℕ) (xs : List ℕ) → n < m → AreOver n xs → AreOver n (with_number m xs)
over_with n m [] low over = (low, tt)
over_with n m (x ∷ xs) low over =
    let rest = over_with n m xs low over.1 in
    elim (nat_lt m x) as (λ t. AreOver n (cond t (m ∷ x ∷ xs) (cond (nat_eq m x) (x ∷ xs) (x ∷ with_number m xs)))) [
      | true ↦ (low, over)
      | false ↦ elim (nat_eq m x) as (λ t. AreOver n (cond t (x ∷ xs) (x ∷ with_number m xs))) [ true ↦ over | false ↦ (over.0, rest) ]
    ]

rise_with : (m : ℕ) (xs : List ℕ) → Rise xs → Rise (with_number m xs)
rise_with m [] rise = (tt, tt)
rise_with m (x ∷ xs) rise =
    let rest = rise_with m xs rise.1 in
    elim (nat_lt m x) as (λ t. nat_lt m x ≡ t → Rise (cond t (m ∷ x ∷ xs) (cond (nat_eq m x) (x ∷ xs) (x ∷ with_number m xs)))) [
      | true ↦ λ under. let low : m < x = grind (arith, nat_tests) in ((low, over_more m x xs low rise.0), rise)
      | false ↦ λ out. elim (nat_eq m x) as (λ t. nat_eq m x ≡ t → Rise (cond t (x ∷ xs) (x ∷ with_number m xs))) [
        | true ↦ λ _. rise
        | false ↦ λ apart. let low : x < m = grind (arith, nat_tests) in (over_with x m xs low rise.0, rest)
      ] refl
    ] refl

rise_all : (xs : List ℕ) → Rise (with_numbers xs [])
rise_all [] = tt
rise_all (x ∷ xs) = rise_with x (with_numbers xs []) (rise_all xs)

over_filter : (p : ℕ → Bool) (n : ℕ) (xs : List ℕ) → AreOver n xs → AreOver n (filter p xs)
over_filter p n [] over = tt
over_filter p n (x ∷ xs) over =
    let rest = over_filter p n xs over.1 in
    elim (p x) as (λ t. AreOver n (cond t (x ∷ filter p xs) (filter p xs))) [ true ↦ (over.0, rest) | false ↦ rest ]

rise_filter : (p : ℕ → Bool) (xs : List ℕ) → Rise xs → Rise (filter p xs)
rise_filter p [] rise = tt
rise_filter p (x ∷ xs) rise =
    let rest = rise_filter p xs rise.1 in
    elim (p x) as (λ t. Rise (cond t (x ∷ filter p xs) (filter p xs))) [ true ↦ (over_filter p x xs rise.0, rest) | false ↦ rest ]

-- the indexes of the valid rows that are kept
abbrev pub valid_kept : List (Row Channel) → List ℕ
valid_kept rows = map (λ row. row.index) (filter (λ row. is_valid row.state) rows)

over_kept : (n : ℕ) (rows : List (Row Channel)) → AllAbove n rows → AreOver n (valid_kept rows)
over_kept n [] above = tt
over_kept n (x ∷ rows) above =
    let rest = over_kept n rows above.1 in
    elim (is_valid x.state) as (λ t. AreOver n (map (λ (r : Row Channel). r.index) (cond t (x ∷ filter (λ (r : Row Channel). is_valid r.state) rows) (filter (λ (r : Row Channel). is_valid r.state) rows)))) [ true ↦ (above.0, rest) | false ↦ rest ]

rise_kept : (rows : List (Row Channel)) → Rising rows → Rise (valid_kept rows)
rise_kept [] rising = tt
rise_kept (x ∷ rows) rising =
    let rest = rise_kept rows rising.1 in
    elim (is_valid x.state) as (λ t. Rise (map (λ (r : Row Channel). r.index) (cond t (x ∷ filter (λ (r : Row Channel). is_valid r.state) rows) (filter (λ (r : Row Channel). is_valid r.state) rows)))) [ true ↦ (over_kept x.index rows rising.0, rest) | false ↦ rest ]

-- each of them is valid, and each valid one is among them
kept_valid : (rows : List (Row Channel)) → Rising rows → (n : ℕ) → Contains (valid_kept rows) n → is_valid (state_in rows n) ≡ true
kept_valid [] rising n within = absurd (none_in n within)
kept_valid (x ∷ rows) rising n within = by_first (kept_valid rows rising.1) (is_valid x.state) refl within
  where
    later : ((k : ℕ) → Contains (valid_kept rows) k → is_valid (state_in rows k) ≡ true) → (k : ℕ) → Contains (valid_kept rows) k → is_valid (state_in (x ∷ rows) k) ≡ true
    later rest k more =
        let above = each_over x.index (valid_kept rows) (over_kept x.index rows rising.0) k more in
        ap (λ o. is_valid (state_seen o)) (passed_over x rows k (grind (arith, nat_tests))) ∙ rest k more

    by_first : ((k : ℕ) → Contains (valid_kept rows) k → is_valid (state_in rows k) ≡ true) → (t : Bool) → is_valid x.state ≡ t
        → Contains (map (λ (r : Row Channel). r.index) (cond t (x ∷ filter (λ (r : Row Channel). is_valid r.state) rows) (filter (λ (r : Row Channel). is_valid r.state) rows))) n → is_valid (state_in (x ∷ rows) n) ≡ true
    by_first rest true valid among =
        each (λ k. is_valid (state_in (x ∷ rows) k) ≡ true) x.index (valid_kept rows)
        (ap (λ o. is_valid (state_seen o)) (found_first x rows x.index (grind (arith, nat_tests))) ∙ valid)
        (later rest) n among
    by_first rest false idle among = later rest n among

valid_is_kept : (rows : List (Row Channel)) (n : ℕ) → is_valid (state_in rows n) ≡ true → Contains (valid_kept rows) n
valid_is_kept [] n valid = absurd (cc)
valid_is_kept (x ∷ rows) n valid = by_index (valid_is_kept rows n) (nat_eq x.index n) refl valid
  where
    behind : (t : Bool) → Contains (valid_kept rows) n → Contains (map (λ (r : Row Channel). r.index) (cond t (x ∷ filter (λ (r : Row Channel). is_valid r.state) rows) (filter (λ (r : Row Channel). is_valid r.state) rows))) n
    behind true within = there x.index (valid_kept rows) n within
    behind false within = within

    first : (t : Bool) → is_valid x.state ≡ t → t ≡ true → x.index ≡ n → Contains (map (λ (r : Row Channel). r.index) (cond t (x ∷ filter (λ (r : Row Channel). is_valid r.state) rows) (filter (λ (r : Row Channel). is_valid r.state) rows))) n
    first true _ _ is = subst (λ k. Contains (x.index ∷ valid_kept rows) k) is (here x.index (valid_kept rows))
    first false _ never is = absurd (cc)

    by_index : (is_valid (state_in rows n) ≡ true → Contains (valid_kept rows) n) → (t : Bool) → nat_eq x.index n ≡ t
        → is_valid (state_seen (cond t (Some x) (row_in rows n))) ≡ true
        → Contains (map (λ (r : Row Channel). r.index) (cond (is_valid x.state) (x ∷ filter (λ (r : Row Channel). is_valid r.state) rows) (filter (λ (r : Row Channel). is_valid r.state) rows))) n
    by_index rest true same is = first (is_valid x.state) refl is (grind (arith, nat_tests))
    by_index rest false other is = behind (is_valid x.state) (rest is)

pub valid_rows_kept : (rows : List (Row Channel)) → Rising rows → (journal : Journal) → AreRowsAfter channel_table no_rows set_to rows journal → valid_kept rows ≡ valid_rows channel_table journal
valid_rows_kept rows rising journal is =
    same_numbers (valid_kept rows) (valid_rows channel_table journal) (rise_kept rows rising)
    (rise_filter (has_valid channel_table journal) (named_rows channel_table journal) (rise_all (filter_map one_of (indexes_of channel_table [] journal))))
    (λ n within. listed channel_table journal n (ap is_valid (sym (is.alike.states n)) ∙ kept_valid rows rising n within))
    (λ n within. valid_is_kept rows n (ap is_valid (is.alike.states n) ∙ only_valid channel_table journal n within))
