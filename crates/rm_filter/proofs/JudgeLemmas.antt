-- The channels that accept a frame, found in the order of their indexes.
use Rattle.std.proofs.Common.{◌≡◌, ℕ, suc, ◌+◌, ◌<◌, ◌≤◌, List, [], ◌∷◌, ◌++◌, length, Bool, true, false, cond, nat_eq, nat_lt, nat_le, Option, Some, None, refl, sym, ap, ◌∙◌, arith}
use Rattle.std.specs.Prelude.{filter, filter_map}
use Rattle.std.specs.List.{cons_option}
use Rattle.std.proofs.lemmas.Bool.Decides.{nat_tests}
use Rattle.rm_status.specs.declared.row.Row.{Row}
use Rattle.rm_status.specs.Rows.{row_in, AllAbove, Rising, AllThere}
use Rattle.rm_acts.specs.Channels.{channel_table}
use Rattle.rm_filter.specs.declared.accepted.Accepted.{Accepted}
use Rattle.rm_filter.specs.declared.channel.Channel.{Channel}
use Rattle.rm_filter.specs.Judging.{with_one}

-- the rows up to an index
abbrev pub up_to : (last : ℕ) → List (Row Channel) → List (Row Channel)
up_to last rows = filter (λ row. nat_le row.index last) rows

pub none_to_0 : (rows : List (Row Channel)) → AllThere channel_table rows → up_to 0 rows ≡ []
none_to_0 [] there = refl
none_to_0 (x ∷ rows) there =
    let above = (channel_table.indexed.within x.index there.0.0).0 in
    let not : nat_le x.index 0 ≡ false = grind (arith, nat_tests) in
    ap (λ b. cond b (x ∷ up_to 0 rows) (up_to 0 rows)) not ∙ none_to_0 rows there.1

pub few_to : (last : ℕ) (rows : List (Row Channel)) → length (up_to last rows) ≤ length rows
few_to last [] = omega arith
few_to last (x ∷ rows) =
    let rest = few_to last rows in
    elim (nat_le x.index last) as (λ t. length (cond t (x ∷ up_to last rows) (up_to last rows)) ≤ suc (length rows)) [ true ↦ omega (arith, rest) | false ↦ omega (arith, rest) ]

-- rows above an index
none_above : (rows : List (Row Channel)) (n last : ℕ) → AllAbove n rows → last ≤ n → up_to last rows ≡ []
none_above [] n last above low = refl
none_above (x ∷ rows) n last above low =
    let over = above.0 in
    let not : nat_le x.index last ≡ false = grind (arith, nat_tests) in
    ap (λ b. cond b (x ∷ up_to last rows) (up_to last rows)) not ∙ none_above rows n last above.1 low

pub not_in : (rows : List (Row Channel)) (n i : ℕ) → AllAbove n rows → i ≤ n → row_in rows i ≡ None
not_in [] n i above low = refl
not_in (x ∷ rows) n i above low =
    let over = above.0 in
    let not : nat_eq x.index i ≡ false = grind (arith, nat_tests) in
    ap (λ b. cond b (Some x) (row_in rows i)) not ∙ not_in rows n i above.1 low

pub passed_over : (x : Row Channel) (rows : List (Row Channel)) (i : ℕ) → nat_eq x.index i ≡ false → row_in (x ∷ rows) i ≡ row_in rows i
passed_over x rows i not = ap (λ b. cond b (Some x) (row_in rows i)) not

pub found_first : (x : Row Channel) (rows : List (Row Channel)) (i : ℕ) → nat_eq x.index i ≡ true → row_in (x ∷ rows) i ≡ Some x
found_first x rows i same = ap (λ b. cond b (Some x) (row_in rows i)) same

-- the row that is found has the index
pub index_is : (rows : List (Row Channel)) (i : ℕ) (row : Row Channel) → row_in rows i ≡ Some row → row.index ≡ i
index_is [] i row here = absurd (cc)
index_is (x ∷ rows) i row here =
    elim (nat_eq x.index i) as (λ t. nat_eq x.index i ≡ t → cond t (Some x) (row_in rows i) ≡ Some row → row.index ≡ i) [
      | true ↦ λ same found. let is : x ≡ row = cc in let e : x.index ≡ i = grind (arith, nat_tests) in ap (λ r. r.index) (sym is) ∙ e
      | false ↦ λ _ found. index_is rows i row found
    ] refl here

-- a row more
pub one_more : (rows : List (Row Channel)) (last next : ℕ) (row : Row Channel) → Rising rows → last < next → row_in rows next ≡ Some row
    → ((i : ℕ) → last < i → i < next → row_in rows i ≡ None) → up_to next rows ≡ up_to last rows ++ row ∷ []
one_more [] last next row rising low here between = absurd (cc)
one_more (x ∷ rows) last next row rising low here between = by_place (λ found none. one_more rows last next row rising.1 low found none) (nat_le x.index last) refl
  where
    by_next : (t : Bool) → nat_eq x.index next ≡ t → nat_le x.index last ≡ false → up_to next (x ∷ rows) ≡ up_to last (x ∷ rows) ++ row ∷ []
    by_next true same out =
        let within : nat_le x.index next ≡ true = grind (arith, nat_tests) in
        let e : x.index ≡ next = grind (arith, nat_tests) in
        let under : last < x.index = grind (arith, nat_tests) in
        let mine : Some x ≡ Some row = sym (found_first x rows next same) ∙ here in
        let is : x ≡ row = cc in
        ap (λ b. cond b (x ∷ up_to next rows) (up_to next rows)) within
        ∙ ap (λ l. x ∷ l) (none_above rows x.index next rising.0 (omega (arith, e)))
        ∙ ap (λ r. r ∷ []) is
        ∙ sym (ap (λ l. l ++ row ∷ []) (ap (λ b. cond b (x ∷ up_to last rows) (up_to last rows)) out ∙ none_above rows x.index last rising.0 (omega (arith, under))))
    by_next false other out = absurd (by_order (nat_lt x.index next) refl)
      where
        by_order : (t : Bool) → nat_lt x.index next ≡ t → ⊥
        by_order true before =
            let found : row_in (x ∷ rows) x.index ≡ Some x = found_first x rows x.index (grind (arith, nat_tests)) in
            let none = between x.index (grind (arith, nat_tests)) (grind (arith, nat_tests)) in
            cc
        by_order false behind =
            let none : row_in rows next ≡ None = not_in rows x.index next rising.0 (grind (arith, nat_tests)) in
            let found : row_in rows next ≡ Some row = sym (passed_over x rows next other) ∙ here in
            cc

    by_place : (row_in rows next ≡ Some row → ((i : ℕ) → last < i → i < next → row_in rows i ≡ None) → up_to next rows ≡ up_to last rows ++ row ∷ [])
        → (t : Bool) → nat_le x.index last ≡ t → up_to next (x ∷ rows) ≡ up_to last (x ∷ rows) ++ row ∷ []
    by_place later true in_front =
        let within : nat_le x.index next ≡ true = grind (arith, nat_tests) in
        let other : nat_eq x.index next ≡ false = grind (arith, nat_tests) in
        let rest = later (sym (passed_over x rows next other) ∙ here)
        (λ i above under. sym (passed_over x rows i (grind (arith, nat_tests))) ∙ between i above under) in
        ap (λ b. cond b (x ∷ up_to next rows) (up_to next rows)) within
        ∙ ap (λ l. x ∷ l) rest
        ∙ sym (ap (λ b. cond b (x ∷ up_to last rows) (up_to last rows) ++ row ∷ []) in_front)
    by_place later false out = by_next (nat_eq x.index next) refl out

pub all_to : (rows : List (Row Channel)) (last : ℕ) → ((i : ℕ) → last < i → row_in rows i ≡ None) → up_to last rows ≡ rows
all_to [] last none = refl
all_to (x ∷ rows) last none = by_place (λ gone. all_to rows last gone) (nat_le x.index last) refl
  where
    by_place : (((i : ℕ) → last < i → row_in rows i ≡ None) → up_to last rows ≡ rows) → (t : Bool) → nat_le x.index last ≡ t → up_to last (x ∷ rows) ≡ x ∷ rows
    by_place later true in_front =
        ap (λ b. cond b (x ∷ up_to last rows) (up_to last rows)) in_front
        ∙ ap (λ l. x ∷ l) (later (λ i above. sym (passed_over x rows i (grind (arith, nat_tests))) ∙ none i above))
    by_place later false out =
        let found : row_in (x ∷ rows) x.index ≡ Some x = found_first x rows x.index (grind (arith, nat_tests)) in
        let gone = none x.index (grind (arith, nat_tests)) in
        absurd (cc)

-- what one more adds
module _ (f : Row Channel → Option Accepted) where
  kept_in : (a o : Option Accepted) (list : List Accepted) → cons_option a (with_one list o) ≡ with_one (cons_option a list) o
  kept_in None None list = refl
  kept_in None (Some one) list = refl
  kept_in (Some first) None list = refl
  kept_in (Some first) (Some one) list = refl

  of_one : (o : Option Accepted) → cons_option o [] ≡ with_one [] o
  of_one None = refl
  of_one (Some one) = refl

  pub mapped_more : (rows : List (Row Channel)) (row : Row Channel) → filter_map f (rows ++ row ∷ []) ≡ with_one (filter_map f rows) (f row)
  mapped_more [] row = of_one (f row)
  mapped_more (x ∷ rows) row = ap (cons_option (f x)) (mapped_more rows row) ∙ kept_in (f x) (f row) (filter_map f rows)

pub length_with : (list : List Accepted) (one : Option Accepted) → length (with_one list one) ≤ length list + 1
length_with list None = omega arith
length_with list (Some one) = let n = length_more list one in omega (arith, n)
  where
    length_more : (list : List Accepted) (one : Accepted) → length (list ++ one ∷ []) ≡ length list + 1
    length_more [] one = refl
    length_more (x ∷ list) one = let n = length_more list one in omega (arith, n)

pub length_more : (rows : List (Row Channel)) (row : Row Channel) → length (rows ++ row ∷ []) ≡ length rows + 1
length_more [] row = refl
length_more (x ∷ rows) row = let n = length_more rows row in omega (arith, n)
