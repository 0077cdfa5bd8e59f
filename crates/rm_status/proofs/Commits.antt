-- What a commit makes of each row.
use Rattle.std.proofs.Common.{◌≡◌, ℕ, ◌<◌, ◌+◌, zero, suc, Bool, true, false, cond, ◌||◌, List, [], ◌∷◌, length, map, Option, Some, None, find, refl, sym, ap, ◌∙◌, arith, get_or, take, add-one, nat_eq, option_map, filter_map}
use Rattle.std.specs.List.{list_any}
use Rattle.std.specs.Option.{option_or}
use Rattle.std.proofs.Math.Seq.{take-length}
use borrow.Author.Tests.{eqb-true}
use Rattle.rm_val.specs.Val.{Val}
use Rattle.rm_model.specs.declared.row.StatusKind.{StatusKind}
use Rattle.rm_model.specs.declared.row.State.{State}
use Rattle.rm_model.specs.declared.row.State.TheVariants.{Absent}
use Rattle.rm_model.specs.declared.row.Ask.{Ask}
use Rattle.rm_model.specs.declared.row.Ask.TheVariants.{Nothing, Create, CreateValid}
use Rattle.rm_model.specs.Journal.{Assignment}
use Rattle.rm_model.specs.ControlTable.{row_index, ControlTable}
use Rattle.rm_model.specs.ControlRows.{value_ask, set_ask, next_state, is_absent}
use Rattle.rm_model.specs.Judgement.{Bindings, nothing_bound, name_at, place_of, is_made}
use Rattle.rm_status.specs.declared.row.Row.{Row}
use Rattle.rm_status.specs.Rows.{row_in, AreControlRows}
use Rattle.rm_status.specs.Commit.{is_cell, is_status, if_there, made_row, put_all, write_row, settle_row, row_after}
use Rattle.rm_status.proofs.RowEdits.{rising-map, row_in-map, there-map, rising-filter, row_in-filter, there-filter, then_f}
use Rattle.rm_status.proofs.PlaceLemmas.{is_cell_name}
use Rattle.rm_status.proofs.Settles.{settle_there, settle_index}

any_more : {X : Type 0} (p : X → Bool) (d : X) (xs : List X) (k : ℕ) → k < length xs → list_any p (take (suc k) xs) ≡ (list_any p (take k xs) || p (get_or xs k d))
any_more p d [] k lt = absurd (omega arith)
any_more p d (x ∷ xs) zero lt = elim (p x) as (λ t. (t || false) ≡ t) [ true ↦ refl | false ↦ refl ]
any_more p d (x ∷ xs) (suc k) lt = elim (p x) as (λ t. (t || list_any p (take (suc k) xs)) ≡ ((t || list_any p (take k xs)) || p (get_or xs k d))) [ true ↦ refl | false ↦ any_more p d xs k (omega arith) ]

pub any_next : {X : Type 0} (p : X → Bool) (d : X) (xs : List X) (k : ℕ) → k < length xs → list_any p (take (k + 1) xs) ≡ (list_any p (take k xs) || p (get_or xs k d))
any_next p d xs k lt = ap (λ n. list_any p (take n xs)) (add-one k) ∙ any_more p d xs k lt

any_of_find : {X : Type 0} (p : X → Bool) (xs : List X) (x : X) → find p xs ≡ Some x → list_any p xs ≡ true
any_of_find p [] x h = cc
any_of_find p (y ∷ xs) x h = elim (p y) as (λ t. cond t (Some y) (find p xs) ≡ Some x → (t || list_any p xs) ≡ true) [ true ↦ λ k. refl | false ↦ λ k. any_of_find p xs x k ] h

joined : {A : Type 0} (o m : Option A) (a b : Bool) → option_or (option_or o (cond a m None)) (cond b m None) ≡ option_or o (cond (a || b) m None)
joined (Some x) m a b = refl
joined {A = A} None m true b = elim m as (λ q. option_or q (cond b q None) ≡ q) [ None ↦ elim b as (λ t. ◌≡◌ {A = Option A} (cond t None None) None) [ true ↦ refl | false ↦ refl ] | Some x ↦ refl ]
joined None m false b = refl

-- a row that was just made stays as it was made
settles : (a : Ask) → next_state a (next_state a Absent) ≡ next_state a Absent
settles Nothing = refl
settles ask = refl

stays_absent : (a : Ask) → is_made Absent a ≡ false → is_absent (next_state a Absent) ≡ true
stays_absent Create h = cc
stays_absent CreateValid h = cc
stays_absent ask h = refl

pub made_there : (a : Ask) → is_made Absent a ≡ true → is_absent (next_state a Absent) ≡ false
made_there Create h = refl
made_there CreateValid h = refl
made_there ask h = cc

-- a Set that makes a row has a binding of its status
asked_of : (kind : StatusKind) (o : Option Assignment) → is_made Absent (value_ask kind (option_map (λ a. a.value) o)) ≡ true → (a : Assignment) × (o ≡ Some a)
asked_of kind (Some a) h = (a, refl)
asked_of kind None h = absurd (cc)

pub made_is_bound : (t : ControlTable) (bs : Bindings) (i : ℕ) → is_made Absent (set_ask t bs (row_index t i)) ≡ true → list_any (is_status t i) bs ≡ true
made_is_bound t bs i h = let f = asked_of t.status_kind (find (is_status t i) bs) h in any_of_find (is_status t i) bs f.0 f.1

module _ {C : Type 0} where
  pub index_in : (rows : List (Row C)) (i : ℕ) (r : Row C) → row_in rows i ≡ Some r → r.index ≡ i
  index_in [] i r h = absurd (cc)
  index_in (x ∷ rows) i r h =
      elim (nat_eq x.index i) as (λ t. nat_eq x.index i ≡ t → cond t (Some x) (row_in rows i) ≡ Some r → r.index ≡ i) [
        | true ↦ λ e k. let is : x ≡ r = cc in ap (λ y. y.index) (sym is) ∙ eqb-true x.index i e
        | false ↦ λ _ k. index_in rows i r k
      ] refl h

module _ {C : Type 0} (t : ControlTable) (with_column : C → ℕ → Val → C) (blank : ℕ → C) (bs : Bindings) where
  -- row i once the first k bindings made their rows
  abbrev pub made_first : List (Row C) → ℕ → ℕ → Option (Row C)
  made_first rows k i = option_or (row_in rows i) (cond (list_any (is_status t i) (take k bs)) (made_row t with_column blank bs i) None)

  pub made_none : (rows : List (Row C)) (i : ℕ) → row_in rows i ≡ made_first rows 0 i
  made_none rows i = elim (row_in rows i) as (λ o. o ≡ option_or o None) [ None ↦ refl | Some r ↦ refl ]

  pub made_more : (init rows new : List (Row C)) (k : ℕ) → k < length bs → ((i : ℕ) → row_in rows i ≡ made_first init k i) → ((i : ℕ) → row_in new i ≡ option_or (row_in rows i) (cond (is_cell t.status i (place_of t (name_at bs k))) (made_row t with_column blank bs i) None)) → (i : ℕ) → row_in new i ≡ made_first init (k + 1) i
  made_more init rows new k lt before made i =
      made i ∙ ap (λ b. option_or (row_in rows i) (cond b (made_row t with_column blank bs i) None)) (is_cell_name t t.entry (name_at bs k) t.status i)
      ∙ ap (λ o. option_or o (cond (is_status t i (get_or bs k nothing_bound)) (made_row t with_column blank bs i) None)) (before i)
      ∙ joined (row_in init i) (made_row t with_column blank bs i) (list_any (is_status t i) (take k bs)) (is_status t i (get_or bs k nothing_bound))
      ∙ ap (λ a. option_or (row_in init i) (cond a (made_row t with_column blank bs i) None)) (sym (any_next (is_status t i) nothing_bound bs k lt))

  all_made : (i : ℕ) → cond (list_any (is_status t i) bs) (made_row t with_column blank bs i) None ≡ made_row t with_column blank bs i
  all_made i = elim (is_made Absent (set_ask t bs (row_index t i))) as (λ m. is_made Absent (set_ask t bs (row_index t i)) ≡ m → cond (list_any (is_status t i) bs) (cond m (Some made) None) None ≡ cond m (Some made) None) [
    | true ↦ λ e. rw (made_is_bound t bs i e) refl
    | false ↦ λ e. elim (list_any (is_status t i) bs) as (λ a. ◌≡◌ {A = Option (Row C)} (cond a None None) None) [ true ↦ refl | false ↦ refl ]
  ] refl
    where
      made : Row C
      made = record { index = i; state = next_state (set_ask t bs (row_index t i)) Absent; columns = blank i }

  pub rows_then : (rows : List (Row C)) → AreControlRows t rows → AreControlRows t (filter_map (settle_row t with_column blank bs) (map (write_row t with_column blank bs) rows))
  rows_then rows h = (
    rising-filter (settle_row t with_column blank bs) (settle_index t with_column blank bs) (map (write_row t with_column blank bs) rows) ((rising-map (write_row t with_column blank bs) (λ r. refl) rows).0 h.0),
    there-filter (settle_row t with_column blank bs) (settle_index t with_column blank bs) t (settle_there t with_column blank bs) (map (write_row t with_column blank bs) rows) ((there-map (write_row t with_column blank bs) (λ r. refl) t (λ r. refl) rows).0 h.1),
  )

  -- a row with the bindings in it, in its next state
  abbrev after : Option (Row C) → Option (Row C)
  after o = then_f (settle_row t with_column blank bs) (settle_index t with_column blank bs) (option_map (write_row t with_column blank bs) o)

  abbrev there : ℕ → State → C → Option (Row C)
  there i s c = if_there t with_column blank (record { index = i; state = s; columns = c })

  after_made : (i : ℕ) → after (made_row t with_column blank bs i) ≡ row_after t with_column blank bs i None
  after_made i = elim (is_made Absent (set_ask t bs (row_index t i))) as (λ m. is_made Absent (set_ask t bs (row_index t i)) ≡ m → after (cond m (Some (record { index = i; state = next_state (set_ask t bs (row_index t i)) Absent; columns = blank i })) None) ≡ row_after t with_column blank bs i None) [
    | true ↦ λ _. ap (λ s. there i s (put_all t with_column blank bs i (blank i))) (settles (set_ask t bs (row_index t i)))
    | false ↦ λ e. ap (λ b. cond b None (Some (record { index = i; state = next_state (set_ask t bs (row_index t i)) Absent; columns = put_all t with_column blank bs i (blank i) }))) (sym (stays_absent (set_ask t bs (row_index t i)) e))
  ] refl

  after_held : (i : ℕ) (r : Row C) → r.index ≡ i → after (Some r) ≡ row_after t with_column blank bs i (Some r)
  after_held i r is = ap (λ n. there n (next_state (set_ask t bs (row_index t n)) r.state) (put_all t with_column blank bs n r.columns)) is

  after_is : (init : List (Row C)) (i : ℕ) (o : Option (Row C)) → row_in init i ≡ o → after (option_or o (made_row t with_column blank bs i)) ≡ row_after t with_column blank bs i o
  after_is init i None h = after_made i
  after_is init i (Some r) h = after_held i r (index_in init i r h)

  -- what the whole commit leaves
  pub committed : (init rows : List (Row C)) → AreControlRows t rows → ((i : ℕ) → row_in rows i ≡ made_first init (length bs) i) → (i : ℕ) → row_in (filter_map (settle_row t with_column blank bs) (map (write_row t with_column blank bs) rows)) i ≡ row_after t with_column blank bs i (row_in init i)
  committed init rows h made i =
      row_in-filter (settle_row t with_column blank bs) (settle_index t with_column blank bs) (map (write_row t with_column blank bs) rows) i ((rising-map (write_row t with_column blank bs) (λ r. refl) rows).0 h.0)
      ∙ ap (then_f (settle_row t with_column blank bs) (settle_index t with_column blank bs)) (row_in-map (write_row t with_column blank bs) (λ r. refl) rows i)
      ∙ ap after (made i ∙ ap (λ l. option_or (row_in init i) (cond (list_any (is_status t i) l) (made_row t with_column blank bs i) None)) (take-length bs) ∙ ap (option_or (row_in init i)) (all_made i))
      ∙ after_is init i (row_in init i) refl
