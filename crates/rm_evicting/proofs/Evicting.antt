-- A full table gives up the last of its keys by recency.
use Rattle.std.proofs.Common.{◌≡◌, ℕ, ◌<◌, ◌≤◌, ◌+◌, suc, Bool, true, false, not, ◌&&◌, ◌||◌, nat_lt, nat_le, List, [], ◌∷◌, ◌++◌, length, take, filter, min, refl, sym, ap, ◌∙◌, arith, subst, inl, inr, length-append}
use Rattle.std.specs.List.{list_any, AllByRecursion}
use Rattle.std.proofs.lemmas.Bool.{cases_Bool, le-leb, lt-leb}
use Rattle.std.proofs.lemmas.List.{length-take, length-map, take_all}
use Rattle.std.proofs.lemmas.Bool.Decides.{nat_tests}
use Rattle.rm_evicting.specs.Mention.{Mention, keys}
use Rattle.rm_evicting.specs.Held.{IsExact, without, distinct, last_stamp, entry, Rising}
use Rattle.rm_evicting.specs.declared.Row.{Row}
use Rattle.rm_evicting.specs.Row.{holds, is_oldest, without_oldest, room_made}
use Rattle.rm_evicting.specs.Stands.{IsByEntry, IsRow, Stands}
use Rattle.rm_evicting.proofs.Recency.{IsApart, back, any-without, held_first, take_split, apart-take, distinct-apart, front, length-without}
use Rattle.rm_evicting.proofs.Stamps.{IsFalling, falling, falling-take, front_above}
use Rattle.rm_evicting.proofs.RowLemmas.{row_keys, each-filter, each-both, each-weaker, without_first-same, without_first-key, list_all-each, holds-keys, keys-without, holds_each, each_held, apart_by_entry, by_entry-filter}

module _ {K : Type 0} (eq : K → K → Bool) (exact : IsExact eq) where
  among_last : (x : K) (xs : List K) → list_any (eq x) (xs ++ x ∷ []) ≡ true
  among_last x [] = ap (λ b. b || false) (exact.itself x)
  among_last x (y ∷ xs) = elim (cases_Bool (eq x y)) [ inl e ↦ rw e refl | inr e ↦ rw e (among_last x xs) ]

  among_front : (x h : K) (xs : List K) → IsApart eq exact (xs ++ x ∷ []) → list_any (eq h) (xs ++ x ∷ []) ≡ true → eq x h ≡ false → list_any (eq h) xs ≡ true
  among_front x h xs a i e = sym (front eq exact x xs a h) ∙ rw (i, back eq exact x h e) refl

module _ {K C V : Type 0} (eq : K → K → Bool) (exact : IsExact eq) (means : List C → V → Type 0) (n : ℕ) (r : List (Mention K C)) where
  abbrev stamp : K → ℕ
  stamp h = last_stamp eq h r

  abbrev recent : List K
  recent = distinct eq (keys r)

  -- the rows of the first n keys by recency
  pub record Kept (rows : List (Row K V)) : Type 0 where
    pub holds : (h : K) → holds eq h rows ≡ list_any (eq h) (take n recent)
    pub size : length rows ≡ length (take n recent)
    pub each : AllByRecursion (IsRow eq means (suc n) r) rows
    pub order : IsByEntry rows

  module _ (rows : List (Row K V)) (stands : Stands eq means (suc n) r rows) where
    pub held_here : (h : K) → holds eq h rows ≡ list_any (eq h) (take (suc n) recent)
    held_here h = stands.held h ∙ held_first eq exact (suc n) h (keys r)

    pub long : length rows ≡ length (take (suc n) recent)
    long = stands.size ∙ sym (length-take (suc n) recent)

    pub row_apart : IsApart eq exact (row_keys rows)
    row_apart = apart_by_entry eq exact (λ h. entry eq (suc n) h r) rows (each-weaker (IsRow eq means (suc n) r) (λ row. row.entry ≡ entry eq (suc n) row.key r) (λ row is. is.entry) rows stands.each) stands.order

    abbrev Seen : Row K V → Type 0
    Seen row = (row.last ≡ stamp row.key) × (list_any (eq row.key) (take (suc n) recent) ≡ true)

    seen : AllByRecursion Seen rows
    seen = each-both (λ row. row.last ≡ stamp row.key) (λ row. list_any (eq row.key) (take (suc n) recent) ≡ true) rows
        (each-weaker (IsRow eq means (suc n) r) (λ row. row.last ≡ stamp row.key) (λ row is. is.last) rows stands.each)
        (each-weaker (λ row. holds eq row.key rows ≡ true) (λ row. list_any (eq row.key) (take (suc n) recent) ≡ true) (λ row i. sym (held_here row.key) ∙ i) rows (each_held eq exact rows))

    module _ (x : K) (split : take (suc n) recent ≡ take n recent ++ x ∷ []) (rising : Rising r) where
      last_apart : IsApart eq exact (take n recent ++ x ∷ [])
      last_apart = subst (IsApart eq exact) split (apart-take eq exact (suc n) recent (distinct-apart eq exact (keys r)))

      last_falls : IsFalling stamp (take n recent ++ x ∷ [])
      last_falls = subst (IsFalling stamp) split (falling-take eq exact stamp (suc n) recent (falling eq exact r rising))

      above : (h : K) → list_any (eq h) (take (suc n) recent) ≡ true → eq x h ≡ false → stamp x < stamp h
      above h i e = front_above eq exact stamp x (take n recent) last_falls h (among_front eq exact x h (take n recent) last_apart (ap (list_any (eq h)) (sym split) ∙ i) e)

      at_least : (h : K) → list_any (eq h) (take (suc n) recent) ≡ true → stamp x ≤ stamp h
      at_least h i = elim (cases_Bool (eq x h)) [
        | inl e ↦ let same : stamp x ≡ stamp h = ap stamp (exact.same x h e) in omega arith
        | inr e ↦ let less : stamp x < stamp h = above h i e in omega arith
      ]

      x_held : holds eq x rows ≡ true
      x_held = held_here x ∙ ap (list_any (eq x)) split ∙ among_last eq exact x (take n recent)

      oldest : (row : Row K V) → Seen row → is_oldest rows row ≡ eq x row.key
      oldest row s = elim (cases_Bool (eq x row.key)) [
        | inl e ↦ rw e (list_all-each (λ other. nat_le row.last other.last) rows (each-weaker Seen (λ other. nat_le row.last other.last ≡ true) (λ other o.
            let same : stamp x ≡ stamp row.key = ap stamp (exact.same x row.key e) in
            let mine : row.last ≡ stamp row.key = s.0 in
            let its : other.last ≡ stamp other.key = o.0 in
            let least : stamp x ≤ stamp other.key = at_least other.key o.1 in
            le-leb row.last other.last (omega arith)) rows seen))
        | inr e ↦
            let there = holds_each eq exact Seen x rows seen x_held in
            let its : there.0.last ≡ stamp there.0.key = there.1.0 in
            let its_key : stamp there.0.key ≡ stamp x = ap stamp there.2 in
            let mine : row.last ≡ stamp row.key = s.0 in
            let less : stamp x < stamp row.key = above row.key s.1 e in
            rw e (there.3 (λ other. nat_le row.last other.last) (lt-leb row.last there.0.last (omega arith)))
      ]

      abbrev others : List (Row K V)
      others = filter (λ row. not (eq x row.key)) rows

      without_oldest-is : without_oldest rows ≡ others
      without_oldest-is = without_first-same (is_oldest rows) (λ row. eq x row.key) rows (each-weaker Seen (λ row. is_oldest rows row ≡ eq x row.key) (λ row s. oldest row s) rows seen) ∙ without_first-key eq exact x rows row_apart

      others_kept : Kept others
      others_kept = record {
        holds = λ h. holds-keys eq exact h others ∙ ap (list_any (eq h)) (keys-without eq exact x rows) ∙ any-without eq exact h x (row_keys rows)
            ∙ ap (λ b. b && not (eq h x)) (sym (holds-keys eq exact h rows) ∙ held_here h ∙ ap (list_any (eq h)) split) ∙ front eq exact x (take n recent) last_apart h;
        size =
            let less : suc (length (without eq x (row_keys rows))) ≡ length (row_keys rows) = length-without eq exact x (row_keys rows) row_apart (sym (holds-keys eq exact x rows) ∙ x_held) in
            let these : length others ≡ length (without eq x (row_keys rows)) = sym (length-map others (λ row. row.key)) ∙ ap length (keys-without eq exact x rows) in
            let all : length (row_keys rows) ≡ length rows = length-map rows (λ row. row.key) in
            let ends : length (take (suc n) recent) ≡ length (take n recent) + 1 = ap length split ∙ length-append (take n recent) (x ∷ []) in
            let whole : length rows ≡ length (take (suc n) recent) = long in
            omega arith;
        each = each-filter (IsRow eq means (suc n) r) (λ row. not (eq x row.key)) rows stands.each;
        order = by_entry-filter (λ row. not (eq x row.key)) rows stands.order;
      }

      pub full_kept : Kept (without_oldest rows)
      full_kept = subst Kept (sym without_oldest-is) others_kept

    -- what stays when another key comes in
    pub kept : Rising r → Kept (room_made (suc n) rows)
    kept rising = elim (cases_Bool (nat_lt (length rows) (suc n))) [
      | inl e ↦
          let few : length rows < suc n = grind (arith, nat_tests, e) in
          let whole : length rows ≡ min (suc n) (length recent) = stands.size in
          let short : length recent ≤ n = omega arith in
          rw e (record {
            holds = λ h. held_here h ∙ ap (list_any (eq h)) (take_all (suc n) recent (omega arith) ∙ sym (take_all n recent short));
            size = long ∙ ap length (take_all (suc n) recent (omega arith) ∙ sym (take_all n recent short));
            each = stands.each;
            order = stands.order;
          })
      | inr e ↦
          let many : suc n ≤ length rows = grind (arith, nat_tests, e) in
          let whole : length rows ≡ min (suc n) (length recent) = stands.size in
          let split = take_split eq exact n recent (omega arith) in
          rw e (full_kept split.0 split.1 rising)
    ]
