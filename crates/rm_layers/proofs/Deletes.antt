-- No more rows are held than were entered.
use Rattle.std.proofs.Common.{◌≡◌, ℕ, ◌+◌, ◌≤◌, suc, Bool, true, false, cond, not, ◌&&◌, List, [], ◌∷◌, ◌++◌, map, length, nat_lt, Option, Some, None, refl, sym, ap, ◌∙◌, arith, inl, inr, length-append}
use Rattle.std.proofs.lemmas.Bool.{cases_Bool, true≢false}
use Rattle.std.proofs.lemmas.List.{length-map}
use Rattle.std.proofs.lemmas.List.Sums.{sum_by-cons, sum_by-append}
use Rattle.rm_evicting.specs.declared.Row.{Row}
use Rattle.rm_evicting.specs.Row.{at_first, without_first, holds, is_oldest, room_made, renewed, credited}
use Rattle.rm_layers.specs.Event.{Contribution}
use Rattle.rm_layers.specs.Network.{is_on_path}
use Rattle.std.specs.Option.{is_some}
use Rattle.rm_layers.specs.Applications.{Application, Value, Slots, is_same, application_with, applications_with, made_by, used, no_applications, blank_value, gained, kept_applications, retuned_value}
use Rattle.rm_layers.specs.Upper.{Upper, applications_before, named, with_value, retuned, emptied, begun, applications_held, IsWithin}

module _ {A : Type 0} where
  used-cons : (application : Option (Application A)) (applications : List (Option (Application A))) → used (application ∷ applications) ≡ cond (is_some application) 1 0 + used applications
  used-cons application applications = sum_by-cons (λ a. cond (is_some a) 1 0) application applications

  used-kept : (old slots : Slots) (applications : List (Option (Application A))) → used (kept_applications old slots applications) ≤ used applications
  used-kept [] slots applications = omega arith
  used-kept (was ∷ old) [] applications = omega arith
  used-kept (was ∷ old) (slot ∷ slots) [] = omega arith
  used-kept (was ∷ old) (slot ∷ slots) (application ∷ applications) =
      let rest : used (kept_applications old slots applications) ≤ used applications = used-kept old slots applications in
      let whole : used (application ∷ applications) ≡ cond (is_some application) 1 0 + used applications = used-cons application applications in
      elim (cases_Bool (is_same was slot)) [
        | inl e ↦ rw e (let here : used (application ∷ kept_applications old slots applications) ≡ cond (is_some application) 1 0 + used (kept_applications old slots applications) = used-cons application (kept_applications old slots applications) in omega arith)
        | inr e ↦ rw e (let here : used ((let nothing : Option (Application A) = None in nothing) ∷ kept_applications old slots applications) ≡ 0 + used (kept_applications old slots applications) = used-cons None (kept_applications old slots applications) in omega arith)
      ]

module _ {A G : Type 0} (none : A) (more : A → G → A) (takes : ℕ → Bool) (c : Contribution G) where
  used-with : (slots : Slots) (applications : List (Option (Application A))) → used (applications_with none more takes slots c applications) ≤ used applications + made_by takes slots applications
  used-with [] applications = omega arith
  used-with (slot ∷ slots) [] = omega arith
  used-with (None ∷ slots) (application ∷ applications) =
      let rest : used (applications_with none more takes slots c applications) ≤ used applications + made_by takes slots applications = used-with slots applications in
      let whole : used (application ∷ applications) ≡ cond (is_some application) 1 0 + used applications = used-cons application applications in
      let here : used (application ∷ applications_with none more takes slots c applications) ≡ cond (is_some application) 1 0 + used (applications_with none more takes slots c applications) = used-cons application (applications_with none more takes slots c applications) in
      omega arith
  used-with (Some p ∷ slots) (application ∷ applications) = one (used-with slots applications) (takes p) application
    where
      one : used (applications_with none more takes slots c applications) ≤ used applications + made_by takes slots applications → (b : Bool) (a : Option (Application A)) → used (cond b (Some (application_with none more a c)) a ∷ applications_with none more takes slots c applications) ≤ used (a ∷ applications) + (made_by takes slots applications + cond (b && not (is_some a)) 1 0)
      one rest true None =
          let whole : used ((let nothing : Option (Application A) = None in nothing) ∷ applications) ≡ 0 + used applications = used-cons None applications in
          let here : used (Some (application_with none more None c) ∷ applications_with none more takes slots c applications) ≡ 1 + used (applications_with none more takes slots c applications) = used-cons (Some (application_with none more None c)) (applications_with none more takes slots c applications) in
          omega arith
      one rest true (Some a) =
          let whole : used (Some a ∷ applications) ≡ 1 + used applications = used-cons (Some a) applications in
          let here : used (Some (application_with none more (Some a) c) ∷ applications_with none more takes slots c applications) ≡ 1 + used (applications_with none more takes slots c applications) = used-cons (Some (application_with none more (Some a) c)) (applications_with none more takes slots c applications) in
          omega arith
      one rest false a =
          let whole : used (a ∷ applications) ≡ cond (is_some a) 1 0 + used applications = used-cons a applications in
          let here : used (a ∷ applications_with none more takes slots c applications) ≡ cond (is_some a) 1 0 + used (applications_with none more takes slots c applications) = used-cons a (applications_with none more takes slots c applications) in
          omega arith

  used_blank : (slots : Slots) → used (let nothing : List (Option (Application A)) = no_applications slots in nothing) ≡ 0
  used_blank [] = refl
  used_blank (slot ∷ slots) = used-cons None (no_applications slots) ∙ (let rest : used (let nothing : List (Option (Application A)) = no_applications slots in nothing) ≡ 0 = used_blank slots in omega arith)

length-at_first : {X : Type 0} (p : X → Bool) (f : X → X) (xs : List X) → length (at_first p f xs) ≡ length xs
length-at_first p f [] = refl
length-at_first p f (x ∷ xs) = elim (cases_Bool (p x)) [ inl e ↦ rw e refl | inr e ↦ rw e (ap suc (length-at_first p f xs)) ]

length-without_first : {X : Type 0} (p : X → Bool) (xs : List X) → length (without_first p xs) ≤ length xs
length-without_first p [] = omega arith
length-without_first p (x ∷ xs) = elim (cases_Bool (p x)) [ inl e ↦ rw e (omega arith) | inr e ↦ rw e (let rest : length (without_first p xs) ≤ length xs = length-without_first p xs in omega arith) ]

module _ {K N A : Type 0} where
  held-cons : (row : Row K (Value N A)) (rows : List (Row K (Value N A))) → applications_held (row ∷ rows) ≡ used row.value.applications + applications_held rows
  held-cons row rows = sum_by-cons (λ (x : Row K (Value N A)). used x.value.applications) row rows

  held-without_first : (p : Row K (Value N A) → Bool) (rows : List (Row K (Value N A))) → applications_held (without_first p rows) ≤ applications_held rows
  held-without_first p [] = omega arith
  held-without_first p (row ∷ rows) =
      let whole : applications_held (row ∷ rows) ≡ used row.value.applications + applications_held rows = held-cons row rows in
      elim (cases_Bool (p row)) [
        | inl e ↦ rw e (omega arith)
        | inr e ↦ rw e (let rest : applications_held (without_first p rows) ≤ applications_held rows = held-without_first p rows in let here : applications_held (row ∷ without_first p rows) ≡ used row.value.applications + applications_held (without_first p rows) = held-cons row (without_first p rows) in omega arith)
      ]

module _ {K N A : Type 0} (eq : K → K → Bool) where
  absent_still : (k : K) (p : Row K (Value N A) → Bool) (rows : List (Row K (Value N A))) → holds eq k rows ≡ false → holds eq k (without_first p rows) ≡ false
  absent_still k p [] o = refl
  absent_still k p (row ∷ rows) o = elim (cases_Bool (eq k row.key)) [
    | inl e ↦ absurd (true≢false (rw e at o))
    | inr e ↦ elim (cases_Bool (p row)) [
      | inl y ↦ rw y (rw e at o)
      | inr y ↦ rw (y, e) (absent_still k p rows (rw e at o))
    ]
  ]

  renewed-held : (k : K) (s t : ℕ) (rows : List (Row K (Value N A))) → applications_held (renewed eq k s t rows) ≡ applications_held rows
  renewed-held k s t [] = refl
  renewed-held k s t (row ∷ rows) = elim (cases_Bool (eq k row.key)) [
    | inl e ↦ rw e (held-cons (record row { last = s; tick = t }) rows ∙ sym (held-cons row rows))
    | inr e ↦ rw e (held-cons row (renewed eq k s t rows) ∙ ap (λ m. used row.value.applications + m) (renewed-held k s t rows) ∙ sym (held-cons row rows))
  ]

module _ {K N A G : Type 0} (eq : K → K → Bool) (blank : N) (add : N → G → N) (none : A) (more : A → G → A) (room : ℕ) (slots : Slots) (k : K) (c : Contribution G) where
  abbrev Rows : Type 0
  Rows = List (Row K (Value N A))

  abbrev made : List (Option (Application A)) → ℕ
  made applications = made_by (λ p. is_on_path p c) slots applications

  abbrev of_k : Rows → List (Option (Application A))
  of_k rows = applications_before eq blank add none more room slots k rows

  before-renewed : (s t : ℕ) (rows : Rows) → of_k (renewed eq k s t rows) ≡ of_k rows
  before-renewed s t [] = refl
  before-renewed s t (row ∷ rows) = elim (cases_Bool (eq k row.key)) [
    | inl e ↦ rw (e, e) refl
    | inr e ↦ rw (e, e) (before-renewed s t rows)
  ]

  before-entered : (rows : Rows) (s t : ℕ) → holds eq k rows ≡ false → of_k (rows ++ record { key = k; value = blank_value blank slots; entry = s; last = s; tick = t } ∷ []) ≡ no_applications slots
  before-entered [] s t o = elim (cases_Bool (eq k k)) [ inl e ↦ rw e refl | inr e ↦ rw e refl ]
  before-entered (row ∷ rows) s t o = elim (cases_Bool (eq k row.key)) [
    | inl e ↦ absurd (true≢false (rw e at o))
    | inr e ↦ rw e (before-entered rows s t (rw e at o))
  ]

  credited-held : (rows : Rows) → applications_held (credited eq (gained blank add none more slots) k c rows) ≤ applications_held rows + made (of_k rows)
  credited-held [] = omega arith
  credited-held (row ∷ rows) =
      let whole : applications_held (row ∷ rows) ≡ used row.value.applications + applications_held rows = held-cons row rows in
      elim (cases_Bool (eq k row.key)) [
        | inl e ↦ rw e (
            let here : applications_held (record row { value = gained blank add none more slots row.value c } ∷ rows) ≡ used (applications_with none more (λ p. is_on_path p c) slots c row.value.applications) + applications_held rows = held-cons (record row { value = gained blank add none more slots row.value c }) rows in
            let more_used : used (applications_with none more (λ p. is_on_path p c) slots c row.value.applications) ≤ used row.value.applications + made row.value.applications = used-with none more (λ p. is_on_path p c) c slots row.value.applications in
            omega arith)
        | inr e ↦ rw e (
            let rest : applications_held (credited eq (gained blank add none more slots) k c rows) ≤ applications_held rows + made (of_k rows) = credited-held rows in
            let here : applications_held (row ∷ credited eq (gained blank add none more slots) k c rows) ≡ used row.value.applications + applications_held (credited eq (gained blank add none more slots) k c rows) = held-cons row (credited eq (gained blank add none more slots) k c rows) in
            omega arith)
      ]

  before-absent : (rows : Rows) → holds eq k rows ≡ false → of_k rows ≡ no_applications slots
  before-absent [] o = refl
  before-absent (row ∷ rows) o = elim (cases_Bool (eq k row.key)) [
    | inl e ↦ absurd (true≢false (rw e at o))
    | inr e ↦ rw e (before-absent rows (rw e at o))
  ]

  made_room : (rows : Rows) → holds eq k rows ≡ false → (length (room_made room rows) ≤ length rows) × (applications_held (room_made room rows) ≤ applications_held rows) × (holds eq k (room_made room rows) ≡ false)
  made_room rows o = elim (cases_Bool (nat_lt (length rows) room)) [
    | inl e ↦ rw e (omega arith, omega arith, o)
    | inr e ↦ rw e (length-without_first (is_oldest rows) rows, held-without_first (is_oldest rows) rows, absent_still eq k (is_oldest rows) rows o)
  ]

  -- a reference keeps it so
  pub within-named : (u : Upper K N A) → IsWithin u → IsWithin (named eq blank add none more room slots k c u)
  within-named u is = elim (cases_Bool (holds eq k u.rows)) [
    | inl e ↦ rw e (record {
      rows = (let a = length-at_first (λ row. eq k row.key) (λ row. record row { value = gained blank add none more slots row.value c }) (renewed eq k c.stamp c.tick u.rows) in
          let b = length-at_first (λ row. eq k row.key) (λ row. record row { last = c.stamp; tick = c.tick }) u.rows in
          let same : length (credited eq (gained blank add none more slots) k c (renewed eq k c.stamp c.tick u.rows)) ≡ length u.rows = a ∙ b in
          let few : length u.rows ≤ u.network_inserts = is.rows in omega arith);
      applications = (let less : applications_held (credited eq (gained blank add none more slots) k c (renewed eq k c.stamp c.tick u.rows)) ≤ applications_held (renewed eq k c.stamp c.tick u.rows) + made (of_k (renewed eq k c.stamp c.tick u.rows)) = credited-held (renewed eq k c.stamp c.tick u.rows) in
          let same : applications_held (renewed eq k c.stamp c.tick u.rows) ≡ applications_held u.rows = renewed-held eq k c.stamp c.tick u.rows in
          let as_before : made (of_k (renewed eq k c.stamp c.tick u.rows)) ≡ made (of_k u.rows) = ap made (before-renewed c.stamp c.tick u.rows) in
          let few : applications_held u.rows ≤ u.application_inserts = is.applications in omega arith);
    })
    | inr e ↦ rw (e, before-absent u.rows e) (
        let left : Rows = room_made room u.rows in
        let new : Row K (Value N A) = record { key = k; value = blank_value blank slots; entry = c.stamp; last = c.stamp; tick = c.tick } in
        let rooms = made_room u.rows e in
        record {
          rows = (let a : length (credited eq (gained blank add none more slots) k c (room_made room u.rows ++ new ∷ [])) ≡ length (room_made room u.rows ++ new ∷ []) = length-at_first (λ row. eq k row.key) (λ row. record row { value = gained blank add none more slots row.value c }) (room_made room u.rows ++ new ∷ []) in
              let b : length (room_made room u.rows ++ new ∷ []) ≡ length (room_made room u.rows) + 1 = length-append (room_made room u.rows) (new ∷ []) in
              let d : length (room_made room u.rows) ≤ length u.rows = rooms.0 in
              let few : length u.rows ≤ u.network_inserts = is.rows in omega arith);
          applications = (let a : applications_held (credited eq (gained blank add none more slots) k c (room_made room u.rows ++ new ∷ [])) ≤ applications_held (room_made room u.rows ++ new ∷ []) + made (of_k (room_made room u.rows ++ new ∷ [])) = credited-held (room_made room u.rows ++ new ∷ []) in
              let b : made (of_k (room_made room u.rows ++ new ∷ [])) ≡ made (no_applications slots) = ap made (before-entered (room_made room u.rows) c.stamp c.tick rooms.2) in
              let d : applications_held (room_made room u.rows ++ new ∷ []) ≡ applications_held (room_made room u.rows) + applications_held (new ∷ []) = sum_by-append (λ (x : Row K (Value N A)). used x.value.applications) (room_made room u.rows) (new ∷ []) in
              let f : applications_held (new ∷ []) ≡ 0 = ap (λ m. 0 + m) (used_blank none more (λ p. is_on_path p c) c slots) in
              let g : applications_held (room_made room u.rows) ≤ applications_held u.rows = rooms.1 in
              let few : applications_held u.rows ≤ u.application_inserts = is.applications in omega arith);
        })
  ]

module _ {K N A : Type 0} where
  pub within-retuned : (old slots : Slots) (u : Upper K N A) → IsWithin u → IsWithin (retuned old slots u)
  within-retuned old slots u is = record {
    rows = (let same : length (map (with_value (retuned_value old slots)) u.rows) ≡ length u.rows = length-map u.rows (with_value (retuned_value old slots)) in let few : length u.rows ≤ u.network_inserts = is.rows in omega arith);
    applications = (let fewer : applications_held (map (with_value (retuned_value old slots)) u.rows) ≤ applications_held u.rows = less u.rows in let few : applications_held u.rows ≤ u.application_inserts = is.applications in omega arith);
  }
    where
      less : (rows : List (Row K (Value N A))) → applications_held (map (with_value (retuned_value old slots)) rows) ≤ applications_held rows
      less [] = omega arith
      less (row ∷ rows) =
          let rest : applications_held (map (with_value (retuned_value old slots)) rows) ≤ applications_held rows = less rows in
          let one : used (kept_applications old slots row.value.applications) ≤ used row.value.applications = used-kept old slots row.value.applications in
          let here : applications_held (with_value (retuned_value old slots) row ∷ map (with_value (retuned_value old slots)) rows) ≡ used (kept_applications old slots row.value.applications) + applications_held (map (with_value (retuned_value old slots)) rows) = held-cons (with_value (retuned_value old slots) row) (map (with_value (retuned_value old slots)) rows) in
          let whole : applications_held (row ∷ rows) ≡ used row.value.applications + applications_held rows = held-cons row rows in
          omega arith

  pub within-emptied : (u : Upper K N A) → IsWithin (emptied u)
  within-emptied u = record { rows = omega arith; applications = omega arith }

  pub within-begun : IsWithin (let new : Upper K N A = begun in new)
  within-begun = record { rows = omega arith; applications = omega arith }
