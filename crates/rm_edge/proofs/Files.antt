-- Which file a name means, after a file was added and after one had a fault.
use Rattle.std.proofs.Common.{◌≡◌, ◌≢◌, ℕ, zero, suc, ◌<◌, ◌≤◌, Bool, true, false, cond, List, [], ◌∷◌, ◌++◌, length, get_or, Option, Some, None, refl, sym, ap, subst, ◌∙◌, arith, ◌⊎◌, inl, inr, position}
use Rattle.std.proofs.Math.ListN.{set}
use Rattle.std.specs.List.{position_or_len, slice_get}
use Rattle.std.specs.Option.{option_or}
use Rattle.std.proofs.lemmas.Bool.{cases_lt, lt-ltb, false_from_ne_true}
use Rattle.std.proofs.lemmas.List.Folds.{find_at, find-set, find-append}
use Rattle.std.proofs.lemmas.List.Quantifiers.{position-Some}
use Rattle.std.proofs.lemmas.List.Sums.{position_or_len_is}
use Rattle.std.proofs.lemmas.Option.{slice_get-get_or, slice_get_past}
use Rattle.std.proofs.lemmas.Slice.Eq.{bytes_eq-Decides}
use Rattle.rm_edge.specs.Outside.{File, Absent, one_more}
use Rattle.rm_edge.specs.MemShelf.{NamedFile, is_named, file_in, held_of, faults_of}

-- a name without a place has no file
pub file_in-None : (files : List NamedFile) (name : List ℕ) → position (is_named name) files ≡ None → file_in files name ≡ None
file_in-None files name e =
    elim (cases_lt (position_or_len (is_named name) files) (length files)) [
      | inl lt ↦ absurd (let s : position (is_named name) files ≡ Some (position_or_len (is_named name) files) = rw (lt-ltb _ _ lt) refl in cc)
      | inr le ↦ find_at (is_named name) files ∙ slice_get_past files (position_or_len (is_named name) files) le
    ]

-- the place of a name has the file that it means
pub record StandsAt (files : List NamedFile) (name : List ℕ) (place : ℕ) (f : NamedFile) : Type 0 where
  pub first : place ≡ position_or_len (is_named name) files
  pub within : place < length files
  pub here : slice_get files place ≡ Some f
  pub file : file_in files name ≡ Some f
  pub named : is_named name f ≡ true

pub stands_at : (files : List NamedFile) (name : List ℕ) (place : ℕ) (f : NamedFile) → position (is_named name) files ≡ Some place → f ≡ get_or files place f
    → StandsAt files name place f
stands_at files name place f e is =
    let q = position-Some (is_named name) files place f e in
    let first : position_or_len (is_named name) files ≡ place = position_or_len_is (is_named name) files place f (omega (arith, q.0)) q.2 (λ _. q.1) in
    let here : slice_get files place ≡ Some f = slice_get-get_or files place f q.0 ∙ ap (λ (x : NamedFile). Some x) (sym is) in
    record {
      first = sym first;
      within = q.0;
      here = here;
      file = find_at (is_named name) files ∙ ap (slice_get files) first ∙ here;
      named = ap (is_named name) is ∙ q.1;
    }

written_over : (f g : NamedFile) (name : List ℕ) (xs : List NamedFile) (b : Bool) → is_named name f ≡ b → g.name ≡ f.name
    → (file_in (g ∷ xs) name ≡ file_in (f ∷ xs) name) ⊎ ((is_named name f ≡ true) × (file_in (f ∷ xs) name ≡ Some f) × (file_in (g ∷ xs) name ≡ Some g))
written_over f g name xs true e same =
    let h : is_named name g ≡ true = rw same e in
    inr (e, rw e refl, rw h refl)
written_over f g name xs false e same =
    let h : is_named name g ≡ false = rw same e in
    inl (rw (h, e) refl)

-- a name means another file after it was written over one of its name, and else what it meant before
file_in-set : (files : List NamedFile) (place : ℕ) (f g : NamedFile) (name : List ℕ) → slice_get files place ≡ Some f → g.name ≡ f.name
    → (file_in (set files place g) name ≡ file_in files name)
    ⊎ ((is_named name f ≡ true) × (file_in files name ≡ Some f) × (file_in (set files place g) name ≡ Some g))
file_in-set [] place f g name at same = inl refl
file_in-set (x ∷ xs) zero f g name at same =
    let e : x ≡ f = cc in
    subst (λ (y : NamedFile). (file_in (g ∷ xs) name ≡ file_in (y ∷ xs) name) ⊎ ((is_named name f ≡ true) × (file_in (y ∷ xs) name ≡ Some f) × (file_in (g ∷ xs) name ≡ Some g)))
    (sym e) (written_over f g name xs (is_named name f) refl same)
file_in-set (x ∷ xs) (suc place) f g name at same =
    elim (is_named name x) as (λ b. (cond b (Some x) (file_in (set xs place g) name) ≡ cond b (Some x) (file_in xs name))
    ⊎ ((is_named name f ≡ true) × (cond b (Some x) (file_in xs name) ≡ Some f) × (cond b (Some x) (file_in (set xs place g) name) ≡ Some g))) [
      | true ↦ inl refl
      | false ↦ file_in-set xs place f g name at same
    ]

-- what counting a fault of the file at a place leaves
pub record CountsFault (files after : List NamedFile) (absent : ℕ) (name : List ℕ) : Type 0 where
  pub constant : (each : List ℕ) → held_of (file_in after each) ≡ held_of (file_in files each)
  pub later : (each : List ℕ) → faults_of absent (file_in files each) ≤ faults_of absent (file_in after each)
  pub counted : faults_of absent (file_in after name) ≡ one_more (faults_of absent (file_in files name))
  pub apart : (each : List ℕ) → each ≢ name → faults_of absent (file_in after each) ≡ faults_of absent (file_in files each)

pub counts_fault : (files : List NamedFile) (place absent : ℕ) (f g : NamedFile) (name : List ℕ) → StandsAt files name place f
    → g ≡ record f { faults = one_more f.faults } → f.faults ≤ g.faults → CountsFault files (set files place g) absent name
counts_fault files place absent f g name stands is le =
    let same : g.name ≡ f.name = ap (λ (x : NamedFile). x.name) is in
    let bytes : g.bytes ≡ f.bytes = ap (λ (x : NamedFile). x.bytes) is in
    let over = λ (each : List ℕ). file_in-set files place f g each stands.here same in
    let after : file_in (set files place g) name ≡ Some g = find-set (is_named name) files place g stands.first stands.within (rw same stands.named) in
    let count : g.faults ≡ one_more f.faults = ap (λ (x : NamedFile). x.faults) is in
    record {
      constant = λ each. elim (over each) [ inl e ↦ ap held_of e | inr e ↦ rw (e.1, e.2) (ap File bytes) ];
      later = λ each. elim (over each) [ inl e ↦ rw e (omega arith) | inr e ↦ rw (e.1, e.2) le ];
      counted = rw (stands.file, after) count;
      apart = λ each other. elim (over each) [
        | inl e ↦ ap (faults_of absent) e
        | inr e ↦ absurd (other (sym ((bytes_eq-Decides f.name each).0 e.0) ∙ (bytes_eq-Decides f.name name).0 stands.named))
      ];
    }

no_file : (found : Option NamedFile) → held_of found ≡ Absent → found ≡ None
no_file None e = refl
no_file (Some f) e = absurd cc

none_behind : (found : Option NamedFile) → option_or found None ≡ found
none_behind None = refl
none_behind (Some f) = refl

-- the file added is the one that its name means
pub file_in-added : (files : List NamedFile) (f : NamedFile) → held_of (file_in files f.name) ≡ Absent → file_in (files ++ f ∷ []) f.name ≡ Some f
file_in-added files f absent =
    let none : file_in files f.name ≡ None = no_file _ absent in
    let own : is_named f.name f ≡ true = (bytes_eq-Decides f.name f.name).1 refl in
    find-append (is_named f.name) files (f ∷ []) ∙ rw (none, own) refl

-- every other name means what it meant
pub file_in-other : (files : List NamedFile) (f : NamedFile) (name : List ℕ) → name ≢ f.name → file_in (files ++ f ∷ []) name ≡ file_in files name
file_in-other files f name other =
    let fails : is_named name f ≡ false = false_from_ne_true _ (λ e. other (sym ((bytes_eq-Decides f.name name).0 e))) in
    find-append (is_named name) files (f ∷ []) ∙ rw fails (none_behind (file_in files name))
