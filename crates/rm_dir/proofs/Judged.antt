-- How a Set is judged where local indexes run out.
use Rattle.std.proofs.Common.{◌≡◌, ℕ, zero, suc, ◌+◌, ◌<◌, ◌≤◌, ◌^◌, List, length, Bool, true, false, cond, not, ◌&&◌, nat_eq, nat_lt, Option, Some, None, refl, sym, ap, ◌∙◌, arith}
use Rattle.std.specs.Option.{option_or}
use Rattle.std.proofs.lemmas.Bool.Decides.{nat_tests}
use Rattle.rm_val.specs.declared.error.ErrorStatus.{ErrorStatus}
use Rattle.rm_val.specs.declared.error.ErrorStatus.TheVariants.{InconsistentName}
use Rattle.rm_model.specs.Alike.{AreAlike}
use Rattle.rm_model.specs.Journal.{Journal}
use Rattle.rm_model.specs.ControlRows.{Beginning, set_ask}
use Rattle.rm_model.specs.Judgement.{Bindings, IsFirstFault, first_pass, second_pass, name_at, place_of, is_made, is_again, count_below, rows_after}
use Rattle.rm_model.specs.declared.place.Place.{Place}
use Rattle.rm_model.specs.declared.place.Place.TheVariants.{Outside, Entry, Column, Cell}
use Rattle.rm_model.specs.declared.verdict.Verdict.{Verdict}
use Rattle.rm_model.specs.declared.verdict.Verdict.TheVariants.{Fine, Wrong}
use Rattle.rm_model.proofs.Alike.{second_pass_alike}
use Rattle.rm_group.specs.Alone.{AreFineAlone, IsWithin}
use Rattle.rm_status.specs.declared.row.Row.{Row}
use Rattle.rm_status.specs.Rows.{rows_before, state_in}
use Rattle.rm_status.specs.RowsAfter.{AreRowsAfter}
use Rattle.rm_status.specs.Commit.{made_by, count_made}
use Rattle.rm_status.proofs.Crowds.{all_made_count}
use Rattle.rm_status.proofs.RowsBefore.{state_before}
use Rattle.rm_dir.specs.declared.row.DirectoryRow.{DirectoryRow}
use Rattle.rm_dir.specs.DirectoryIndex.{directory_index}
use Rattle.rm_dir.specs.DirectoryRows.{set_to}
use Rattle.rm_dir.specs.Judging.{directory_alone, makes_row, are_used_up, local_fault_by, local_fault, together_by, directory_together}
use Rattle.rm_dir.specs.LocalIndexes.{greatest_given}
use Rattle.rm_dir.specs.ProtocolDir.{protocol_dir, directory_beginning}
use Rattle.rm_dir.proofs.Rooms.{few_asked}

-- Rows that are alike are judged alike.
module _ (rows others : Beginning) (alike : AreAlike protocol_dir rows others) (bs : Bindings) where
  made_alike : (row : ℕ) → makes_row rows bs row ≡ makes_row others bs row
  made_alike row = ap (λ s. is_made s (set_ask protocol_dir bs (directory_index row))) (alike.states row)

  used_alike : (given : ℕ) → are_used_up given rows bs ≡ are_used_up given others bs
  used_alike given = ap (λ (f : ℕ → Bool). nat_lt 2147483647 (given + count_below f (2 ^ 32))) (λ d row. (made_alike row) d)

  local_alike : (given k : ℕ) → local_fault given rows bs k ≡ local_fault given others bs k
  local_alike given k = ap (λ b. local_fault_by b rows bs (place_of protocol_dir (name_at bs k))) (used_alike given) ∙ of_place (place_of protocol_dir (name_at bs k))
    where
      of_place : (p : Place) → local_fault_by (are_used_up given others bs) rows bs p ≡ local_fault_by (are_used_up given others bs) others bs p
      of_place Outside = refl
      of_place Entry = refl
      of_place (Column c) = refl
      of_place (Cell c row) = ap (λ b. cond (are_used_up given others bs && b) (Some InconsistentName) None) (made_alike row)

  together_alike : (given k : ℕ) → together_by given rows bs k ≡ together_by given others bs k
  together_alike given k =
      ap (λ o. option_or o (second_pass protocol_dir rows bs k)) (local_alike given k) ∙ ap (option_or (local_fault given others bs k)) (second_pass_alike protocol_dir rows others alike bs k)

-- what is judged by the rows that are held is so by those after the journal
pub judged_after : (rows : List (Row DirectoryRow)) (given : ℕ) (journal : Journal) → AreRowsAfter protocol_dir directory_beginning set_to rows journal → given ≡ greatest_given journal
    → (bs : Bindings) (k : ℕ) → together_by given (rows_before protocol_dir set_to rows) bs k ≡ directory_together journal bs k
judged_after rows given journal is same bs k =
    together_alike (rows_before protocol_dir set_to rows) (rows_after protocol_dir directory_beginning journal) is.alike bs given k
    ∙ ap (λ n. together_by n (rows_after protocol_dir directory_beginning journal) bs k) same

first_none : (a b : Option ErrorStatus) → option_or a b ≡ None → a ≡ None
first_none None b none = refl
first_none (Some fault) b none = absurd (cc)

-- nothing is wrong with a binding alone of either table, and so of the rows
pub fine_alone : (bs : Bindings) → AreFineAlone directory_alone bs → (k : ℕ) → k < length bs → first_pass protocol_dir bs k ≡ None
fine_alone bs fine k within = first_none (first_pass protocol_dir bs k) _ (fine k within)

-- a verdict names one of the bindings that it is on
pub fault_within : (count : ℕ) (fault : ℕ → Option ErrorStatus) (verdict : Verdict) → IsFirstFault count fault verdict → IsWithin count verdict
fault_within count fault Fine is = tt
fault_within count fault (Wrong status index) (place, within, numbered, here, before) = omega (arith, within, numbered)

-- The rows that are held, and a Set with each binding of which nothing is wrong alone.
module _ (rows : List (Row DirectoryRow)) (bs : Bindings) where
  abbrev before : Beginning
  before = rows_before protocol_dir set_to rows

  -- how many rows the Set makes
  abbrev pub count_asked : ℕ
  count_asked = count_below (λ row. is_made (state_in rows row) (set_ask protocol_dir bs (directory_index row))) (2 ^ 32)

  made_is : (row : ℕ) → makes_row before bs row ≡ is_made (state_in rows row) (set_ask protocol_dir bs (directory_index row))
  made_is row = ap (λ s. is_made s (set_ask protocol_dir bs (directory_index row))) (state_before protocol_dir set_to rows row)

  used_is : (given : ℕ) → are_used_up given before bs ≡ nat_lt 2147483647 (given + count_asked)
  used_is given = ap (λ (f : ℕ → Bool). nat_lt 2147483647 (given + count_below f (2 ^ 32))) (λ d row. (made_is row) d)

  -- what is wrong with a binding of a row, by whether the Set makes it
  pub fault_is : (used_up : Bool) (column row : ℕ) → local_fault_by used_up before bs (Cell column row) ≡ cond (used_up && is_made (state_in rows row) (set_ask protocol_dir bs (directory_index row))) (Some InconsistentName) None
  fault_is used_up column row = ap (λ b. cond (used_up && b) (Some InconsistentName) None) (made_is row)

  -- nothing is wrong with a binding where nothing was found
  pub none_found : (given : ℕ) (used_up : Bool) → used_up ≡ are_used_up given before bs → (k : ℕ) (fault : Option ErrorStatus)
      → fault ≡ local_fault_by used_up before bs (place_of protocol_dir (name_at bs k)) → fault ≡ None → local_fault given before bs k ≡ None
  none_found given used_up is k fault found none = ap (λ b. local_fault_by b before bs (place_of protocol_dir (name_at bs k))) (sym is) ∙ sym found ∙ none

  module _ (fine : (k : ℕ) → k < length bs → first_pass protocol_dir bs k ≡ None) (given : ℕ) where
    -- they are used up where there are too few for the rows that were counted
    pub used_counted : (made : ℕ) → made ≡ count_made protocol_dir (state_in rows) bs (length bs) → nat_lt 2147483647 (given + made) ≡ are_used_up given before bs
    used_counted made is = ap (λ n. nat_lt 2147483647 (given + n)) (is ∙ sym (all_made_count protocol_dir (state_in rows) bs fine)) ∙ sym (used_is given)

    -- and aren't where there is one for each binding
    pub enough_left : (count : ℕ) → count ≡ length bs → given + count ≤ 2147483647 → nat_lt 2147483647 (given + count) ≡ are_used_up given before bs
    enough_left count is left =
        let few = few_asked protocol_dir (state_in rows) bs fine in
        not_above (given + count) left ∙ sym (used_is given ∙ not_above (given + count_asked) (omega (arith, few, left, is)))
      where
        not_above : (n : ℕ) → n ≤ 2147483647 → nat_lt 2147483647 n ≡ false
        not_above n under = grind (arith, nat_tests)

    -- there is one for each row that the Set makes where nothing is wrong with its bindings
    pub has_indexes : given ≤ 2147483647 → ((k : ℕ) → k < length bs → local_fault given before bs k ≡ None) → given + count_asked ≤ 2147483647
    has_indexes most none = by_test (are_used_up given before bs) refl
      where
        within : (n : ℕ) → nat_lt 2147483647 n ≡ false → n ≤ 2147483647
        within n e = grind (arith, nat_tests)

        one_by : (again : Bool) (p : Place) → local_fault_by true before bs p ≡ None → made_by protocol_dir (state_in rows) bs again p ≡ 0
        one_by again Outside e = refl
        one_by again Entry e = refl
        one_by again (Column c) e = refl
        one_by again (Cell c row) e = ap (λ b. cond (nat_eq c 10 && (not again && b)) 1 0) (unmade (is_made (state_in rows row) (set_ask protocol_dir bs (directory_index row))) (sym (fault_is true c row) ∙ e)) ∙ never (nat_eq c 10) (not again)
          where
            unmade : (b : Bool) → cond (true && b) (Some InconsistentName) None ≡ None → b ≡ false
            unmade true f = absurd (cc)
            unmade false f = refl

            never : (a b : Bool) → ◌≡◌ {A = ℕ} (cond (a && (b && false)) 1 0) 0
            never true true = refl
            never true false = refl
            never false b = refl

        none_made : are_used_up given before bs ≡ true → (n : ℕ) → n ≤ length bs → count_made protocol_dir (state_in rows) bs n ≡ 0
        none_made used zero under = refl
        none_made used (suc n) under =
            let rest = none_made used n (omega (arith, under)) in
            let here = one_by (is_again bs n) (place_of protocol_dir (name_at bs n)) (ap (λ b. local_fault_by b before bs (place_of protocol_dir (name_at bs n))) (sym used) ∙ none n (omega (arith, under))) in
            omega (arith, rest, here)

        by_test : (t : Bool) → are_used_up given before bs ≡ t → given + count_asked ≤ 2147483647
        by_test false e = within (given + count_asked) (sym (used_is given) ∙ e)
        by_test true e =
            let count = all_made_count protocol_dir (state_in rows) bs fine in
            let none' = none_made e (length bs) (omega arith) in
            omega (arith, count, none', most)
