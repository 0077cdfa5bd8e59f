-- The rows before the first act: each interface has one.
use Rattle.std.proofs.Common.{◌≡◌, ℕ, List, [], ◌∷◌, refl, sym, ap, ◌∙◌, subst, Bool, true, false, cond, Some, None, ◌&&◌, ◌+◌, ◌≤◌, nat_le, nat_lt, nat_eq, length, arith}
use Rattle.std.specs.Option.{option_and_then}
use Rattle.std.proofs.lemmas.Bool.Decides.{nat_tests}
use Rattle.rm_model.specs.Counting.{Counting}
use Rattle.rm_model.specs.Alike.{HasSameColumns}
use Rattle.rm_model.specs.ControlRows.{is_absent}
use Rattle.rm_model.specs.declared.row.State.TheVariants.{Absent, Valid}
use Rattle.rm_status.specs.declared.row.Row.{Row}
use Rattle.rm_status.specs.Rows.{row_in, state_seen, columns_seen}
use Rattle.rm_status.specs.RowsAfter.{is_numbered, AreRowsAfter}
use Rattle.rm_ether.specs.declared.row.StatisticsRow.{StatisticsRow}
use Rattle.rm_ether.specs.EtherStats.{ether_stats, is_of_monitor, monitor_set, ether_beginning, counter_sum}
use Rattle.rm_ether.specs.Standing.{counter_of}
use Rattle.rm_ether.specs.StatisticsRows.{set_to, monitor_row}
use Rattle.rm_ether.specs.Group.{AreCounted, Stands}
use Rattle.rm_ether.specs.declared.ether.Ether.{Ether}
use Rattle.rm_ether.proofs.Steps.{no_sum}

-- the row of an interface
abbrev pub row_at : ℕ → Row StatisticsRow
row_at i = record { index = i; state = Valid; columns = monitor_row i }

-- whether there is such an interface, of so many
abbrev pub is_one : ℕ → ℕ → Bool
is_one n i = nat_le 1 i && nat_le i n

-- the rows of the interfaces below a number are there
pub record IsBegunTo (number : ℕ) (rows : List (Row StatisticsRow)) : Type 0 where
  pub first : 1 ≤ number
  pub rows_are : (i : ℕ) → row_in rows i ≡ cond (nat_le 1 i && nat_lt i number) (Some (row_at i)) None
  pub few : length rows + 1 ≡ number

pub begun_more : (number : ℕ) (old new : List (Row StatisticsRow)) → IsBegunTo number old → ((i : ℕ) → row_in new i ≡ cond (nat_eq number i) (Some (row_at number)) (row_in old i)) → length new ≡ length old + 1
    → IsBegunTo (number + 1) new
begun_more number old new was rows longer = record {
  first = omega (arith, was.first);
  rows_are = λ i. by_number i (nat_eq number i) refl (rows i);
  few = omega (arith, was.few, longer);
}
  where
    by_number : (i : ℕ) (here : Bool) → nat_eq number i ≡ here → row_in new i ≡ cond here (Some (row_at number)) (row_in old i)
        → row_in new i ≡ cond (nat_le 1 i && nat_lt i (number + 1)) (Some (row_at i)) None
    by_number i true here is =
        let same : number ≡ i = grind (arith, nat_tests, here) in
        let there : (nat_le 1 i && nat_lt i (number + 1)) ≡ true = grind (arith, nat_tests, same, was.first) in
        let moved : Some (row_at number) ≡ Some (row_at i) = ap (λ (n : ℕ). Some (row_at n)) same in
        let found : Some (row_at i) ≡ cond (nat_le 1 i && nat_lt i (number + 1)) (Some (row_at i)) None = rw there refl in
        is ∙ (moved ∙ found)
    by_number i false here is =
        let alike : (nat_le 1 i && nat_lt i number) ≡ (nat_le 1 i && nat_lt i (number + 1)) = grind (arith, nat_tests, here) in
        is ∙ (was.rows_are i ∙ ap (λ (t : Bool). cond t (Some (row_at i)) None) alike)

-- all of them, so many
pub begun_all : (n number : ℕ) (rows : List (Row StatisticsRow)) → number ≡ n + 1 → IsBegunTo number rows
    → (i : ℕ) → row_in rows i ≡ cond (is_one n i) (Some (row_at i)) None
begun_all n number rows all begun i =
    let alike : (nat_le 1 i && nat_lt i number) ≡ (nat_le 1 i && nat_le i n) = grind (arith, nat_tests, all) in
    begun.rows_are i ∙ ap (λ (t : Bool). cond t (Some (row_at i)) None) alike

module _ (settings : Counting) (n : ℕ) (so_many : settings.interfaces ≡ n) (rows : List (Row StatisticsRow))
    (is : (i : ℕ) → row_in rows i ≡ cond (is_one n i) (Some (row_at i)) None) where
  only_those : (i : ℕ) → is_of_monitor settings (i ∷ []) ≡ is_one n i
  only_those i = rw so_many refl

  states : (i : ℕ) → state_seen (row_in rows i) ≡ (ether_beginning settings).state (i ∷ [])
  states i =
      ap state_seen (is i)
      ∙ (elim (is_one n i) as (λ t. state_seen (cond t (Some (row_at i)) None) ≡ cond t Valid Absent) [ true ↦ refl | false ↦ refl ]
      ∙ ap (λ t. cond t Valid Absent) (sym (only_those i)))

  columns_of : (i : ℕ) → is_one n i ≡ true → HasSameColumns ether_stats (set_to (monitor_row i)) ((ether_beginning settings).set (i ∷ []))
  columns_of i there =
      subst (λ mine. HasSameColumns ether_stats (set_to (monitor_row i)) (λ column. cond mine (monitor_set (i ∷ []) column) None)) (sym (only_those i ∙ there))
      (record { shown = refl; needed = λ _. refl }, (record { shown = refl; needed = λ _. refl }, tt))

  columns : (i : ℕ) → is_absent (state_seen (row_in rows i)) ≡ false
      → HasSameColumns ether_stats (λ column. option_and_then (λ row. set_to row column) (columns_seen (row_in rows i))) ((ether_beginning settings).set (i ∷ []))
  columns i there =
      elim (is_one n i) as (λ t. is_one n i ≡ t → row_in rows i ≡ cond t (Some (row_at i)) None
      → HasSameColumns ether_stats (λ column. option_and_then (λ row. set_to row column) (columns_seen (row_in rows i))) ((ether_beginning settings).set (i ∷ []))) [
        | true ↦ λ same found. rw found (columns_of i same)
        | false ↦ λ _ none.
            let absent : is_absent (state_seen (row_in rows i)) ≡ true = ap (λ o. is_absent (state_seen o)) none in
            absurd (cc)
      ] refl (is i)

  others : (index : List ℕ) → is_numbered ether_stats index ≡ false → (ether_beginning settings).state index ≡ Absent
  others [] other = refl
  others (number ∷ []) other = absurd (cc)
  others (number ∷ next ∷ more) other = refl

  counters : AreCounted rows settings []
  counters i row here each =
      elim (is_one n i) as (λ t. row_in rows i ≡ cond t (Some (row_at i)) None → counter_of row.columns.statistics each ≡ counter_sum settings [] (i ∷ []) each) [
        | true ↦ λ found. let same : row_at i ≡ row = cc in subst (λ (row : Row StatisticsRow). counter_of row.columns.statistics each ≡ 0) same (no_sum each)
        | false ↦ λ none. absurd (cc)
      ] (is i)

  pub rows_at_first : AreRowsAfter ether_stats (ether_beginning settings) set_to rows []
  rows_at_first = record { alike = record { states = states; columns = columns }; others = others }

  pub stands_at_first : (ether : Ether) → ether.rows ≡ rows → Stands ether settings []
  stands_at_first ether same = record { rows = rw same rows_at_first; counters = rw same counters }
