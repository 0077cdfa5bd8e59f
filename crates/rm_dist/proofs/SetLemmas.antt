-- What a Set makes of what the rows have counted.
use Rattle.std.proofs.Common.{◌≡◌, ℕ, suc, ◌+◌, List, [], ◌∷◌, ◌++◌, Bool, true, false, cond, not, ◌&&◌, ◌||◌, nat_eq, Option, Some, None, is_some, option_map, refl, sym, ap, subst, ◌∙◌, arith}
use borrow.Author.Tests.{eqb-true}
use Rattle.rm_model.specs.Counting.{Counting}
use Rattle.rm_model.specs.Journal.{Act, Journal}
use Rattle.rm_model.specs.ControlRows.{no_rows, is_absent}
use Rattle.rm_path.specs.declared.identifier.ProtocolIdentifier.{ProtocolIdentifier}
use Rattle.rm_path.specs.declared.protocol.Protocol.{Protocol}
use Rattle.rm_path.specs.Slots.{protocol_in}
use Rattle.rm_status.specs.declared.row.Row.{Row}
use Rattle.rm_status.specs.Rows.{row_in}
use Rattle.rm_status.specs.Change.{changed_row}
use Rattle.rm_status.specs.RowsAfter.{AreRowsAfter}
use Rattle.rm_status.proofs.RowFacts.{valid_there}
use Rattle.rm_status.proofs.RowsAfterLemmas.{rows_changed, was_there}
use Rattle.rm_dir.specs.Active.{active_protocol}
use Rattle.std.specs.Option.{option_map_or}
use Rattle.rm_path.specs.Identifier.{number_of}
use Rattle.rm_dir.specs.DirectoryIndex.{index_with, may_have_row, protocol_of}
use Rattle.rm_dir.specs.LocalIndexes.{count_made_below, greatest_given, local_index, makes}
use Rattle.rm_dir.specs.Paths.{AreActiveAfter, is_active_after}
use Rattle.rm_dir.specs.ProtocolDir.{directory_state}
use Rattle.rm_dir.proofs.LocalLaws.{active_local, local_given, locals_apart}
use Rattle.rm_dist.specs.declared.count.Count.{Count}
use Rattle.rm_dist.specs.declared.row.DistributionRow.{DistributionRow}
use Rattle.rm_dist.specs.declared.row.Tally.{Tally}
use Rattle.rm_dist.specs.Control.{dist_control}
use Rattle.rm_dist.specs.ControlColumns.{set_to}
use Rattle.rm_dist.specs.Counts.{AllAbove, Rising, count_in}
use Rattle.rm_dist.specs.Group.{AreTallied}
use Rattle.rm_dist.specs.Marks.{Mark, marks, new_marks, of_active, with_local}
use Rattle.rm_dist.specs.Resting.{has_local, is_local, sifted, sifted_tally, sifting}
use Rattle.rm_dist.specs.Standing.{AreOfMarks, IsTallied, IsTalliedBy, count_by, unsifted}
use Rattle.rm_dist.proofs.MarkFacts.{AreMarksOf, IsMarkOf, active_is, all_are, both_of, has_slot, new_are, row_stays}

-- what is counted of a local index, once the counts were sifted
sifted_has : (slots : List (Option Protocol)) (counts : List Count) (local : ℕ) → count_in (sifted slots counts) local ≡ cond (has_local slots local) (count_in counts local) None
sifted_has slots [] local = none_either (has_local slots local)
  where
    none_either : (b : Bool) → ◌≡◌ {A = Option Count} None (cond b None None)
    none_either true = refl
    none_either false = refl
sifted_has slots (count ∷ counts) local = by_tests (has_local slots count.local) (nat_eq count.local local) refl refl (sifted_has slots counts local)
  where
    by_tests : (t s : Bool) → has_local slots count.local ≡ t → nat_eq count.local local ≡ s
        → count_in (sifted slots counts) local ≡ cond (has_local slots local) (count_in counts local) None
        → count_in (cond t (count ∷ sifted slots counts) (sifted slots counts)) local ≡ cond (has_local slots local) (cond s (Some count) (count_in counts local)) None
    by_tests true true e f rest =
        let here : has_local slots local ≡ true = ap (has_local slots) (sym (eqb-true count.local local f)) ∙ e in
        rw (f, here) refl
    by_tests true false e f rest = rw f rest
    by_tests false true e f rest =
        let here : has_local slots local ≡ false = ap (has_local slots) (sym (eqb-true count.local local f)) ∙ e in
        rest ∙ rw here refl
    by_tests false false e f rest = rest

above_sifted : (slots : List (Option Protocol)) (low : ℕ) (counts : List Count) → AllAbove low counts → AllAbove low (sifted slots counts)
above_sifted slots low [] all = tt
above_sifted slots low (count ∷ counts) all = by_test (has_local slots count.local) (above_sifted slots low counts all.1)
  where
    by_test : (t : Bool) → AllAbove low (sifted slots counts) → AllAbove low (cond t (count ∷ sifted slots counts) (sifted slots counts))
    by_test true rest = (all.0, rest)
    by_test false rest = rest

pub sifted_rise : (slots : List (Option Protocol)) (counts : List Count) → Rising counts → Rising (sifted slots counts)
sifted_rise slots [] rise = tt
sifted_rise slots (count ∷ counts) rise = by_test (has_local slots count.local) (sifted_rise slots counts rise.1)
  where
    by_test : (t : Bool) → Rising (sifted slots counts) → Rising (cond t (count ∷ sifted slots counts) (sifted slots counts))
    by_test true rest = (above_sifted slots count.local counts rise.0, rest)
    by_test false rest = rest

-- a protocol was found in a slot
found_in : (slots : List (Option Protocol)) (local : ℕ) → has_local slots local ≡ true → (slot : ℕ) × (protocol : Protocol) × (protocol_in slots slot ≡ Some protocol) × (protocol.local ≡ local)
found_in [] local is = absurd (cc)
found_in (first ∷ slots) local is = by_first first refl is (found_in slots local)
  where
    by_first : (held : Option Protocol) → first ≡ held → (is_local local held || has_local slots local) ≡ true
        → (has_local slots local ≡ true → (slot : ℕ) × (protocol : Protocol) × (protocol_in slots slot ≡ Some protocol) × (protocol.local ≡ local))
        → (slot : ℕ) × (protocol : Protocol) × (protocol_in (first ∷ slots) slot ≡ Some protocol) × (protocol.local ≡ local)
    by_first None e is rest = let it = rest is in (suc it.0, it.1, it.2, it.3)
    by_first (Some protocol) e is rest = by_test (nat_eq protocol.local local) refl is
      where
        by_test : (t : Bool) → nat_eq protocol.local local ≡ t → (t || has_local slots local) ≡ true → (slot : ℕ) × (protocol : Protocol) × (protocol_in (first ∷ slots) slot ≡ Some protocol) × (protocol.local ≡ local)
        by_test true named is = (0, protocol, e, eqb-true protocol.local local named)
        by_test false other is = let it = rest is in (suc it.0, it.1, it.2, it.3)

both_true : (a b : Bool) → (a && b) ≡ true → (a ≡ true) × (b ≡ true)
both_true true b is = (refl, is)
both_true false b is = absurd (cc)

-- a protocol that is active can have a row, and has one
active_row : (journal : Journal) (protocol : ProtocolIdentifier) → is_active_after journal protocol ≡ true → (may_have_row protocol ≡ true) × (not (is_absent (directory_state journal (index_with protocol))) ≡ true)
active_row journal protocol active =
    let parts = both_true (may_have_row protocol) _ (sym (active_is journal protocol) ∙ active) in
    (parts.0, ap not (valid_there (directory_state journal (index_with protocol)) parts.1))

-- a protocol that is active after an act, with the local index that one had that was active before it, is that one
same_protocol : (act : Act) (earlier : Journal) (one other : ProtocolIdentifier) → is_active_after earlier one ≡ true → is_active_after (act ∷ earlier) other ≡ true
    → local_index (act ∷ earlier) (index_with other) ≡ local_index earlier (index_with one) → other ≡ one
same_protocol act earlier one other before after same = by_made (makes act earlier (index_with other)) refl
  where
    there_before : (a b : Bool) → (a && not b) ≡ false → not b ≡ true → not a ≡ true
    there_before true true none some = absurd (cc)
    there_before true false none some = absurd (cc)
    there_before false b none some = refl

    by_made : (t : Bool) → makes act earlier (index_with other) ≡ t → other ≡ one
    by_made true e = absurd (
        let given = local_given earlier one (active_row earlier one before).0 (active_row earlier one before).1 in
        let new : local_index (act ∷ earlier) (index_with other) ≡ greatest_given earlier + 1 + count_made_below act earlier (option_map_or number_of (protocol_of (index_with other)) 0) = rw e refl in
        omega (arith, given, new, same))
    by_made false e =
        let kept : local_index (act ∷ earlier) (index_with other) ≡ local_index earlier (index_with other) = rw e refl in
        let there = there_before (is_absent (directory_state earlier (index_with other))) (is_absent (directory_state (act ∷ earlier) (index_with other))) e (active_row (act ∷ earlier) other after).1 in
        locals_apart earlier other one (active_row (act ∷ earlier) other after).0 (active_row earlier one before).0 there (active_row earlier one before).1 (sym kept ∙ same)

-- after an act, the marks of before
module _ (act : Act) (earlier : Journal) (slots : List (Option Protocol)) (are : AreActiveAfter (act ∷ earlier) slots) where
  -- the local index of a mark is in a slot where its protocol is active
  lasts : (mark : Mark) → IsMarkOf earlier mark → has_local slots mark.local ≡ is_active_after (act ∷ earlier) mark.protocol
  lasts mark is = by_test (is_active_after (act ∷ earlier) mark.protocol) refl
    where
      in_slot : (has_local slots mark.local ≡ true) → is_active_after (act ∷ earlier) mark.protocol ≡ true
      in_slot found =
          let it = found_in slots mark.local found in
          let active : active_protocol (act ∷ earlier) it.1.identifier ≡ Some it.1 = are.known it.0 it.1 it.2 in
          let so : is_active_after (act ∷ earlier) it.1.identifier ≡ true = ap is_some active in
          let same = same_protocol act earlier mark.protocol it.1.identifier is.active so (sym (active_local (act ∷ earlier) it.1.identifier it.1 active) ∙ it.3 ∙ is.local_is) in
          subst (λ one. is_active_after (act ∷ earlier) one ≡ true) same so

      by_test : (t : Bool) → is_active_after (act ∷ earlier) mark.protocol ≡ t → has_local slots mark.local ≡ t
      by_test true e = has_slot (act ∷ earlier) slots are mark (record { active = e; local_is = is.local_is ∙ sym (row_stays act earlier mark.protocol is.active) })
      by_test false e = by_found (has_local slots mark.local) refl
        where
          by_found : (b : Bool) → has_local slots mark.local ≡ b → has_local slots mark.local ≡ false
          by_found false f = f
          by_found true f = absurd (let active = in_slot f in cc)

  local_sifted : (some : List Mark) → AreMarksOf earlier some → (local : ℕ) → with_local local (of_active (act ∷ earlier) some) ≡ cond (has_local slots local) (with_local local some) []
  local_sifted [] all local = none_either (has_local slots local)
    where
      none_either : (b : Bool) → ◌≡◌ {A = List Mark} [] (cond b [] [])
      none_either true = refl
      none_either false = refl
  local_sifted (mark ∷ some) all local = by_tests (is_active_after (act ∷ earlier) mark.protocol) (nat_eq mark.local local) refl refl (lasts mark all.0) (local_sifted some all.1 local)
    where
      by_tests : (t s : Bool) → is_active_after (act ∷ earlier) mark.protocol ≡ t → nat_eq mark.local local ≡ s → has_local slots mark.local ≡ is_active_after (act ∷ earlier) mark.protocol
          → with_local local (of_active (act ∷ earlier) some) ≡ cond (has_local slots local) (with_local local some) []
          → with_local local (cond t (mark ∷ of_active (act ∷ earlier) some) (of_active (act ∷ earlier) some)) ≡ cond (has_local slots local) (cond s (mark ∷ with_local local some) (with_local local some)) []
      by_tests true true e f is rest =
          let here : has_local slots local ≡ true = ap (has_local slots) (sym (eqb-true mark.local local f)) ∙ is ∙ e in
          let others : with_local local (of_active (act ∷ earlier) some) ≡ with_local local some = rest ∙ rw here refl in
          rw (f, here) (ap (λ more. mark ∷ more) others)
      by_tests true false e f is rest = rw f rest
      by_tests false true e f is rest =
          let here : has_local slots local ≡ false = ap (has_local slots) (sym (eqb-true mark.local local f)) ∙ is ∙ e in
          rest ∙ rw here refl
      by_tests false false e f is rest = rest

  pub counts_sifted : (some : List Mark) → AreMarksOf earlier some → (counts : List Count) → AreOfMarks some counts → AreOfMarks (of_active (act ∷ earlier) some) (sifted slots counts)
  counts_sifted some all counts of_marks local =
      sifted_has slots counts local ∙ by_test (has_local slots local) ∙ sym (ap (count_by local) (local_sifted some all local))
    where
      by_test : (t : Bool) → cond t (count_in counts local) None ≡ count_by local (cond t (with_local local some) [])
      by_test true = of_marks local
      by_test false = refl

  -- so what a row has counted is what it is to have counted then
  pub tally_sifted : (settings : Counting) (row : ℕ) (tally : Option Tally) → IsTalliedBy (unsifted settings row (act ∷ earlier)) (act ∷ earlier) row tally
      → IsTallied settings (act ∷ earlier) row (sifted_tally slots tally)
  tally_sifted settings row None is = is
  tally_sifted settings row (Some tally) is = record {
    active = is.active;
    since = is.since;
    rise = sifted_rise slots tally.counts is.rise;
    counts =
        let then : marks settings row (act ∷ earlier) ≡ of_active (act ∷ earlier) (new_marks settings row act earlier ++ marks settings row earlier) = rw is.active refl in
        subst (λ some. AreOfMarks some (sifted slots tally.counts)) (sym then)
        (counts_sifted (new_marks settings row act earlier ++ marks settings row earlier)
        (both_of earlier (new_marks settings row act earlier) (marks settings row earlier) (new_are settings row act earlier) (all_are settings row earlier)) tally.counts is.counts);
  }

module _ (settings : Counting) (slots : List (Option Protocol)) (rows new : List (Row DistributionRow))
    (changed : (i : ℕ) → row_in new i ≡ option_map (changed_row (λ index state row. sifting slots row)) (row_in rows i)) where
  pub sifted_rows : (journal : Journal) → AreRowsAfter dist_control no_rows set_to rows journal → AreRowsAfter dist_control no_rows set_to new journal
  sifted_rows = rows_changed dist_control no_rows set_to (λ index state row. sifting slots row) (λ index state row n. refl) rows new changed

  one_sifted : (journal : Journal) → AreActiveAfter journal slots → (i : ℕ) (tally : Option Tally) → IsTalliedBy (unsifted settings i journal) journal i tally → IsTallied settings journal i (sifted_tally slots tally)
  one_sifted [] are i None is = is
  one_sifted [] are i (Some tally) is = absurd (let none = is.active in cc)
  one_sifted (act ∷ earlier) are i tally is = tally_sifted act earlier slots are settings i tally is

  pub tallies_sifted : (journal : Journal) → AreActiveAfter journal slots → ((i : ℕ) (row : Row DistributionRow) → row_in rows i ≡ Some row → IsTalliedBy (unsifted settings i journal) journal i row.columns.tally)
      → AreTallied new settings journal
  tallies_sifted journal are begun i row here =
      let old = was_there (changed_row (λ index state row. sifting slots row)) (row_in rows i) row (sym (changed i) ∙ here) in
      subst (λ (r : Row DistributionRow). IsTallied settings journal i r.columns.tally) old.2 (one_sifted journal are i old.0.columns.tally (begun i old.0 old.1))
