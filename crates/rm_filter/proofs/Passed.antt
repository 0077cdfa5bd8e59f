-- What a frame makes of the channels that are kept.
use Rattle.std.proofs.Common.{◌≡◌, ℕ, ◌+◌, ◌%◌, ◌^◌, ◌≤◌, List, [], ◌∷◌, Bool, true, false, cond, ◌&&◌, ◌||◌, nat_eq, Option, Some, None, refl, sym, ap, subst, ◌∙◌, option_map, arith}
use Rattle.std.specs.Prelude.{filter_map}
use Rattle.std.specs.List.{cons_option}
use Rattle.std.proofs.lemmas.Bool.Decides.{nat_tests}
use Rattle.std.proofs.Math.Nat.{mod-add-mod}
use Rattle.rm_model.specs.Counting.{Counting}
use Rattle.rm_model.specs.Journal.{Frame, Journal, passes}
use Rattle.rm_model.specs.ControlRows.{no_rows, is_valid, state_of}
use Rattle.rm_model.specs.declared.row.State.{State}
use Rattle.rm_status.specs.declared.row.Row.{Row}
use Rattle.rm_status.specs.Rows.{row_in, state_seen, AllAbove, Rising}
use Rattle.rm_status.specs.Change.{changed_row}
use Rattle.rm_status.specs.RowsAfter.{AreRowsAfter}
use Rattle.rm_status.proofs.RowsAfterLemmas.{rows_changed, was_there}
use Rattle.rm_acts.specs.Channels.{channel_table, accepts, match_count}
use Rattle.rm_acts.specs.Fired.{fired}
use Rattle.rm_filter.specs.declared.accepted.Accepted.{Accepted}
use Rattle.rm_filter.specs.declared.channel.Channel.{Channel}
use Rattle.rm_filter.specs.ChannelForm.{set_to}
use Rattle.rm_filter.specs.Changes.{counting}
use Rattle.rm_filter.specs.Judging.{accepted_by, judged, is_among}
use Rattle.rm_filter.specs.Tables.{IsPresent, ArePresent}
use Rattle.rm_filter.proofs.JudgeLemmas.{index_is}
use Rattle.rm_filter.proofs.MatchCounts.{passed_count}

-- whether a channel is among those of the rows that accept a frame
module _ (settings : Counting) (journal : Journal) (frame : Frame) where
  abbrev kept : Row Channel → Option Accepted
  kept = judged settings journal frame

  abbrev is_kept : Row Channel → Bool
  is_kept row = is_valid row.state && accepts settings journal row.index frame

  first_or_later : (t : Bool) (x : Row Channel) (list : List Accepted) (i : ℕ) → is_among (cons_option (cond t (Some (accepted_by x)) None) list) i ≡ ((t && nat_eq x.index i) || is_among list i)
  first_or_later true x list i = refl
  first_or_later false x list i = refl

  not_among : (rows : List (Row Channel)) (n i : ℕ) → AllAbove n rows → i ≤ n → is_among (filter_map kept rows) i ≡ false
  not_among [] n i above low = refl
  not_among (x ∷ rows) n i above low =
      let over = above.0 in
      let other : nat_eq x.index i ≡ false = grind (arith, nat_tests) in
      first_or_later (is_kept x) x (filter_map kept rows) i
      ∙ ap (λ b. (is_kept x && b) || is_among (filter_map kept rows) i) other
      ∙ ap (λ b. b || is_among (filter_map kept rows) i) (and_false (is_kept x))
      ∙ not_among rows n i above.1 low
    where
      and_false : (b : Bool) → (b && false) ≡ false
      and_false true = refl
      and_false false = refl

  pub among_is : (rows : List (Row Channel)) → Rising rows → (i : ℕ) (row : Row Channel) → row_in rows i ≡ Some row
      → is_among (filter_map kept rows) i ≡ (is_valid row.state && accepts settings journal i frame)
  among_is [] rising i row here = absurd (cc)
  among_is (x ∷ rows) rising i row here = first_or_later (is_kept x) x (filter_map kept rows) i ∙ by_index (λ found. among_is rows rising.1 i row found) (nat_eq x.index i) refl here
    where
      simple : (b : Bool) → ((b && true) || false) ≡ b
      simple true = refl
      simple false = refl

      later_alone : (b rest : Bool) → ((b && false) || rest) ≡ rest
      later_alone true rest = refl
      later_alone false rest = refl

      by_index : (row_in rows i ≡ Some row → is_among (filter_map kept rows) i ≡ (is_valid row.state && accepts settings journal i frame))
          → (t : Bool) → nat_eq x.index i ≡ t → cond t (Some x) (row_in rows i) ≡ Some row
          → ((is_kept x && nat_eq x.index i) || is_among (filter_map kept rows) i) ≡ (is_valid row.state && accepts settings journal i frame)
      by_index later true same found =
          let is : x ≡ row = cc in
          let e : x.index ≡ i = grind (arith, nat_tests) in
          ap (λ b. (is_kept x && b) || is_among (filter_map kept rows) i) same
          ∙ ap (λ b. (is_kept x && true) || b) (not_among rows x.index i rising.0 (omega (arith, e)))
          ∙ simple (is_kept x)
          ∙ ap (λ n. is_valid x.state && accepts settings journal n frame) e
          ∙ ap (λ (r : Row Channel). is_valid r.state && accepts settings journal i frame) is
      by_index later false other found =
          ap (λ b. (is_kept x && b) || is_among (filter_map kept rows) i) other
          ∙ later_alone (is_kept x) (is_among (filter_map kept rows) i) ∙ later found

module _ (settings : Counting) (journal : Journal) (frame : Frame) (rows new : List (Row Channel)) (rising : Rising rows) (list : List Accepted)
    (are_judged : list ≡ filter_map (judged settings journal frame) rows)
    (changed : (i : ℕ) → row_in new i ≡ option_map (changed_row (λ index state channel. counting list index channel)) (row_in rows i))
    (is : AreRowsAfter channel_table no_rows set_to rows journal) (are : ArePresent rows settings journal (fired settings journal)) where
  counting_keeps : (index : ℕ) (state : State) (channel : Channel) (n : ℕ) → set_to (counting list index channel) n ≡ set_to channel n
  counting_keeps index state channel n =
      elim (is_among list index) as (λ b. set_to (cond b (record channel { matches = (channel.matches + 1) % 2 ^ 32 }) channel) n ≡ set_to channel n) [ true ↦ refl | false ↦ refl ]

  pub rows_with_frame : AreRowsAfter channel_table no_rows set_to new journal
  rows_with_frame = rows_changed channel_table no_rows set_to (λ index state channel. counting list index channel) counting_keeps rows new changed journal is

  counted_is : (i : ℕ) (row : Row Channel) → row_in rows i ≡ Some row → (b : Bool) → is_among list i ≡ b
      → IsPresent settings (passes frame ∷ journal) ([] ∷ fired settings journal) i (cond b (record row.columns { matches = (row.columns.matches + 1) % 2 ^ 32 }) row.columns)
  counted_is i row here b among = by_test b (passed_count settings i frame journal b accepted_is)
    where
      state_is : is_valid (state_of channel_table no_rows journal (i ∷ [])) ≡ is_valid row.state
      state_is = ap is_valid (sym (is.alike.states i) ∙ ap state_seen here)

      accepted_is : (is_valid (state_of channel_table no_rows journal (i ∷ [])) && accepts settings journal i frame) ≡ b
      accepted_is =
          ap (λ t. t && accepts settings journal i frame) state_is
          ∙ sym (among_is settings journal frame rows rising i row here) ∙ ap (λ l. is_among l i) (sym are_judged) ∙ among

      by_test : (t : Bool) → match_count settings (passes frame ∷ journal) i ≡ match_count settings journal i + cond t 1 0
          → IsPresent settings (passes frame ∷ journal) ([] ∷ fired settings journal) i (cond t (record row.columns { matches = (row.columns.matches + 1) % 2 ^ 32 }) row.columns)
      by_test true count = record {
        control = (are i row here).control;
        status = (are i row here).status;
        matches = ap (λ n. (n + 1) % 2 ^ 32) (are i row here).matches ∙ mod-add-mod (match_count settings journal i) (2 ^ 32) 1 ∙ ap (λ n. n % 2 ^ 32) (sym count);
      }
      by_test false count =
          let same : match_count settings (passes frame ∷ journal) i ≡ match_count settings journal i = omega (arith, count) in
          record {
            control = (are i row here).control;
            status = (are i row here).status;
            matches = (are i row here).matches ∙ ap (λ n. n % 2 ^ 32) (sym same);
          }

  pub present_with_frame : ArePresent new settings (passes frame ∷ journal) ([] ∷ fired settings journal)
  present_with_frame i row here =
      let old = was_there (changed_row (λ index state channel. counting list index channel)) (row_in rows i) row (sym (changed i) ∙ here) in
      let index : old.0.index ≡ i = index_is rows i old.0 old.1 in
      subst (λ (r : Row Channel). IsPresent settings (passes frame ∷ journal) ([] ∷ fired settings journal) i r.columns) old.2
      (counted_is i old.0 old.1 (is_among list old.0.index) (ap (is_among list) (sym index)))
