-- That what the filters match that are held is what they match after a journal.
use Rattle.std.proofs.Common.{◌≡◌, ℕ, List, [], ◌∷◌, Bool, true, false, ◌&&◌, ◌||◌, nat_eq, Contains, drop, pos, ℤ, Option, Some, None, refl, sym, ap, ◌∙◌}
use Rattle.std.specs.Prelude.{unwrap_or}
use Rattle.std.specs.List.{list_any}
use Rattle.std.specs.Option.{option_and_then, option_map}
use Rattle.rm_val.specs.Val.{Val, int, octets as text}
use Rattle.rm_val.specs.Contents.{natural_in, octets_in}
use Rattle.rm_columns.specs.Values.{natural_of}
use Rattle.rm_model.specs.Counting.{Counting}
use Rattle.rm_model.specs.Journal.{Frame, Journal}
use Rattle.rm_model.specs.FrameFacts.{frame_facts}
use Rattle.rm_proto.specs.declared.known.Facts.{Facts}
use Rattle.rm_group.specs.Passing.{IsOf}
use Rattle.rm_model.specs.ControlTable.{default_of}
use Rattle.rm_model.specs.ControlRows.{no_rows, is_absent, is_valid, value_of}
use Rattle.rm_status.specs.declared.row.Row.{Row}
use Rattle.rm_status.specs.Rows.{row_in, state_in, columns_in, state_seen, columns_seen}
use Rattle.rm_status.specs.RowsAfter.{AreRowsAfter}
use Rattle.rm_status.proofs.RowFacts.{valid_there, valid_columns}
use Rattle.rm_model.proofs.Members.{none_in, here, there, each}
use Rattle.rm_acts.proofs.RowsLaws.{listed, only_valid}
use Rattle.rm_acts.specs.Channels.{is_matched}
use Rattle.rm_acts.specs.Bits.{test_of, pass}
use Rattle.rm_acts.specs.Rows.{has_valid, valid_rows}
use Rattle.rm_acts.specs.Filters.{filter_table, channel_of, matches}
use Rattle.rm_match.specs.Tests.{status_bits}
use Rattle.rm_filter.specs.declared.filter_row.FilterRow.{FilterRow}
use Rattle.rm_filter.specs.FilterRows.{set_to}
use Rattle.rm_filter.specs.Matching.{channel_kept, status_test, row_matches, matches_seen, matches_at}

module _ (rows : List (Row FilterRow)) (journal : Journal) (is : AreRowsAfter filter_table no_rows set_to rows journal) (index : ℕ) (filter : FilterRow) (has : columns_in rows index ≡ Some filter) (valid : is_valid (state_in rows index) ≡ true) where
  is_there : is_absent (state_in rows index) ≡ false
  is_there = valid_there (state_in rows index) valid

  abbrev shows : ℕ → Option FilterRow → Val
  shows n o = unwrap_or (option_and_then (λ c. set_to c n) o) (default_of filter_table n)

  abbrev value : ℕ → Val
  value column = value_of filter_table no_rows journal (index ∷ []) column

  channel_is : channel_kept filter ≡ channel_of journal index
  channel_is = ap natural_in (shown_channel filter.channel) ∙ ap natural_in (ap (shows 2) (sym has) ∙ (is.alike.columns index is_there).0.shown)
    where
      shown_channel : (o : Option ℤ) → int (unwrap_or o (pos 0)) ≡ unwrap_or (option_map int o) (int (pos 0))
      shown_channel None = refl
      shown_channel (Some n) = refl

  offset_is : int filter.offset ≡ value 3
  offset_is = ap (shows 3) (sym has) ∙ (is.alike.columns index is_there).1.0.shown

  wanted_is : text filter.pkt_data.items ≡ value 4
  wanted_is = ap (shows 4) (sym has) ∙ (is.alike.columns index is_there).1.1.0.shown

  mask_is : text filter.mask.items ≡ value 5
  mask_is = ap (shows 5) (sym has) ∙ (is.alike.columns index is_there).1.1.1.0.shown

  not_mask_is : text filter.not_mask.items ≡ value 6
  not_mask_is = ap (shows 6) (sym has) ∙ (is.alike.columns index is_there).1.1.1.1.0.shown

  status_is : int filter.status ≡ value 7
  status_is = ap (shows 7) (sym has) ∙ (is.alike.columns index is_there).1.1.1.1.1.0.shown

  status_mask_is : int filter.status_mask ≡ value 8
  status_mask_is = ap (shows 8) (sym has) ∙ (is.alike.columns index is_there).1.1.1.1.1.1.0.shown

  status_not_mask_is : int filter.status_not_mask ≡ value 9
  status_not_mask_is = ap (shows 9) (sym has) ∙ (is.alike.columns index is_there).1.1.1.1.1.1.1.0.shown

  data_passes : (frame : Frame) → pass (test_of filter.pkt_data.items filter.mask.items filter.not_mask.items) (drop (natural_of filter.offset) frame.octets)
      ≡ pass (test_of (octets_in (value 4)) (octets_in (value 5)) (octets_in (value 6))) (drop (natural_in (value 3)) frame.octets)
  data_passes frame =
      ap (λ xs. pass (test_of (octets_in xs) filter.mask.items filter.not_mask.items) (drop (natural_of filter.offset) frame.octets)) wanted_is
      ∙ ap (λ xs. pass (test_of (octets_in (value 4)) (octets_in xs) filter.not_mask.items) (drop (natural_of filter.offset) frame.octets)) mask_is
      ∙ ap (λ xs. pass (test_of (octets_in (value 4)) (octets_in (value 5)) (octets_in xs)) (drop (natural_of filter.offset) frame.octets)) not_mask_is
      ∙ ap (λ n. pass (test_of (octets_in (value 4)) (octets_in (value 5)) (octets_in (value 6))) (drop (natural_in n) frame.octets)) offset_is

  status_passes : (status : ℕ) → pass (status_bits (status_test filter) ∷ []) (status ∷ [])
      ≡ pass (status_bits (record { status = natural_in (value 7); mask = natural_in (value 8); not_mask = natural_in (value 9) }) ∷ []) (status ∷ [])
  status_passes status =
      ap (λ n. pass (status_bits (record { status = natural_in n; mask = natural_of filter.status_mask; not_mask = natural_of filter.status_not_mask }) ∷ []) (status ∷ [])) status_is
      ∙ ap (λ n. pass (status_bits (record { status = natural_in (value 7); mask = natural_in n; not_mask = natural_of filter.status_not_mask }) ∷ []) (status ∷ [])) status_mask_is
      ∙ ap (λ n. pass (status_bits (record { status = natural_in (value 7); mask = natural_in (value 8); not_mask = natural_in n }) ∷ []) (status ∷ [])) status_not_mask_is

  pub matches_after : (settings : Counting) (frame : Frame) → row_matches filter (frame_facts settings frame).status frame.octets ≡ matches settings journal index frame
  matches_after settings frame =
      ap (λ b. b && pass (status_bits (status_test filter) ∷ []) ((frame_facts settings frame).status ∷ [])) (data_passes frame)
      ∙ ap (λ b. pass (test_of (octets_in (value 4)) (octets_in (value 5)) (octets_in (value 6))) (drop (natural_in (value 3)) frame.octets) && b) (status_passes (frame_facts settings frame).status)

any_passes : (p : ℕ → Bool) (xs : List ℕ) (x : ℕ) → Contains xs x → p x ≡ true → list_any p xs ≡ true
any_passes p [] x within passes = absurd (none_in x within)
any_passes p (y ∷ xs) x within passes =
    each (λ z. p z ≡ true → (p y || list_any p xs) ≡ true) y xs
    (λ is. rw is refl)
    (λ z later is. or_true (p y) (any_passes p xs z later is)) x within passes
  where
    or_true : (a : Bool) → list_any p xs ≡ true → (a || list_any p xs) ≡ true
    or_true true is = refl
    or_true false is = is

none_pass : (p : ℕ → Bool) (xs : List ℕ) → ((x : ℕ) → Contains xs x → p x ≡ false) → list_any p xs ≡ false
none_pass p [] none = refl
none_pass p (y ∷ xs) none = rw (none y (here y xs)) (none_pass p xs (λ x within. none x (there y xs x within)))

module _ (rows : List (Row FilterRow)) where
  -- a filter that is valid, of a channel, and matches is found under its index
  seen : (o : Option (Row FilterRow)) (channel status : ℕ) (octets : List ℕ) → matches_seen o channel status octets ≡ true
      → (is_valid (state_seen o) ≡ true) × ((filter : FilterRow) × (columns_seen o ≡ Some filter) × ((nat_eq (channel_kept filter) channel && row_matches filter status octets) ≡ true))
  seen None channel status octets is = absurd (cc)
  seen (Some row) channel status octets is =
      let parts = both (is_valid row.state) (nat_eq (channel_kept row.columns) channel && row_matches row.columns status octets) is in
      (parts.0, (row.columns, refl, parts.1))
    where
      both : (a b : Bool) → (a && b) ≡ true → (a ≡ true) × (b ≡ true)
      both true b is = (refl, is)
      both false b is = absurd (cc)

  -- one that is valid does or doesn't, by its columns
  seen_valid : (o : Option (Row FilterRow)) (filter : FilterRow) (channel status : ℕ) (octets : List ℕ) → is_valid (state_seen o) ≡ true → columns_seen o ≡ Some filter
      → matches_seen o channel status octets ≡ (nat_eq (channel_kept filter) channel && row_matches filter status octets)
  seen_valid None filter channel status octets valid has = absurd (cc)
  seen_valid (Some row) filter channel status octets valid has =
      let same : row.columns ≡ filter = cc in
      ap (λ b. b && (nat_eq (channel_kept row.columns) channel && row_matches row.columns status octets)) valid
      ∙ ap (λ f. nat_eq (channel_kept f) channel && row_matches f status octets) same

  module _ (journal : Journal) (is : AreRowsAfter filter_table no_rows set_to rows journal) (settings : Counting) (frame : Frame) (channel : ℕ) where
    -- whether the filter with an index is of the channel and matches the frame after the journal
    abbrev after : ℕ → Bool
    after each = nat_eq (channel_of journal each) channel && matches settings journal each frame

    abbrev held : ℕ → Bool
    held each = matches_at rows channel (frame_facts settings frame).status frame.octets each

    same_after : (each : ℕ) (filter : FilterRow) → columns_in rows each ≡ Some filter → is_valid (state_in rows each) ≡ true
        → (nat_eq (channel_kept filter) channel && row_matches filter (frame_facts settings frame).status frame.octets) ≡ after each
    same_after each filter has valid =
        ap (λ n. nat_eq n channel && row_matches filter (frame_facts settings frame).status frame.octets) (channel_is rows journal is each filter has valid)
        ∙ ap (λ b. nat_eq (channel_of journal each) channel && b) (matches_after rows journal is each filter has valid settings frame)

    -- one that is held and matches is one of the valid rows that do
    pub some_matched : (each : ℕ) → held each ≡ true → true ≡ is_matched settings journal channel frame
    some_matched each found =
        let parts = seen (row_in rows each) channel (frame_facts settings frame).status frame.octets found in
        let valid : is_valid (state_in rows each) ≡ true = parts.0 in
        let there : has_valid filter_table journal each ≡ true = ap is_valid (sym (is.alike.states each)) ∙ valid in
        sym (any_passes after (valid_rows filter_table journal) each (listed filter_table journal each there) (sym (same_after each parts.1.0 parts.1.1 valid) ∙ parts.1.2))

    -- where none that is held matches, none of the valid rows does
    pub none_matched : ((each : ℕ) → held each ≡ false) → false ≡ is_matched settings journal channel frame
    none_matched none = sym (none_pass after (valid_rows filter_table journal) each_fails)
      where
        each_fails : (each : ℕ) → Contains (valid_rows filter_table journal) each → after each ≡ false
        each_fails each within =
            let there : has_valid filter_table journal each ≡ true = only_valid filter_table journal each within in
            let valid : is_valid (state_in rows each) ≡ true = ap is_valid (is.alike.states each) ∙ there in
            let has = valid_columns rows each valid in
            sym (same_after each has.0 has.1 valid) ∙ sym (seen_valid (row_in rows each) has.0 channel (frame_facts settings frame).status frame.octets valid has.1) ∙ none each

    -- so what a search finds is whether the channel is matched
    pub as_found : (facts : Facts) (octets : List ℕ) (number moment : ℕ) → IsOf settings frame facts octets number moment → (result : Bool)
        → (result ≡ true → (index : ℕ) × (matches_at rows channel facts.status octets index ≡ true))
        → (result ≡ false → (index : ℕ) → matches_at rows channel facts.status octets index ≡ false)
        → result ≡ is_matched settings journal channel frame
    as_found facts octets number moment of result some none = by_result result some none
      where
        same : (each : ℕ) → matches_at rows channel facts.status octets each ≡ held each
        same each = ap (λ (f : Facts). matches_at rows channel f.status octets each) of.known ∙ ap (λ xs. matches_at rows channel (frame_facts settings frame).status xs each) of.captured

        by_result : (t : Bool) → (t ≡ true → (index : ℕ) × (matches_at rows channel facts.status octets index ≡ true))
            → (t ≡ false → (index : ℕ) → matches_at rows channel facts.status octets index ≡ false) → t ≡ is_matched settings journal channel frame
        by_result true some none = let found = some refl in some_matched found.0 (sym (same found.0) ∙ found.1)
        by_result false some none = none_matched (λ each. sym (same each) ∙ none refl each)
