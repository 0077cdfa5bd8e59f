-- That the cells of the tables of the network and application layer are finitely many.
use Rattle.std.proofs.Common.{◌≡◌, ℕ, ◌+◌, ◌/◌, ◌≤◌, Bool, true, false, not, nat_eq, nat_le, nat_lt, List, [], ◌∷◌, ◌++◌, filter, Contains, Option, Some, None, refl, sym, ap, ◌∙◌, inl, inr, subst, arith}
use Rattle.std.specs.List.{AllByRecursion}
use Rattle.std.specs.Option.{is_some, option_map_or}
use Rattle.std.specs.declared.cmp.Ordering.{Ordering}
use Rattle.std.proofs.lemmas.Bool.{and_parts, cases_Bool, leb-true, true≢false}
use Rattle.std.proofs.lemmas.Bool.Decides.{nat_tests}
use Rattle.rm_model.specs.Counting.{Counting}
use Rattle.rm_model.specs.Journal.{Journal}
use Rattle.rm_model.specs.Cells.{cells_of}
use Rattle.rm_model.specs.Finite.{AreFinite}
use Rattle.rm_model.proofs.Finite.{table_finite}
use Rattle.rm_status.proofs.RowFacts.{valid_there}
use Rattle.rm_nested.proofs.Finite.{rows_of, in_rows, nested, in_nested}
use Rattle.rm_evicting.specs.Mention.{Mention, refers, strays}
use Rattle.rm_evicting.specs.Held.{last_tick}
use Rattle.rm_layers.specs.Event.{Contribution, Event, names, turns, turns_ip, begins, on_since, span}
use Rattle.rm_layers.specs.Network.{counts_for, is_held, is_some_list, newest_tick, contributions}
use Rattle.rm_layers.proofs.Made.{filter_off}
use Rattle.rm_layers.proofs.Spans.{EachGain, each-shares}
use Rattle.rm_walk_places.specs.declared.places.Bounds.{Bounds}
use Rattle.rm_walk_places.specs.Within.{AreWithin}
use Rattle.rm_walk_places.specs.Numbers.{lists_within, in_lists}
use Rattle.rm_walk_places.proofs.WithinLaws.{test}
use Rattle.rm_layer_tables.specs.Control.{layer_control, control_state, is_active}
use Rattle.rm_layer_tables.specs.ControlCells.{control_table}
use Rattle.rm_layer_tables.specs.Held.{MarkedRows, is_active_now, room, seen_events, stands_at, has_row, network_rows, application_rows}
use Rattle.rm_layer_tables.specs.Indexes.{ip_bounds, KeyForm, IsForm, network_place, application_place}
use Rattle.rm_layer_tables.specs.Layer.{Layer}
use Rattle.rm_layer_tables.specs.PlaceLaws.{key_named, protocol_named}
use Rattle.rm_layer_tables.specs.Tables.{MarkedTable, is_index, marked_table, networks_after, applications_after}

module _ {K G : Type 0} where
  -- a number that no tick of some references is above
  abbrev no_later : List (Mention K (Contribution G)) → ℕ
  no_later [] = 0
  no_later (refers key stamp tick brings ∷ earlier) = tick + (brings.tick + no_later earlier)
  no_later (strays key brings ∷ earlier) = brings.tick + no_later earlier

  last_within : (eq : K → K → Bool) (key : K) (mentions : List (Mention K (Contribution G))) → last_tick eq key mentions ≤ no_later mentions
  last_within eq key [] = omega arith
  last_within eq key (refers newest stamp tick brings ∷ earlier) = elim (cases_Bool (eq key newest)) [
    | inl e ↦ rw e (omega arith)
    | inr e ↦ rw e (let rest : last_tick eq key earlier ≤ no_later earlier = last_within eq key earlier in omega arith)
  ]
  last_within eq key (strays newest brings ∷ earlier) = let rest : last_tick eq key earlier ≤ no_later earlier = last_within eq key earlier in omega arith

  each_within : (most : ℕ) (mentions : List (Mention K (Contribution G))) → no_later mentions ≤ most → EachGain (λ (brings : Contribution G). brings.tick ≤ most) mentions
  each_within most [] under = tt
  each_within most (refers key stamp tick brings ∷ earlier) under = (omega (arith, under), each_within most earlier (omega (arith, under)))
  each_within most (strays key brings ∷ earlier) under = (omega (arith, under), each_within most earlier (omega (arith, under)))

  -- a number that no protocol which is on is above
  abbrev no_higher : List (Event K G) → ℕ
  no_higher [] = 0
  no_higher (names key brings ∷ earlier) = no_higher earlier
  no_higher (turns protocol stamp on ∷ earlier) = protocol + no_higher earlier
  no_higher (turns_ip on ∷ earlier) = no_higher earlier
  no_higher (begins ∷ earlier) = no_higher earlier

  on_within : (protocol : ℕ) (events : List (Event K G)) → is_some (on_since protocol events) ≡ true → protocol ≤ no_higher events
  on_within protocol [] is = absurd (cc)
  on_within protocol (names key brings ∷ earlier) is = on_within protocol earlier is
  on_within protocol (turns other stamp on ∷ earlier) is = elim (cases_Bool (nat_eq protocol other)) [
    | inl e ↦ let same : protocol ≡ other = grind (arith, nat_tests, e) in omega (arith, same)
    | inr e ↦ let rest : protocol ≤ no_higher earlier = on_within protocol earlier (rw e at is) in omega arith
  ]
  on_within protocol (turns_ip on ∷ earlier) is = on_within protocol earlier is
  on_within protocol (begins ∷ earlier) is = on_within protocol earlier is

module _ {G : Type 0} where
  -- nor that of the newest of some contributions
  newest_within : (most : ℕ) (test : Contribution G → Bool) (some : List (Contribution G)) → AllByRecursion (λ brings. brings.tick ≤ most) some
      → newest_tick (filter test some) ≤ most
  newest_within most test [] all = omega arith
  newest_within most test (brings ∷ more) all = elim (cases_Bool (test brings)) [ inl e ↦ rw e all.0 | inr e ↦ rw e (newest_within most test more all.1) ]

  -- a protocol for which contributions count is on
  counting_on : (protocol : ℕ) (since : Option ℕ) (some : List (Contribution G)) → is_some_list (filter (counts_for protocol since) some) ≡ true → is_some since ≡ true
  counting_on protocol None some there = absurd (true≢false (sym there ∙ ap is_some_list (filter_off protocol some)))
  counting_on protocol (Some stamp) some there = refl

marked_within : (now mark last most : ℕ) → stands_at now mark last ≡ true → last ≤ most → mark ≤ most
marked_within now mark last most stands under =
    let le : mark ≤ last = leb-true mark last (and_parts (nat_lt 0 (now / 10)) (nat_le mark last) stands).1 in
    omega (arith, le, under)

-- up to a number
abbrev up_to : ℕ → Bounds
up_to most = record { least = 0; greatest = most }

joined : (bounds more : List Bounds) (numbers others : List ℕ) → AreWithin bounds numbers → AreWithin more others → AreWithin (bounds ++ more) (numbers ++ others)
joined [] more [] others first second = second
joined [] more (number ∷ numbers) others first second = absurd first
joined (bound ∷ bounds) more [] others first second = absurd first
joined (bound ∷ bounds) more (number ∷ numbers) others first second = (first.0, first.1, joined bounds more numbers others first.2 second)

-- The cells of a table are finitely many, where each index is that of some control row, with numbers within bounds behind it.
module _ {X G : Type 0} (place_of : List ℕ → Option (ℕ × X)) (rows : (row : ℕ) → MarkedRows X G) (now : ℕ) (controls : List (List ℕ)) (bounds : (row : ℕ) → List Bounds)
    (within : (row : ℕ) (numbers : List ℕ) (o : Option (ℕ × X)) → place_of numbers ≡ o → option_map_or (λ place. has_row (rows row) now place.0 place.1) o false ≡ true
    → Contains controls (row ∷ []) × AreWithin (bounds row) numbers) where
  marked_finite : (table : MarkedTable G) → AreFinite (cells_of (marked_table table place_of rows now))
  marked_finite table =
      table_finite (marked_table table place_of rows now) (nested controls (λ row. lists_within (bounds row)))
      (λ index is. in_nested (is_index table place_of rows now) controls (λ row. lists_within (bounds row))
      (λ row numbers has. (within row numbers (place_of numbers) refl has).0)
      (λ row numbers has. in_lists (bounds row) numbers (test (bounds row) numbers (within row numbers (place_of numbers) refl has).1))
      index is)

module _ {K G : Type 0} (layer : Layer K G) (eq : K → K → Bool) (settings : Counting) (journal : Journal) where
  abbrev outer : List (List ℕ)
  outer = rows_of (layer_control layer.control) journal

  -- an active row is there
  row_of : (row : ℕ) → is_active layer.control journal row ≡ true → Contains outer (row ∷ [])
  row_of row active = in_rows (layer_control layer.control) journal (row ∷ []) (ap not (valid_there (control_state layer.control journal row) active))

  -- no row stands beyond a last mark, and no protocol is beyond a last one
  abbrev last_mark : ℕ → ℕ
  last_mark row = no_later (span (seen_events layer eq settings journal row))

  abbrev last_local : ℕ → ℕ
  last_local row = no_higher (seen_events layer eq settings journal row)

  pub control_finite : AreFinite (cells_of (control_table layer eq settings journal))
  control_finite = table_finite (control_table layer eq settings journal) outer (in_rows (layer_control layer.control) journal)

  newest_is_within : (row : ℕ) (x : K × ℕ) → (application_rows layer eq settings journal row).last x ≤ last_mark row
  newest_is_within row x =
      newest_within (last_mark row) (counts_for x.1 (on_since x.1 (seen_events layer eq settings journal row)))
      (contributions eq (room layer eq settings journal row) x.0 (seen_events layer eq settings journal row))
      (each-shares eq (room layer eq settings journal row) (λ brings. brings.tick ≤ last_mark row) x.0 (span (seen_events layer eq settings journal row))
      (each_within (last_mark row) (span (seen_events layer eq settings journal row)) (omega arith)))

  module _ (form : KeyForm K) {cmp : K → K → Ordering} (laws : IsForm form cmp) (now : ℕ) where
    -- network rows
    abbrev network_bounds : ℕ → List Bounds
    network_bounds row = up_to (last_mark row) ∷ ip_bounds ∷ form.bounds

    network_in : (row : ℕ) (numbers : List ℕ) (o : Option (ℕ × K)) → network_place form numbers ≡ o
        → option_map_or (λ place. has_row (network_rows layer eq settings journal row) now place.0 place.1) o false ≡ true
        → Contains outer (row ∷ []) × AreWithin (network_bounds row) numbers
    network_in row numbers None e none = absurd (true≢false (sym none))
    network_in row numbers (Some place) e has =
        let there = and_parts ((network_rows layer eq settings journal row).is_there place.1) (stands_at now place.0 ((network_rows layer eq settings journal row).last place.1)) has in
        let active = and_parts (is_active_now layer eq settings journal row) (is_held eq (room layer eq settings journal row) place.1 (seen_events layer eq settings journal row)) there.0 in
        let it = key_named form numbers place e in
        let mark : place.0 ≤ last_mark row = marked_within now place.0 ((network_rows layer eq settings journal row).last place.1) (last_mark row) there.1 (last_within eq place.1 (span (seen_events layer eq settings journal row))) in (row_of row active.0, subst (AreWithin (network_bounds row)) (sym it.named) (omega arith, mark, (omega arith, omega arith, laws.within it.rest place.1 it.is)))

    pub networks_finite : (table : MarkedTable G) → AreFinite (cells_of (networks_after layer eq form table settings journal now))
    networks_finite table = marked_finite (network_place form) (network_rows layer eq settings journal) now outer network_bounds network_in table

    -- application rows
    abbrev application_bounds : ℕ → List Bounds
    application_bounds row = up_to (last_mark row) ∷ ip_bounds ∷ (form.bounds ++ up_to (last_local row) ∷ [])

    application_in : (row : ℕ) (numbers : List ℕ) (o : Option (ℕ × (K × ℕ))) → application_place form numbers ≡ o
        → option_map_or (λ place. has_row (application_rows layer eq settings journal row) now place.0 place.1) o false ≡ true
        → Contains outer (row ∷ []) × AreWithin (application_bounds row) numbers
    application_in row numbers None e none = absurd (true≢false (sym none))
    application_in row numbers (Some place) e has =
        let rows = application_rows layer eq settings journal row in
        let there = and_parts (rows.is_there place.1) (stands_at now place.0 (rows.last place.1)) has in
        let active = and_parts (is_active_now layer eq settings journal row) _ there.0 in
        let some = and_parts (is_held eq (room layer eq settings journal row) place.1.0 (seen_events layer eq settings journal row)) (is_some_list (rows.contributions place.1)) active.1 in
        let low : place.1.1 ≤ last_local row = on_within place.1.1 (seen_events layer eq settings journal row)
        (counting_on place.1.1 (on_since place.1.1 (seen_events layer eq settings journal row)) (contributions eq (room layer eq settings journal row) place.1.0 (seen_events layer eq settings journal row)) some.1) in
        let it = protocol_named form numbers place e in
        let mark : place.0 ≤ last_mark row = marked_within now place.0 (rows.last place.1) (last_mark row) there.1 (newest_is_within row place.1) in (
          row_of row active.0,
          subst (AreWithin (application_bounds row)) (sym it.named)
              (omega arith, mark, (omega arith, omega arith, joined form.bounds (up_to (last_local row) ∷ []) it.rest (place.1.1 ∷ []) (laws.within it.rest place.1.0 it.is) (omega arith, low, tt))),
        )

    pub applications_finite : (table : MarkedTable G) → AreFinite (cells_of (applications_after layer eq form table settings journal now))
    applications_finite table = marked_finite (application_place form) (application_rows layer eq settings journal) now outer application_bounds application_in table
