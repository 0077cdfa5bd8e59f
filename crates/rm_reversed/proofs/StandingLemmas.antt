-- Rows with each key replaced stand for the events with each key replaced.
use Rattle.std.proofs.Common.{◌≡◌, ℕ, Bool, List, [], ◌∷◌, map, Option, refl, sym, ap, ◌∙◌, subst}
use Rattle.std.specs.List.{AllByRecursion}
use Rattle.std.proofs.lemmas.List.{length-map}
use Rattle.rm_evicting.specs.declared.Row.{Row}
use Rattle.rm_evicting.specs.Mention.{Mention, keys}
use Rattle.rm_evicting.specs.Held.{held}
use Rattle.rm_evicting.specs.Stands.{IsRow, Stands}
use Rattle.rm_evicting.proofs.RowLemmas.{by_entry-map}
use Rattle.rm_layers.specs.Event.{Contribution, Event, on_since, span}
use Rattle.rm_layers.specs.Applications.{Value, Slots}
use Rattle.rm_layers.specs.Upper.{IsValue}
use Rattle.rm_upper.specs.Shown.{protocols, row_as, seen_value, seen_rows}
use Rattle.rm_upper.specs.Standing.{Layered, StandsFor, IsKeptBefore}
use Rattle.rm_upper.specs.Tally.{Tally}
use Rattle.rm_reversed.specs.Reversed.{reversed_events, reversed_row, reversed_rows, reversed_layered}
use Rattle.rm_reversed.proofs.MentionLemmas.{mentions_of, held_by-of, size_by-of, entry-of, last_stamp-of, last_tick-of, shares-of}
use Rattle.rm_reversed.proofs.EventLemmas.{on_since-of, span-of, up_to-of, network_inserts-of, application_inserts-of}
use Rattle.rm_reversed.proofs.RowLemmas.{holds-of}

module _ {K : Type 0} (eq : K → K → Bool) (to : K → K) (twice : (key : K) → to (to key) ≡ key) (alike : (one other : K) → eq (to one) (to other) ≡ eq one other) where
  module _ {C V : Type 0} (means : List C → V → Type 0) (capacity : ℕ) (ms : List (Mention K C)) where
    is_row-of : (row : Row K V) → IsRow eq means capacity ms row → IsRow eq means capacity (mentions_of to ms) (reversed_row to row)
    is_row-of row is = record {
      value = subst (λ gains. means gains row.value) (sym (shares-of eq to alike capacity row.key ms)) is.value;
      entry = is.entry ∙ sym (entry-of eq to alike capacity row.key ms);
      last = is.last ∙ sym (last_stamp-of eq to alike row.key ms);
      tick = is.tick ∙ sym (last_tick-of eq to alike row.key ms);
    }

    each-of : (rows : List (Row K V)) → AllByRecursion (IsRow eq means capacity ms) rows → AllByRecursion (IsRow eq means capacity (mentions_of to ms)) (reversed_rows to rows)
    each-of [] each = tt
    each-of (row ∷ rows) each = (is_row-of row each.0, each-of rows each.1)

    stands-of : (rows : List (Row K V)) → Stands eq means capacity ms rows → Stands eq means capacity (mentions_of to ms) (reversed_rows to rows)
    stands-of rows stands = record {
      held = λ key.
          holds-of eq to twice alike key rows
          ∙ stands.held (to key)
          ∙ sym (held_by-of eq to alike capacity (to key) ms)
          ∙ ap (λ k. held eq capacity k (keys (mentions_of to ms))) (twice key);
      size = length-map rows (reversed_row to) ∙ stands.size ∙ sym (size_by-of eq to alike capacity ms);
      each = each-of rows stands.each;
      order = by_entry-map (reversed_row to) (λ row. refl) rows stands.order;
    }

  module _ {V W : Type 0} (see : V → W) where
    -- values are seen as they were
    seen-of : (rows : List (Row K V)) → map (row_as see) (reversed_rows to rows) ≡ reversed_rows to (map (row_as see) rows)
    seen-of [] = refl
    seen-of (row ∷ rows) = ap (λ l. reversed_row to (row_as see row) ∷ l) (seen-of rows)

  values-of : {V : Type 0} (Such : V → Type 0) (rows : List (Row K V)) → AllByRecursion (λ row. Such row.value) rows → AllByRecursion (λ row. Such row.value) (reversed_rows to rows)
  values-of Such [] all = tt
  values-of Such (row ∷ rows) all = (all.0, values-of Such rows all.1)

  module _ {N A : Type 0} (tally : Tally N A) (events : List (Event K N)) (layered : Layered K N A) (stands : StandsFor tally eq events layered) where
    abbrev slots : Slots
    slots = protocols layered.slots

    -- rows and their values since protocols were turned on
    abbrev Stand : (ℕ → Option ℕ) → List (Mention K (Contribution N)) → List (Row K (Value N A)) → Type 0
    Stand since ms rows = Stands eq (IsValue tally.blank tally.add tally.none tally.more slots since) layered.table.capacity ms rows

    rows_stand : Stand (λ protocol. on_since protocol (reversed_events to events)) (span (reversed_events to events)) (seen_rows layered.slots (reversed_layered to layered).table.rows)
    rows_stand =
        subst (Stand (λ protocol. on_since protocol (reversed_events to events)) (span (reversed_events to events))) (sym (seen-of (seen_value layered.slots) layered.table.rows))
        (subst (λ ms. Stand (λ protocol. on_since protocol (reversed_events to events)) ms (reversed_rows to (seen_rows layered.slots layered.table.rows))) (sym (span-of to events))
        (stands-of (IsValue tally.blank tally.add tally.none tally.more slots (λ protocol. on_since protocol (reversed_events to events))) layered.table.capacity (span events) (seen_rows layered.slots layered.table.rows)
        (subst (λ since. Stand since (span events) (seen_rows layered.slots layered.table.rows)) (λ d protocol. sym (on_since-of to protocol events) d) stands.is.stands)))

    -- what is told of events is told of those with each key replaced
    pub stands_for-of : StandsFor tally eq (reversed_events to events) (reversed_layered to layered)
    stands_for-of = record {
      is = record {
        stands = rows_stand;
        network_inserts = stands.is.network_inserts ∙ sym (network_inserts-of eq to alike layered.table.capacity events);
        application_inserts = stands.is.application_inserts ∙ sym (application_inserts-of eq to alike layered.table.capacity events);
      };
      kept = λ limit upto. values-of (λ value. AllByRecursion (IsKeptBefore limit) value.applications) layered.table.rows (stands.kept limit (up_to-of to limit events upto));
      since = λ limit upto. stands.since limit (up_to-of to limit events upto);
    }
