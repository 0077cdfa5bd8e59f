-- The next instance of a row is the one with the least index above.
use Rattle.std.proofs.Common.{◌≡◌, ℕ, ◌<◌, ◌≤◌, ◌^◌, ◌↔◌, Bool, true, false, cond, nat_le, List, [], ◌∷◌, ◌++◌, length, drop, Option, Some, None, refl, sym, ap, ◌∙◌, arith, subst, inl, inr}
use Rattle.std.specs.Prelude.{is_some, IfSome}
use Rattle.std.specs.Option.{option_map}
use Rattle.std.specs.Ordering.{ordering_then, nat_cmp}
use Rattle.std.specs.declared.cmp.Ordering.{Ordering}
use Rattle.std.specs.Cmp.Lexicographic.{slice_cmp}
use Rattle.std.proofs.lemmas.Bool.{cases_Bool, true≢false, le-leb, leb-true}
use Rattle.std.proofs.lemmas.Option.{same_Some}
use Rattle.rm_evicting.specs.Held.{IsExact}
use Rattle.rm_evicting.specs.declared.Row.{Row}
use Rattle.rm_model.specs.Names.{Below, IsLeastAbove}
use Rattle.rm_rows.specs.Table.{row_of}
use Rattle.rm_layers.specs.Applications.{Application, AreApart, application_at}
use Rattle.rm_layers.specs.Marks.{StandsAt, IsAboveAt, IsAboveName, IsAboveApplication, IsNextInstance, pair_cmp}
use Rattle.rm_upper.specs.Cells.{counted, counted_by, network_in, application_in_row}
use Rattle.rm_upper.specs.declared.network_row.NetworkRow.{NetworkRow}
use Rattle.rm_upper.specs.LayerTable.{LayerTable}
use Rattle.rm_upper.specs.Shown.{protocols, shown_all}
use Rattle.rm_upper.specs.Sound.{AreSound}
use Rattle.rm_upper.specs.Walk.{ShowsNetwork, ShowsApplication}
use Rattle.rm_upper.proofs.Lasts.{shown_application, application_shown}
use Rattle.rm_upper.proofs.SoundLemmas.{shows_something}
use Rattle.rm_walk_places.specs.declared.places.Reached.{Reached}
use Rattle.rm_walk_places.specs.declared.places.WalkPlace.{WalkPlace}
use Rattle.rm_walk_places.specs.Within.{AreWithin}
use Rattle.rm_walk_places.specs.WalkPlaces.{IsWalkPlace, numbers_of, pair_of}
use Rattle.rm_walk_places.proofs.Order.{joined, alone}
use Rattle.rm_layer_tables.specs.Indexes.{ip_local, ip_bounds, KeyForm, IsForm, network_place, application_place, network_index, application_index}
use Rattle.rm_layer_tables.specs.Kept.{network_counted, application_counted, lasts_to, row_with}
use Rattle.rm_layer_tables.specs.Walks.{key_from, application_from}
use Rattle.rm_layer_tables.specs.PlaceLaws.{key_named, protocol_named, key_at, protocol_at}

abbrev lexical : List ℕ → List ℕ → Ordering
lexical = slice_cmp nat_cmp

-- a place above another by mark and then by name
risen : {X Y : Type 0} (above : X → Type 0) (other : Y → Type 0) (at mark : ℕ) (x : X) (y : Y) → (above x → other y) → IsAboveAt at above (mark, x) → IsAboveAt at other (mark, y)
risen above other at mark x y over (inl later) = inl later
risen above other at mark x y over (inr same) = inr (same.0, over same.1)

module _ {K : Type 0} (form : KeyForm K) {cmp : K → K → Ordering} (laws : IsForm form cmp) where
  record ReachedKey (reached : Reached) : Type 0 where
    rest : List ℕ
    key : K
    named : reached.numbers ≡ ip_local ∷ rest
    is : form.key_of rest ≡ Some key

  reached_key : (reached : Reached) → AreWithin (ip_bounds ∷ form.bounds) reached.numbers → ReachedKey reached
  reached_key reached within = by_numbers reached.numbers refl within
    where
      by_key : (n : ℕ) (rest : List ℕ) → reached.numbers ≡ n ∷ rest → n ≡ ip_local → (o : Option K) → form.key_of rest ≡ o → is_some o ≡ true → ReachedKey reached
      by_key n rest e ip None f none = absurd (true≢false (sym none))
      by_key n rest e ip (Some key) f some = record { rest = rest; key = key; named = e ∙ ap (λ one. one ∷ rest) ip; is = f }

      by_numbers : (numbers : List ℕ) → reached.numbers ≡ numbers → AreWithin (ip_bounds ∷ form.bounds) numbers → ReachedKey reached
      by_numbers [] e within = absurd within
      by_numbers (n ∷ rest) e within =
          let least : ip_local ≤ n = within.0 in
          let most : n ≤ ip_local = within.1 in
          by_key n rest e (omega (arith, least, most)) (form.key_of rest) refl (laws.fitting rest within.2)

  -- what is above the numbers reached is above their key
  module _ (rest : List ℕ) (key : K) (is : form.key_of rest ≡ Some key) where
    module _ (reached : Reached) (it : ReachedKey reached) where
      key_is : form.key_of (drop 1 reached.numbers) ≡ Some it.key
      key_is = ap (λ numbers. form.key_of (drop 1 numbers)) it.named ∙ it.is

      order_is : lexical reached.numbers (ip_local ∷ rest) ≡ cmp it.key key
      order_is = ap (λ numbers. lexical numbers (ip_local ∷ rest)) it.named ∙ sym (laws.ordered it.key key it.rest rest it.is is)

      same_key : reached.numbers ≡ ip_local ∷ rest → it.key ≡ key
      same_key same =
          let rests : it.rest ≡ rest = ap (drop 1) (sym it.named ∙ same) in
          same_Some it.key key (sym it.is ∙ ap form.key_of rests ∙ is)

      same_numbers : it.key ≡ key → reached.numbers ≡ ip_local ∷ rest
      same_numbers same =
          it.named ∙ ap (λ more. ip_local ∷ more) (laws.exact it.rest it.key it.is ∙ ap form.numbers same ∙ sym (laws.exact rest key is))

    above_key : (o : Option Reached) → IfSome o (λ reached. AreWithin (ip_bounds ∷ form.bounds) reached.numbers)
        → IsAboveName lexical (option_map numbers_of o) (ip_local ∷ rest) ↔ IsAboveName cmp (key_from form o) key
    above_key None within = (λ a. a, λ a. a)
    above_key (Some reached) within =
        let it = reached_key reached within in
        rw (key_is reached it) (λ less. sym (order_is reached it) ∙ less, λ less. order_is reached it ∙ less)

    above_protocol : (protocol : ℕ) (o : Option Reached) → IfSome o (λ reached. AreWithin (ip_bounds ∷ form.bounds) reached.numbers)
        → IsAboveApplication lexical (option_map pair_of o) (ip_local ∷ rest, protocol) ↔ IsAboveApplication cmp (application_from form o) (key, protocol)
    above_protocol protocol None within = (λ a. a, λ a. a)
    above_protocol protocol (Some reached) within =
        let it = reached_key reached within in
        rw (key_is reached it) (
          λ a. elim a [ inl less ↦ inl (sym (order_is reached it) ∙ less) | inr same ↦ inr (same_key reached it same.0, same.1) ],
          λ a. elim a [ inl less ↦ inl (order_is reached it ∙ less) | inr same ↦ inr (same_numbers reached it same.0, same.1) ],
        )

module _ {P K N A : Type 0} (form : KeyForm K) {cmp : K → K → Ordering} (laws : IsForm form cmp) (eq : K → K → Bool) (exact : IsExact eq) (table_of : P → LayerTable K N A) (part : P) where
  abbrev table : LayerTable K N A
  table = table_of part

  abbrev pub Networks : K → ℕ → Type 0
  Networks = ShowsNetwork eq table.layered

  abbrev pub Applications : K × ℕ → ℕ → Type 0
  Applications = ShowsApplication eq table.layered

  -- the rows by their indexes
  abbrev pub is_network : List ℕ → Bool
  is_network index = is_some (row_with (network_place form) (λ one. network_counted eq (table_of one)) part index)

  abbrev pub is_application : List ℕ → Bool
  is_application index = is_some (row_with (application_place form) (λ one. application_counted eq (table_of one)) part index)

  -- what has counted something up to a mark stands there
  network_stands : (mark : ℕ) (key : K) → lasts_to mark (network_counted eq table key) ≡ true → StandsAt Networks mark key
  network_stands mark key lasts = by_row (row_of eq key table.layered.table.rows) refl lasts
    where
      by_row : (o : Option (Row K (NetworkRow N A))) → row_of eq key table.layered.table.rows ≡ o → lasts_to mark (network_in o) ≡ true → StandsAt Networks mark key
      by_row None e none = absurd (true≢false (sym none))
      by_row (Some row) e reaches = (row.tick, (row, e, refl), leb-true mark row.tick (by_created row.value.created reaches))
        where
          by_created : (created : Option ℕ) → lasts_to mark (counted_by row.tick created row.value.sums) ≡ true → nat_le mark row.tick ≡ true
          by_created None none = absurd (true≢false (sym none))
          by_created (Some created) reaches = reaches

  application_stands : (mark : ℕ) (x : K × ℕ) → lasts_to mark (application_counted eq table x) ≡ true → StandsAt Applications mark x
  application_stands mark x lasts = by_row (row_of eq x.0 table.layered.table.rows) refl lasts
    where
      by_row : (o : Option (Row K (NetworkRow N A))) → row_of eq x.0 table.layered.table.rows ≡ o → lasts_to mark (application_in_row table.layered.slots x.1 o) ≡ true → StandsAt Applications mark x
      by_row None e none = absurd (true≢false (sym none))
      by_row (Some row) e reaches = by_application (application_at x.1 (protocols table.layered.slots) (shown_all table.layered.slots row.value.applications)) refl reaches
        where
          by_application : (o : Option (Application A)) → application_at x.1 (protocols table.layered.slots) (shown_all table.layered.slots row.value.applications) ≡ o
              → lasts_to mark (counted o) ≡ true → StandsAt Applications mark x
          by_application None f none = absurd (true≢false (sym none))
          by_application (Some application) f reaches =
              (application.tick, (row, e, application_shown table.layered.slots row.value.applications x.1 application f), leb-true mark application.tick reaches)

  -- the index of a row that stands at a mark is that of a row
  network_there : AreSound eq table.layered.table.rows → (mark : ℕ) (key : K) → form.key_of (form.numbers key) ≡ Some key → StandsAt Networks mark key → is_network (network_index form mark key) ≡ true
  network_there sound mark key is stands =
      let row = stands.1.0 in
      let shows = shows_something eq exact key table.layered.table.rows row sound stands.1.1 in
      let reached : mark ≤ stands.0 = stands.2 in
      let last : stands.0 ≡ row.tick = stands.1.2 in
      let tick : shows.0.tick ≡ row.tick = shows.2 in
      let lasts : nat_le mark shows.0.tick ≡ true = le-leb mark shows.0.tick (omega (arith, reached, last, tick)) in
      rw (key_at form mark key is, shows.1, lasts) refl

  application_there : AreApart (protocols table.layered.slots) → (mark : ℕ) (key : K) (protocol : ℕ) → form.key_of (form.numbers key) ≡ Some key → StandsAt Applications mark (key, protocol)
      → is_application (application_index form mark (key, protocol)) ≡ true
  application_there apart mark key protocol is stands =
      let row = stands.1.0 in
      let shows = shown_application table.layered.slots row.value.applications protocol stands.0 apart stands.1.2 in
      let reached : mark ≤ stands.0 = stands.2 in
      let tick : stands.0 ≡ shows.0.tick = shows.2 in
      let lasts : nat_le mark shows.0.tick ≡ true = le-leb mark shows.0.tick (omega (arith, reached, tick)) in
      rw (protocol_at form laws mark key protocol is, stands.1.1, shows.1, lasts) refl

  -- and each index of a row is that of one that stands
  record IsNetwork (name : List ℕ) : Type 0 where
    mark : ℕ
    key : K
    rest : List ℕ
    named : name ≡ mark ∷ ip_local ∷ rest
    is : form.key_of rest ≡ Some key
    stands : StandsAt Networks mark key

  network_named : (name : List ℕ) → is_network name ≡ true → IsNetwork name
  network_named name e = by_place (network_place form name) refl e
    where
      tested : (b : Bool) (key : K) → is_some (cond b (Some key) None) ≡ true → b ≡ true
      tested true key f = refl
      tested false key f = f

      at_this : Option (ℕ × K) → Option K
      at_this None = None
      at_this (Some place) = cond (lasts_to place.0 (network_counted eq table place.1)) (Some place.1) None

      by_place : (o : Option (ℕ × K)) → network_place form name ≡ o → is_some (at_this o) ≡ true → IsNetwork name
      by_place None f none = absurd (true≢false (sym none))
      by_place (Some place) f some =
          let it = key_named form name place f in
          record { mark = place.0; key = place.1; rest = it.rest; named = it.named; is = it.is; stands = network_stands place.0 place.1 (tested (lasts_to place.0 (network_counted eq table place.1)) place.1 some) }

  record IsApplication (name : List ℕ) : Type 0 where
    mark : ℕ
    key : K
    protocol : ℕ
    rest : List ℕ
    named : name ≡ mark ∷ ip_local ∷ (rest ++ protocol ∷ [])
    is : form.key_of rest ≡ Some key
    stands : StandsAt Applications mark (key, protocol)

  application_named : (name : List ℕ) → is_application name ≡ true → IsApplication name
  application_named name e = by_place (application_place form name) refl e
    where
      tested : (b : Bool) (x : K × ℕ) → is_some (cond b (Some x) None) ≡ true → b ≡ true
      tested true x f = refl
      tested false x f = f

      at_this : Option (ℕ × (K × ℕ)) → Option (K × ℕ)
      at_this None = None
      at_this (Some place) = cond (lasts_to place.0 (application_counted eq table place.1)) (Some place.1) None

      by_place : (o : Option (ℕ × (K × ℕ))) → application_place form name ≡ o → is_some (at_this o) ≡ true → IsApplication name
      by_place None f none = absurd (true≢false (sym none))
      by_place (Some place) f some =
          let it = protocol_named form name place f in
          record {
            mark = place.0;
            key = place.1.0;
            protocol = place.1.1;
            rest = it.rest;
            named = it.named;
            is = it.is;
            stands = application_stands place.0 place.1 (tested (lasts_to place.0 (application_counted eq table place.1)) place.1 some);
          }

  module _ (numbers : List ℕ) (place : WalkPlace) (behind : IsWalkPlace (ip_bounds ∷ form.bounds) numbers place) where
    within_ip : (rest : List ℕ) (key : K) → form.key_of rest ≡ Some key → AreWithin (ip_bounds ∷ form.bounds) (ip_local ∷ rest)
    within_ip rest key is = (omega arith, omega arith, laws.within rest key is)

    -- network rows
    abbrev pub IsNextNetwork : Option (ℕ × K) → Type 0
    IsNextNetwork next = IsNextInstance cmp Networks place.mark (IsAboveName cmp (key_from form place.reached)) next

    network_above : (mark : ℕ) (rest : List ℕ) (key : K) → form.key_of rest ≡ Some key → Below numbers (mark ∷ ip_local ∷ rest) → IsAboveAt place.mark (IsAboveName cmp (key_from form place.reached)) (mark, key)
    network_above mark rest key is below =
        risen (IsAboveName lexical (option_map numbers_of place.reached)) (IsAboveName cmp (key_from form place.reached)) place.mark mark (ip_local ∷ rest) key
        (above_key form laws rest key is place.reached behind.within).0 ((behind.rows mark (ip_local ∷ rest) (within_ip rest key is)).0 below)

    network_below : (mark : ℕ) (rest : List ℕ) (key : K) → form.key_of rest ≡ Some key → IsAboveAt place.mark (IsAboveName cmp (key_from form place.reached)) (mark, key) → Below numbers (mark ∷ ip_local ∷ rest)
    network_below mark rest key is above =
        (behind.rows mark (ip_local ∷ rest) (within_ip rest key is)).1 (risen (IsAboveName cmp (key_from form place.reached)) (IsAboveName lexical (option_map numbers_of place.reached)) place.mark mark key (ip_local ∷ rest)
        (above_key form laws rest key is place.reached behind.within).1 above)

    pub no_network : IsNextNetwork None → IsLeastAbove is_network numbers None
    no_network next = λ name below. elim (cases_Bool (is_network name)) [
      | inl e ↦ let it = network_named name e in absurd (next (it.mark, it.key) it.stands (network_above it.mark it.rest it.key it.is (subst (Below numbers) it.named below)))
      | inr e ↦ e
    ]

    pub least_network : AreSound eq table.layered.table.rows → (mark : ℕ) (key : K) → form.key_of (form.numbers key) ≡ Some key → IsNextNetwork (Some (mark, key)) → IsLeastAbove is_network numbers (Some (network_index form mark key))
    least_network sound mark key is next = (
      network_below mark (form.numbers key) key is next.1,
      network_there sound mark key is next.0,
      λ name below under. elim (cases_Bool (is_network name)) [
        | inl e ↦
            let it = network_named name e in
            absurd (next.2 (it.mark, it.key) it.stands (network_above it.mark it.rest it.key it.is (subst (Below numbers) it.named below))
            (ap (ordering_then (nat_cmp it.mark mark)) (laws.ordered it.key key it.rest (form.numbers key) it.is is) ∙ subst (λ n. Below n (network_index form mark key)) it.named under))
        | inr e ↦ e
      ],
    )

    -- application rows
    abbrev pub IsNextApplication : Option (ℕ × (K × ℕ)) → Type 0
    IsNextApplication next = IsNextInstance (pair_cmp cmp nat_cmp) Applications place.mark (IsAboveApplication cmp (application_from form place.reached)) next

    application_above : (mark : ℕ) (rest : List ℕ) (key : K) (protocol : ℕ) → form.key_of rest ≡ Some key → Below numbers (mark ∷ ip_local ∷ (rest ++ protocol ∷ []))
        → IsAboveAt place.mark (IsAboveApplication cmp (application_from form place.reached)) (mark, (key, protocol))
    application_above mark rest key protocol is below =
        risen (IsAboveApplication lexical (option_map pair_of place.reached)) (IsAboveApplication cmp (application_from form place.reached)) place.mark mark (ip_local ∷ rest, protocol) (key, protocol) (above_protocol form laws rest key is protocol place.reached behind.within).0
        (behind.above mark (ip_local ∷ rest) protocol (within_ip rest key is) below)

    pub no_application : IsNextApplication None → IsLeastAbove is_application numbers None
    no_application next = λ name below. elim (cases_Bool (is_application name)) [
      | inl e ↦
          let it = application_named name e in
          absurd (next (it.mark, (it.key, it.protocol)) it.stands (application_above it.mark it.rest it.key it.protocol it.is (subst (Below numbers) it.named below)))
      | inr e ↦ e
    ]

    pub least_application : AreApart (protocols table.layered.slots) → (mark : ℕ) (key : K) (protocol : ℕ) → form.key_of (form.numbers key) ≡ Some key → protocol < 2 ^ 32 → IsNextApplication (Some (mark, (key, protocol)))
        → IsLeastAbove is_application numbers (Some (application_index form mark (key, protocol)))
    least_application apart mark key protocol is few next = (
      behind.below mark (ip_local ∷ form.numbers key) protocol (within_ip (form.numbers key) key is) few
          (risen (IsAboveApplication cmp (application_from form place.reached)) (IsAboveApplication lexical (option_map pair_of place.reached)) place.mark mark (key, protocol) (ip_local ∷ form.numbers key, protocol) (above_protocol form laws (form.numbers key) key is protocol place.reached behind.within).1 next.1),
      application_there apart mark key protocol is next.0,
      λ name below under. elim (cases_Bool (is_application name)) [
        | inl e ↦
            let it = application_named name e in
            let long : length it.rest ≡ length (form.numbers key) = laws.long it.rest it.key it.is ∙ sym (laws.long (form.numbers key) key is) in
            let order : lexical (it.rest ++ it.protocol ∷ []) (form.numbers key ++ protocol ∷ []) ≡ ordering_then (cmp it.key key) (nat_cmp it.protocol protocol) =
            joined it.rest (form.numbers key) (it.protocol ∷ []) (protocol ∷ []) long
            ∙ (λ d. ordering_then (sym (laws.ordered it.key key it.rest (form.numbers key) it.is is) d) (alone it.protocol protocol d)) in
            absurd (next.2 (it.mark, (it.key, it.protocol)) it.stands (application_above it.mark it.rest it.key it.protocol it.is (subst (Below numbers) it.named below))
            (ap (ordering_then (nat_cmp it.mark mark)) (sym order) ∙ subst (λ n. Below n (application_index form mark (key, protocol))) it.named under))
        | inr e ↦ e
      ],
    )
