-- The copies of the hosts of a table, and what these hosts have gained since copies were taken.
use Rattle.std.proofs.Common.{◌≡◌, ℕ, ◌+◌, ◌-◌, ◌%◌, ◌^◌, ◌<◌, ◌≤◌, Bool, true, false, cond, ◌||◌, List, [], ◌∷◌, length, map, refl, sym, ap, ◌∙◌, arith, subst, Option, Some, None, get_or, nat_eq}
use Rattle.std.specs.Prelude.{is_some, sum_by}
use Rattle.std.specs.Option.{option_map_or}
use Rattle.std.specs.List.{list_any, AllByRecursion}
use Rattle.std.specs.Str.{bytes_eq}
use Rattle.std.proofs.lemmas.Bool.{and_parts, true≢false}
use Rattle.std.proofs.lemmas.Bool.Decides.{nat_tests}
use Rattle.std.proofs.lemmas.List.{get_or-map, length-map}
use Rattle.std.proofs.lemmas.Option.{get_or_from_slice_get, slice_get_within}
use Rattle.rm_evicting.specs.Mention.{keys}
use Rattle.rm_evicting.specs.Held.{AllBefore, entry, gains, held, shares, since_entry}
use Rattle.rm_evicting.specs.Row.{holds}
use Rattle.rm_evicting.specs.Stands.{IsByEntry, IsTotal, IsRow, Stands}
use Rattle.rm_evicting.proofs.RowLemmas.{each_held, holds-keys}
use Rattle.rm_evicting.proofs.Stamps.{entry_before}
use Rattle.rm_rows.specs.Table.{keys_of}
use Rattle.rm_hosts.specs.Counts.{no_counts, with_gain}
use Rattle.rm_hosts.specs.Indexed.{exact}
use Rattle.rm_hosts.specs.Mentions.{HostMention}
use Rattle.rm_hosts.specs.Shown.{Entries}
use Rattle.rm_report.specs.declared.copied.Copied.{Copied}
use Rattle.rm_report.specs.declared.rate_base.RateBase.{RateBase}
use Rattle.rm_report.specs.RateBase.{count_of}
use Rattle.rm_report.specs.Copies.{AreRising, copied_count, copy_in, copy_with}
use Rattle.rm_report.specs.Ranking.{rated, with_rate}
use Rattle.rm_report.proofs.Copying.{found_at}
use Rattle.rm_report.proofs.Gained.{Gains, by_difference, by_itself}
use Rattle.rm_report.specs.Rates.{shorter}
use Rattle.rm_report.proofs.Reported.{among_at}
use Rattle.rm_report.proofs.RowLaws.{copy_is}

-- a copy that is found has its stamp
found_some : (f : List ℕ → Copied) (xs : List (List ℕ)) (stamp : ℕ) → is_some (copy_with (map f xs) stamp) ≡ true
    → (address : List ℕ) × (list_any (bytes_eq address) xs ≡ true) × ((f address).entry ≡ stamp)
found_some f [] stamp some = absurd (true≢false (sym some))
found_some f (x ∷ xs) stamp some = go (nat_eq (f x).entry stamp) refl some (found_some f xs stamp)
  where
    same : (m n : ℕ) → nat_eq m n ≡ true → m ≡ n
    same m n e = grind (arith, nat_tests)

    later : {b : Bool} (a : Bool) → b ≡ true → (a || b) ≡ true
    later true is = refl
    later false is = is

    go : (t : Bool) → nat_eq (f x).entry stamp ≡ t → is_some (cond t (Some (f x)) (copy_with (map f xs) stamp)) ≡ true
        → (is_some (copy_with (map f xs) stamp) ≡ true → (address : List ℕ) × (list_any (bytes_eq address) xs ≡ true) × ((f address).entry ≡ stamp))
        → (address : List ℕ) × (list_any (bytes_eq address) (x ∷ xs) ≡ true) × ((f address).entry ≡ stamp)
    go true e some rest = (x, ap (λ b. b || list_any (bytes_eq x) xs) (exact.itself x), same (f x).entry stamp e)
    go false e some rest = let more = rest some in (more.0, later (bytes_eq more.0 x) more.1, more.2)

module _ (base : RateBase) (capacity : ℕ) (mentions : List HostMention) (rows : Entries) (stands : Stands bytes_eq (IsTotal no_counts with_gain) capacity mentions rows) where
  abbrev copies : List Copied
  copies = map (copy_in base rows) (keys_of rows)

  abbrev is_held : List ℕ → Bool
  is_held address = held bytes_eq capacity address (keys mentions)

  -- the keys of the rows are held
  pub keys_held : (address : List ℕ) → list_any (bytes_eq address) (keys_of rows) ≡ is_held address
  keys_held address = sym (holds-keys bytes_eq exact address rows) ∙ stands.held address

  -- each copy has the entry of its row
  entries_same : (some : Entries) → AllByRecursion (λ row. holds bytes_eq row.key rows ≡ true) some → AllByRecursion (IsRow bytes_eq (IsTotal no_counts with_gain) capacity mentions) some
      → AllByRecursion (λ row. (copy_in base rows row.key).entry ≡ row.entry) some
  entries_same [] among each = tt
  entries_same (row ∷ some) among each =
      (ap (λ (c : Copied). c.entry) (copy_is base capacity mentions rows stands row.key (sym (stands.held row.key) ∙ among.0)) ∙ sym each.0.entry, entries_same some among.1 each.1)

  all_same : AllByRecursion (λ row. (copy_in base rows row.key).entry ≡ row.entry) rows
  all_same = entries_same rows (each_held bytes_eq exact rows) stands.each

  above_all : (low : ℕ) (some : Entries) → AllByRecursion (λ row. (copy_in base rows row.key).entry ≡ row.entry) some → AllByRecursion (λ other. low < other.entry) some
      → AllByRecursion (λ other. low < other.entry) (map (copy_in base rows) (keys_of some))
  above_all low [] same above = tt
  above_all low (row ∷ some) same above = (subst (λ n. low < n) (sym same.0) above.0, above_all low some same.1 above.1)

  rising_all : (some : Entries) → AllByRecursion (λ row. (copy_in base rows row.key).entry ≡ row.entry) some → IsByEntry some → AreRising (map (copy_in base rows) (keys_of some))
  rising_all [] same order = tt
  rising_all (row ∷ some) same order =
      (subst (λ n. AllByRecursion (λ other. n < other.entry) (map (copy_in base rows) (keys_of some))) (sym same.0) (above_all row.entry some same.1 order.0), rising_all some same.1 order.1)

  pub rising : AreRising copies
  rising = rising_all rows all_same stands.order

  pub held_copied : (address : List ℕ) → is_held address ≡ true
      → copy_with copies (entry bytes_eq capacity address mentions) ≡ Some (record { entry = entry bytes_eq capacity address mentions; count = sum_by (count_of base) (shares bytes_eq capacity address mentions) % 2 ^ 64 })
  held_copied address is =
      let at = among_at bytes_eq exact address (keys_of rows) (keys_held address ∙ is) in
      let its : copy_in base rows address ≡ record { entry = entry bytes_eq capacity address mentions; count = sum_by (count_of base) (shares bytes_eq capacity address mentions) % 2 ^ 64 } =
      copy_is base capacity mentions rows stands address is in
      let within : at.0 < length (keys_of rows) = slice_get_within (keys_of rows) at.0 address at.1 in
      let d = copy_in base rows address in
      let here : get_or copies at.0 d ≡ copy_in base rows address =
      get_or-map (copy_in base rows) (keys_of rows) at.0 address d within ∙ ap (copy_in base rows) (get_or_from_slice_get (keys_of rows) at.0 address address at.1) in
      found_at copies at.0 d (entry bytes_eq capacity address mentions) rising (omega (arith, length-map (keys_of rows) (copy_in base rows))) (ap (λ (c : Copied). c.entry) (here ∙ its))
      ∙ ap Some (here ∙ its)

  pub others_held : (stamp : ℕ) → is_some (copy_with copies stamp) ≡ true → (address : List ℕ) × (is_held address ≡ true) × (stamp ≡ entry bytes_eq capacity address mentions)
  others_held stamp some =
      let found = found_some (copy_in base rows) (keys_of rows) stamp some in
      let is : is_held found.0 ≡ true = sym (keys_held found.0) ∙ found.1 in
      (found.0, is, sym found.2 ∙ ap (λ (c : Copied). c.entry) (copy_is base capacity mentions rows stands found.0 is))

-- What hosts have gained since copies were taken of those that were held after earlier mentions, whose stamps are all below a least one.
module _ (base : RateBase) (capacity least : ℕ) (early : List HostMention) (copies : List Copied) (before : AllBefore least early)
    (copied : (address : List ℕ) → held bytes_eq capacity address (keys early) ≡ true
    → copy_with copies (entry bytes_eq capacity address early) ≡ Some (record { entry = entry bytes_eq capacity address early; count = sum_by (count_of base) (shares bytes_eq capacity address early) % 2 ^ 64 }))
    (others : (stamp : ℕ) → is_some (copy_with copies stamp) ≡ true → (address : List ℕ) × (held bytes_eq capacity address (keys early) ≡ true) × (stamp ≡ entry bytes_eq capacity address early)) where
  -- no copy has a later stamp
  no_copy : (stamp : ℕ) → least ≤ stamp → copied_count copies stamp ≡ 0
  no_copy stamp le = go (copy_with copies stamp) refl
    where
      go : (o : Option Copied) → copy_with copies stamp ≡ o → option_map_or (λ c. c.count) o 0 ≡ 0
      go None e = refl
      go (Some c) e =
          let other = others stamp (ap is_some e) in
          let came : list_any (bytes_eq other.0) (keys early) ≡ true = (and_parts (list_any (bytes_eq other.0) (keys early)) _ other.1).0 in
          let below : entry bytes_eq capacity other.0 early < least = entry_before bytes_eq exact capacity least early before other.0 came in
          absurd (omega (arith, other.2))

  module _ (mentions after : List HostMention) (rows : Entries) (stands : Stands bytes_eq (IsTotal no_counts with_gain) capacity mentions rows) (address : List ℕ) where
    abbrev rate : ℕ
    rate = sum_by (count_of base) (gains bytes_eq address (shorter (since_entry bytes_eq capacity address mentions) after))

    abbrev differ : (sum copied : ℕ) → ℕ
    differ sum copied = (sum + (2 ^ 64 - copied)) % 2 ^ 64

    abbrev sum_now : ℕ
    sum_now = sum_by (count_of base) (shares bytes_eq capacity address mentions) % 2 ^ 64

    with_copy : Gains bytes_eq exact capacity (count_of base) least early mentions after address → differ sum_now (copied_count copies (entry bytes_eq capacity address mentions)) ≡ rate
    with_copy (by_difference was same gained) =
        ap (λ stamp. differ sum_now (copied_count copies stamp)) same
        ∙ ap (λ (o : Option Copied). differ sum_now (option_map_or (λ c. c.count) o 0)) (copied address was)
        ∙ gained
    with_copy (by_itself le gained) = ap (differ sum_now) (no_copy (entry bytes_eq capacity address mentions) le) ∙ gained

    pub rated_is : held bytes_eq capacity address (keys mentions) ≡ true → Gains bytes_eq exact capacity (count_of base) least early mentions after address
        → rated base copies rows address ≡ with_rate rate address
    rated_is is gained =
        ap (λ (now : Copied). with_rate (differ now.count (copied_count copies now.entry)) address) (copy_is base capacity mentions rows stands address is)
        ∙ ap (λ n. with_rate n address) (with_copy gained)
