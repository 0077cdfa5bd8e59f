-- The row of a host that is held.
use Rattle.std.proofs.Common.{◌≡◌, ℕ, ◌%◌, ◌^◌, Bool, true, false, cond, ◌||◌, List, [], ◌∷◌, refl, sym, ap, ◌∙◌, subst, Option, Some, None}
use Rattle.std.specs.Prelude.{sum_by, unwrap_or}
use Rattle.std.specs.Option.{option_map, option_map_or}
use Rattle.std.specs.List.{AllByRecursion}
use Rattle.std.specs.Str.{bytes_eq}
use Rattle.std.proofs.lemmas.Bool.{true≢false}
use Rattle.rm_evicting.specs.declared.Row.{Row}
use Rattle.rm_evicting.specs.Mention.{keys}
use Rattle.rm_evicting.specs.Held.{entry, held, shares}
use Rattle.rm_evicting.specs.Row.{holds}
use Rattle.rm_evicting.specs.Stands.{IsTotal, IsRow, Stands, total}
use Rattle.rm_rows.specs.Table.{entry_of, row_of, value_of}
use Rattle.rm_hosts.specs.declared.host_counts.HostCounts.{HostCounts}
use Rattle.rm_hosts.specs.Counts.{no_counts, with_gain}
use Rattle.rm_hosts.specs.Indexed.{exact}
use Rattle.rm_hosts.specs.Mentions.{HostMention}
use Rattle.rm_hosts.specs.Shown.{Entries}
use Rattle.rm_report.specs.declared.rate_base.RateBase.{RateBase}
use Rattle.rm_report.specs.declared.rate_base.RateBase.TheVariants.{InPkts, OutPkts, InOctets, OutOctets, OutErrors, OutBroadcastPkts, OutMulticastPkts}
use Rattle.rm_report.specs.RateBase.{count_of}
use Rattle.rm_report.specs.Copies.{copy_in}
use Rattle.rm_report.proofs.Gained.{column_kept}

-- a counter that is kept is the sum of what was gained
pub counter_kept : (base : RateBase) (gains : List HostCounts) → count_of base (total no_counts with_gain gains) ≡ sum_by (count_of base) gains % 2 ^ 64
counter_kept InPkts gains = column_kept no_counts with_gain (count_of InPkts) (count_of InPkts) refl (λ sum gain. refl) gains
counter_kept OutPkts gains = column_kept no_counts with_gain (count_of OutPkts) (count_of OutPkts) refl (λ sum gain. refl) gains
counter_kept InOctets gains = column_kept no_counts with_gain (count_of InOctets) (count_of InOctets) refl (λ sum gain. refl) gains
counter_kept OutOctets gains = column_kept no_counts with_gain (count_of OutOctets) (count_of OutOctets) refl (λ sum gain. refl) gains
counter_kept OutErrors gains = column_kept no_counts with_gain (count_of OutErrors) (count_of OutErrors) refl (λ sum gain. refl) gains
counter_kept OutBroadcastPkts gains = column_kept no_counts with_gain (count_of OutBroadcastPkts) (count_of OutBroadcastPkts) refl (λ sum gain. refl) gains
counter_kept OutMulticastPkts gains = column_kept no_counts with_gain (count_of OutMulticastPkts) (count_of OutMulticastPkts) refl (λ sum gain. refl) gains

-- the row of a key, where it is found
found_row : (P : Row (List ℕ) HostCounts → Type 0) (key : List ℕ) (rows : Entries) (row : Row (List ℕ) HostCounts) → AllByRecursion P rows → row_of bytes_eq key rows ≡ Some row → P row × (bytes_eq key row.key ≡ true)
found_row P key [] row all here = cc
found_row P key (first ∷ rows) row all here = go (bytes_eq key first.key) refl here (found_row P key rows row all.1)
  where
    go : (t : Bool) → bytes_eq key first.key ≡ t → cond t (Some first) (row_of bytes_eq key rows) ≡ Some row → (row_of bytes_eq key rows ≡ Some row → P row × (bytes_eq key row.key ≡ true)) → P row × (bytes_eq key row.key ≡ true)
    go true is here rest = let same : first ≡ row = cc in (subst P same all.0, subst (λ r. bytes_eq key r.key ≡ true) same is)
    go false is here rest = rest here

none_row : (key : List ℕ) (rows : Entries) → row_of bytes_eq key rows ≡ None → holds bytes_eq key rows ≡ false
none_row key [] none = refl
none_row key (first ∷ rows) none = go (bytes_eq key first.key) none (none_row key rows)
  where
    go : (t : Bool) → cond t (Some first) (row_of bytes_eq key rows) ≡ None → (row_of bytes_eq key rows ≡ None → holds bytes_eq key rows ≡ false) → (t || holds bytes_eq key rows) ≡ false
    go true none rest = cc
    go false none rest = rest none

module _ (base : RateBase) (capacity : ℕ) (mentions : List HostMention) (rows : Entries) (stands : Stands bytes_eq (IsTotal no_counts with_gain) capacity mentions rows) where
  abbrev sum_now : List ℕ → ℕ
  sum_now key = sum_by (count_of base) (shares bytes_eq capacity key mentions)

  abbrev entry_now : List ℕ → ℕ
  entry_now key = entry bytes_eq capacity key mentions

  -- the copy of a host that is held has its entry, and its sum
  pub copy_is : (key : List ℕ) → held bytes_eq capacity key (keys mentions) ≡ true → copy_in base rows key ≡ record { entry = entry_now key; count = sum_now key % 2 ^ 64 }
  copy_is key is = go (row_of bytes_eq key rows) refl
    where
      go : (o : Option (Row (List ℕ) HostCounts)) → row_of bytes_eq key rows ≡ o → copy_in base rows key ≡ record { entry = entry_now key; count = sum_now key % 2 ^ 64 }
      go None e = absurd (true≢false (sym is ∙ sym (stands.held key) ∙ none_row key rows e))
      go (Some row) e =
          let its = found_row (IsRow bytes_eq (IsTotal no_counts with_gain) capacity mentions) key rows row stands.each e in
          let same : key ≡ row.key = exact.same key row.key its.1 in
          let entered : row.entry ≡ entry_now key = its.0.entry ∙ ap (λ k. entry bytes_eq capacity k mentions) (sym same) in
          let counted : count_of base row.value ≡ sum_now key % 2 ^ 64 =
          ap (count_of base) its.0.value ∙ counter_kept base (shares bytes_eq capacity row.key mentions)
          ∙ ap (λ k. sum_by (count_of base) (shares bytes_eq capacity k mentions) % 2 ^ 64) (sym same) in
          ap (λ (o : Option (Row (List ℕ) HostCounts)). record { entry = unwrap_or (option_map entry_of o) 0; count = option_map_or (count_of base) (option_map value_of o) 0 }) e
          ∙ (λ d. record { entry = entered d; count = counted d })
