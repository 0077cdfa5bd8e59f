-- A report that ends shows what the definition says.
use Rattle.std.proofs.Common.{◌≡◌, ℕ, ◌*◌, List, [], ◌∷◌, length, filter, map, refl, sym, ap, ◌∙◌, subst, true, false}
use Rattle.std.specs.List.{AllByRecursion}
use Rattle.std.specs.List.Sorted.{IsPermutation}
use Rattle.std.specs.Str.{bytes_eq}
use Rattle.rm_model.specs.Counting.{Counting}
use Rattle.rm_model.specs.Journal.{Journal, frames_in}
use Rattle.rm_model.specs.ControlRows.{is_valid}
use Rattle.rm_evicting.specs.Mention.{keys}
use Rattle.rm_evicting.specs.Held.{distinct, entry, held, held_keys}
use Rattle.rm_evicting.specs.Stands.{IsTotal, Stands}
use Rattle.rm_evicting.proofs.Recency.{IsApart, distinct-apart, each_among}
use Rattle.rm_evicting.proofs.RowLemmas.{apart_by_entry, each-weaker}
use Rattle.rm_evicting.specs.Stands.{IsRow}
use Rattle.rm_evicting.proofs.RankLemmas.{apart-filter, members}
use Rattle.rm_rows.specs.Table.{keys_of}
use Rattle.rm_keyed.proofs.MentionLaws.{mentions_idle}
use Rattle.rm_hosts.specs.Control.{host_control, control_state}
use Rattle.rm_hosts.specs.Counts.{no_counts, with_gain}
use Rattle.rm_hosts.specs.Indexed.{exact}
use Rattle.rm_hosts.specs.Mentions.{HostMention, mentioned, mentions_of}
use Rattle.rm_hosts.specs.Shown.{Entries}
use Rattle.rm_hosts.specs.Tables.{HostTable, IsTable}
use Rattle.rm_report.specs.declared.copied.Copied.{Copied}
use Rattle.rm_report.specs.declared.ranked.Ranked.{Ranked}
use Rattle.rm_report.specs.declared.rate_base.RateBase.{RateBase}
use Rattle.rm_report.specs.RateBase.{count_of}
use Rattle.rm_report.specs.Copies.{AreCopies, copy_in}
use Rattle.rm_report.specs.Linked.{IsLinked}
use Rattle.rm_report.specs.Measured.{IsMeasured}
use Rattle.rm_report.specs.Ranking.{AreFirst, IsReport, gains_something, rated, with_rate}
use Rattle.rm_report.specs.Rates.{hosts_held, mentions_after, rate_of}
use Rattle.rm_report.proofs.Bounds.{sum_bounded}
use Rattle.rm_report.proofs.Gained.{gains_since}
use Rattle.rm_report.proofs.Linking.{early_before, mentions_go}
use Rattle.rm_report.proofs.Reported.{reported}
use Rattle.rm_report.proofs.Standing.{held_copied, keys_held, others_held, rated_is, rising}

map_same : {X Y : Type 0} (f g : X → Y) (xs : List X) → AllByRecursion (λ x. f x ≡ g x) xs → map f xs ≡ map g xs
map_same f g [] all = refl
map_same f g (x ∷ xs) all = λ d. all.0 d ∷ map_same f g xs all.1 d

module _ (settings : Counting) (journal : Journal) (row : ℕ) (table : HostTable) (is : IsTable settings journal row table) where
  abbrev rows : Entries
  rows = table.rows.keyed.rows.rows

  abbrev now : List HostMention
  now = mentions_of settings journal row

  stands : Stands bytes_eq (IsTotal no_counts with_gain) settings.hosts now rows
  stands = subst (λ capacity. Stands bytes_eq (IsTotal no_counts with_gain) capacity now rows) is.capacity is.means.rows

  -- the copies of the hosts of the table are those of the row
  pub are_copies : (base : RateBase) → AreCopies settings journal row base (map (copy_in base rows) (keys_of rows))
  are_copies base = record {
    rising = rising base settings.hosts now rows stands;
    held = held_copied base settings.hosts now rows stands;
    others = others_held base settings.hosts now rows stands;
  }

  held_apart : IsApart bytes_eq exact (hosts_held settings journal row)
  held_apart = apart-filter bytes_eq exact (λ k. held bytes_eq settings.hosts k (keys now)) (distinct bytes_eq (keys now)) (distinct-apart bytes_eq exact (keys now))

  keys_apart : IsApart bytes_eq exact (keys_of rows)
  keys_apart =
      apart_by_entry bytes_eq exact (λ h. entry bytes_eq settings.hosts h now) rows
      (each-weaker (IsRow bytes_eq (IsTotal no_counts with_gain) settings.hosts now) (λ row. row.entry ≡ entry bytes_eq settings.hosts row.key now) (λ row its. its.entry) rows stands.each) stands.order

  module _ (base : RateBase) (from : Journal) (linked : IsLinked from journal row) (measured : IsMeasured settings journal) (copies : List Copied) (are : AreCopies settings from row base copies) where
    abbrev rate : List ℕ → ℕ
    rate = rate_of settings from journal row (count_of base)

    rated_each : AllByRecursion (λ a. rated base copies rows a ≡ with_rate (rate a) a) (keys_of rows)
    rated_each = each_among bytes_eq exact (λ a. rated base copies rows a ≡ with_rate (rate a) a) (keys_of rows) (λ a among.
        let here : held bytes_eq settings.hosts a (keys now) ≡ true = sym (keys_held base settings.hosts now rows stands a) ∙ among in
        rated_is base settings.hosts (2 * length (frames_in from)) (mentions_of settings from row) copies (early_before settings from journal row) are.held are.others
        now (mentions_after settings from journal row) rows stands a here
        (gains_since bytes_eq exact settings.hosts (count_of base) (2 * length (frames_in from)) a (mentions_of settings from row) now (mentions_after settings from journal row)
        (mentions_go settings from journal row linked) here (sum_bounded settings base a journal row measured)))

    pub ended : (most : ℕ) (unsorted ranked : List Ranked) → unsorted ≡ filter gains_something (map (rated base copies rows) (keys_of rows)) → AreFirst most unsorted ranked
        → IsReport rate (hosts_held settings journal row) most ranked
    ended most unsorted ranked are_rated first =
        subst (λ (rs : List Ranked). IsReport rate (hosts_held settings journal row) most rs) (sym first.first)
        (reported exact rate (hosts_held settings journal row) (keys_of rows) held_apart keys_apart (members bytes_eq exact (IsTotal no_counts with_gain) settings.hosts now rows stands) first.placed
        (subst (λ (rs : List Ranked). IsPermutation rs first.placed) (are_rated ∙ ap (filter gains_something) (map_same (rated base copies rows) (λ a. with_rate (rate a) a) (keys_of rows) rated_each)) first.moved)
        first.order most)

-- of a row that isn't valid none is held
module _ (settings : Counting) (journal : Journal) (row : ℕ) (idle : is_valid (control_state journal (row ∷ [])) ≡ false) where
  no_mentions : mentions_of settings journal row ≡ []
  no_mentions = mentions_idle host_control (mentioned settings) journal row idle

  none_held : hosts_held settings journal row ≡ []
  none_held = ap (λ (mentions : List HostMention). held_keys bytes_eq settings.hosts (keys mentions)) no_mentions

  pub no_copies : (base : RateBase) → AreCopies settings journal row base []
  no_copies base = record {
    rising = tt;
    held = λ address is. absurd (none address is);
    others = λ stamp some. absurd (no_one some);
  }
    where
      no_one : false ≡ true → ⊥
      no_one e = cc

      none : (address : List ℕ) → held bytes_eq settings.hosts address (keys (mentions_of settings journal row)) ≡ true → ⊥
      none address is = no_one (sym (ap (λ (mentions : List HostMention). held bytes_eq settings.hosts address (keys mentions)) no_mentions) ∙ is)

  pub ended_idle : (rate : List ℕ → ℕ) (most : ℕ) (ranked : List Ranked) → AreFirst most [] ranked → IsReport rate (hosts_held settings journal row) most ranked
  ended_idle rate most ranked first =
      subst (λ (held : List (List ℕ)). IsReport rate held most ranked) (sym none_held)
      (subst (λ (rs : List Ranked). IsReport rate [] most rs) (sym first.first) (reported exact rate [] [] tt tt (λ a. refl) first.placed first.moved first.order most))
