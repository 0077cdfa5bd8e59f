-- The frames that a row has seen since an earlier journal.
use Rattle.std.proofs.Common.{◌≡◌, ℕ, ◌<◌, ◌≤◌, Bool, true, false, cond, ◌&&◌, List, [], ◌∷◌, length, filter, refl, ap, ◌∙◌, arith}
use Rattle.std.specs.Prelude.{nat_le}
use Rattle.std.specs.List.{AllByRecursion}
use Rattle.std.proofs.lemmas.Bool.Decides.{nat_tests}
use Rattle.rm_model.specs.Journal.{Act, Journal, passes, assigns, samples, frames_in}
use Rattle.rm_model.specs.ControlTable.{ControlTable}
use Rattle.rm_model.specs.ControlRows.{no_rows, is_valid, state_of, stays_valid}
use Rattle.rm_acts.specs.Seen.{Seen, seen_since, with_act}
use Rattle.rm_evicting.proofs.RowLemmas.{each-weaker}

-- a frame was seen before a journal ended
abbrev pub IsEarlier : Journal → Seen → Type 0
IsEarlier journal seen = (length seen.before < length journal) × (length (frames_in seen.before) < length (frames_in journal))

module _ (table : ControlTable) (index : List ℕ) where
  with_one : (act : Act) (earlier : Journal) (seen : List Seen) → AllByRecursion (IsEarlier earlier) seen → AllByRecursion (IsEarlier (act ∷ earlier)) (with_act act earlier seen)
  with_one (passes frame) earlier seen all = ((omega arith, omega arith), each-weaker (IsEarlier earlier) (IsEarlier (passes frame ∷ earlier)) (λ one is. (omega (arith, is.0), omega (arith, is.1))) seen all)
  with_one (assigns moment values) earlier seen all = each-weaker (IsEarlier earlier) (IsEarlier (assigns moment values ∷ earlier)) (λ one is. (omega (arith, is.0), is.1)) seen all
  with_one (samples moment alarm reading) earlier seen all = each-weaker (IsEarlier earlier) (IsEarlier (samples moment alarm reading ∷ earlier)) (λ one is. (omega (arith, is.0), is.1)) seen all

  -- each frame that was seen passed before the journal ended
  pub seen_earlier : (journal : Journal) → AllByRecursion (IsEarlier journal) (seen_since table no_rows journal index)
  seen_earlier [] = tt
  seen_earlier (act ∷ earlier) = go (stays_valid table no_rows act earlier index) (with_one act earlier (seen_since table no_rows earlier index) (seen_earlier earlier))
    where
      go : (t : Bool) → AllByRecursion (IsEarlier (act ∷ earlier)) (with_act act earlier (seen_since table no_rows earlier index))
          → AllByRecursion (IsEarlier (act ∷ earlier)) (cond t (with_act act earlier (seen_since table no_rows earlier index)) [])
      go true all = all
      go false all = tt

-- of the frames that were seen, those after a journal
module _ (from : Journal) where
  abbrev pub after : Seen → Bool
  after seen = nat_le (length from) (length seen.before)

  is_after : (m n : ℕ) → m ≤ n → nat_le m n ≡ true
  is_after m n le = grind (arith, nat_tests)

  isnt_after : (m n : ℕ) → n < m → nat_le m n ≡ false
  isnt_after m n lt = grind (arith, nat_tests)

  pub all_after : (seen : List Seen) → AllByRecursion (λ one. (length from ≤ length one.before) × (length (frames_in from) ≤ length (frames_in one.before))) seen → filter after seen ≡ seen
  all_after [] all = refl
  all_after (one ∷ seen) all =
      ap (λ t. cond t (one ∷ filter after seen) (filter after seen)) (is_after (length from) (length one.before) all.0.0) ∙ ap (λ rest. one ∷ rest) (all_after seen all.1)

  pub none_after : (seen : List Seen) → AllByRecursion (IsEarlier from) seen → filter after seen ≡ []
  none_after [] all = refl
  none_after (one ∷ seen) all =
      ap (λ t. cond t (one ∷ filter after seen) (filter after seen)) (isnt_after (length from) (length one.before) all.0.0) ∙ none_after seen all.1

-- One act more. `from` is the earlier journal.
module _ (table : ControlTable) (index : List ℕ) (from : Journal) where
  abbrev pub IsLater : Seen → Type 0
  IsLater one = (length from ≤ length one.before) × (length (frames_in from) ≤ length (frames_in one.before))

  -- of an act that leaves the row as it is
  module _ (act : Act) (journal : Journal) (same : state_of table no_rows (act ∷ journal) index ≡ state_of table no_rows journal index) where
    abbrev both : Bool
    both = stays_valid table no_rows act journal index

    both_is : both ≡ is_valid (state_of table no_rows journal index)
    both_is = ap (λ s. is_valid (state_of table no_rows journal index) && is_valid s) same ∙ twice (is_valid (state_of table no_rows journal index))
      where
        twice : (b : Bool) → (b && b) ≡ b
        twice true = refl
        twice false = refl

    pub seen_with : is_valid (state_of table no_rows journal index) ≡ true → seen_since table no_rows (act ∷ journal) index ≡ with_act act journal (seen_since table no_rows journal index)
    seen_with valid = ap (λ t. cond t (with_act act journal (seen_since table no_rows journal index)) []) (both_is ∙ valid)

    pub seen_without : is_valid (state_of table no_rows journal index) ≡ false → seen_since table no_rows (act ∷ journal) index ≡ []
    seen_without idle = ap (λ t. cond t (with_act act journal (seen_since table no_rows journal index)) []) (both_is ∙ idle)
