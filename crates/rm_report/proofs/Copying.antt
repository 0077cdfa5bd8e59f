-- Copies that stand in the order of their stamps, as they are searched.
use Rattle.std.proofs.Common.{◌≡◌, ◌⊎◌, inl, inr, subst, ℕ, ◌<◌, ◌≤◌, zero, suc, true, false, cond, List, [], ◌∷◌, length, refl, sym, ap, ◌∙◌, arith, Some, None, nat_eq, get_or}
use Rattle.std.specs.List.{AllByRecursion, AllWithin}
use Rattle.std.specs.List.Sorted.{IsNonDecreasingBy, IsPartitionPoint}
use Rattle.std.specs.Option.{option_map_or}
use Rattle.std.specs.Ordering.{MatchOrdering, nat_cmp, ordering_index}
use Rattle.std.specs.declared.cmp.Ordering.{Ordering}
use Rattle.std.specs.declared.cmp.Ordering.TheVariants.{Less, Equal, Greater}
use Rattle.std.proofs.lemmas.Bool.{cases_lt}
use Rattle.std.proofs.lemmas.Bool.Decides.{nat_tests}
use Rattle.std.proofs.lemmas.Cmp.{ranked}
use Rattle.rm_report.specs.declared.copied.Copied.{Copied}
use Rattle.rm_report.specs.Copies.{AreRising, copy_with, copied_count}

each_or : (P : Copied → Type 0) (xs : List Copied) (i : ℕ) (d : Copied) → AllByRecursion P xs → i < length xs → P (get_or xs i d)
each_or P [] i d all lt = absurd (omega arith)
each_or P (x ∷ xs) zero d all lt = all.0
each_or P (x ∷ xs) (suc i) d all lt = each_or P xs i d all.1 (omega arith)

-- the stamps rise
rises : (xs : List Copied) (i j : ℕ) (d : Copied) → AreRising xs → i < j → j < length xs → (get_or xs i d).entry < (get_or xs j d).entry
rises [] i j d rising lt in_range = absurd (omega arith)
rises (x ∷ xs) i zero d rising lt in_range = absurd (omega arith)
rises (x ∷ xs) zero (suc j) d rising lt in_range = each_or (λ other. x.entry < other.entry) xs j d rising.0 (omega arith)
rises (x ∷ xs) (suc i) (suc j) d rising lt in_range = rises xs i j d rising.1 (omega arith) (omega arith)

isnt : (m n : ℕ) → m < n → nat_eq m n ≡ false
isnt m n lt = grind (arith, nat_tests)

isnt_above : (m n : ℕ) → n < m → nat_eq m n ≡ false
isnt_above m n lt = grind (arith, nat_tests)

is : (m n : ℕ) → m ≡ n → nat_eq m n ≡ true
is m n e = grind (arith, nat_tests)

-- the copy at a place is the one with its stamp
pub found_at : (xs : List Copied) (i : ℕ) (d : Copied) (stamp : ℕ) → AreRising xs → i < length xs → (get_or xs i d).entry ≡ stamp → copy_with xs stamp ≡ Some (get_or xs i d)
found_at [] i d stamp rising lt here = absurd (omega arith)
found_at (x ∷ xs) zero d stamp rising lt here = ap (λ t. cond t (Some x) (copy_with xs stamp)) (is x.entry stamp here)
found_at (x ∷ xs) (suc i) d stamp rising lt here =
    let below : x.entry < (get_or xs i d).entry = each_or (λ other. x.entry < other.entry) xs i d rising.0 (omega arith) in
    ap (λ t. cond t (Some x) (copy_with xs stamp)) (isnt x.entry stamp (omega arith)) ∙ found_at xs i d stamp rising.1 (omega arith) here

-- where no copy has a stamp, none is found
pub found_none : (xs : List Copied) (stamp : ℕ) → ((i : ℕ) (d : Copied) → i < length xs → nat_eq (get_or xs i d).entry stamp ≡ false) → copy_with xs stamp ≡ None
found_none [] stamp none = refl
found_none (x ∷ xs) stamp none = ap (λ t. cond t (Some x) (copy_with xs stamp)) (none 0 x (omega arith)) ∙ found_none xs stamp (λ i d lt. none (suc i) d (omega arith))

index_rises : (m n stamp : ℕ) → m ≤ n → ordering_index (nat_cmp m stamp) ≤ ordering_index (nat_cmp n stamp)
index_rises m n stamp le = go (nat_cmp m stamp) (nat_cmp n stamp) (ranked m stamp (nat_cmp m stamp) refl) (ranked n stamp (nat_cmp n stamp) refl)
  where
    go : (o p : Ordering) → MatchOrdering o (m < stamp) (m ≡ stamp) (stamp < m) → MatchOrdering p (n < stamp) (n ≡ stamp) (stamp < n) → ordering_index o ≤ ordering_index p
    go Less p one other = omega arith
    go Equal Less one other = absurd (omega arith)
    go Equal Equal one other = omega arith
    go Equal Greater one other = omega arith
    go Greater Less one other = absurd (omega arith)
    go Greater Equal one other = absurd (omega arith)
    go Greater Greater one other = omega arith

-- what the search finds
module _ (xs : List Copied) (stamp : ℕ) (rising : AreRising xs) where
  pub count_at : (i : ℕ) (d : Copied) → i < length xs → nat_cmp (get_or xs i d).entry stamp ≡ Equal → (get_or xs i d).count ≡ copied_count xs stamp
  count_at i d lt equal = ap (λ o. option_map_or (λ copied. copied.count) o 0) (sym (found_at xs i d stamp rising lt (ranked (get_or xs i d).entry stamp Equal (sym equal))))

  ordered : IsNonDecreasingBy (λ copied. ordering_index (nat_cmp copied.entry stamp)) xs
  ordered i j d le lt = go (cases_lt i j)
    where
      go : (i < j) ⊎ (j ≤ i) → ordering_index (nat_cmp (get_or xs i d).entry stamp) ≤ ordering_index (nat_cmp (get_or xs j d).entry stamp)
      go (inl below) = index_rises (get_or xs i d).entry (get_or xs j d).entry stamp (omega (arith, rises xs i j d rising below lt))
      go (inr above) = let same : i ≡ j = omega arith in subst (λ k. ordering_index (nat_cmp (get_or xs i d).entry stamp) ≤ ordering_index (nat_cmp (get_or xs k d).entry stamp)) same (omega arith)

  pub count_none : (i : ℕ) → (IsNonDecreasingBy (λ copied. ordering_index (nat_cmp copied.entry stamp)) xs
      → IsPartitionPoint (λ copied. nat_cmp copied.entry stamp ≡ Less) (λ copied. nat_cmp copied.entry stamp ≡ Greater) xs i) → 0 ≡ copied_count xs stamp
  count_none i parted =
      let parts = parted ordered in
      ap (λ o. option_map_or (λ copied. copied.count) o 0) (sym (found_none xs stamp (λ k d lt. go k d lt (cases_lt k i) parts.0 parts.1)))
    where
      go : (k : ℕ) (d : Copied) → k < length xs → (k < i) ⊎ (i ≤ k) → AllWithin (λ copied. nat_cmp copied.entry stamp ≡ Less) xs 0 i → AllWithin (λ copied. nat_cmp copied.entry stamp ≡ Greater) xs i (length xs)
          → nat_eq (get_or xs k d).entry stamp ≡ false
      go k d lt (inl below) less greater = isnt (get_or xs k d).entry stamp (ranked (get_or xs k d).entry stamp Less (sym (less k d (omega arith) below)))
      go k d lt (inr above) less greater = isnt_above (get_or xs k d).entry stamp (ranked (get_or xs k d).entry stamp Greater (sym (greater k d above lt)))
