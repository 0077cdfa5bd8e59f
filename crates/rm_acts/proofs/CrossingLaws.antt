-- When a sample crosses a threshold, in three conditions.
use Rattle.std.proofs.Common.{◌≡◌, ◌⊎◌, inl, inr, List, [], ◌∷◌, ◌++◌, Bool, true, false, ◌&&◌, ◌||◌, not, refl, sym, ap, ◌∙◌, arith}
use Rattle.std.proofs.lemmas.Int.{ints}
use Rattle.std.specs.Prelude.{ℤ, int_le, ◌↔◌}
use Rattle.std.specs.List.{list_any}
use Rattle.rm_acts.specs.Crossings.{Threshold, AreUndone, IsCrossing, Bounds, comes_to, is_in_force, crosses, is_high, is_low, may_rise_first, may_fall_first, rising_of, falling_of}

no_end : (newer older : List ℤ) (value : ℤ) → [] ≡ newer ++ value ∷ older → ⊥
no_end [] older value is = cc
no_end (x ∷ newer) older value is = cc

not_both : (b : Bool) → b ≡ true → b ≡ false → ⊥
not_both b is isnt = cc

neither : (b c : Bool) → (b || c) ≡ false → (b ≡ false) × (c ≡ false)
neither true c is = absurd (cc)
neither false c is = (refl, is)

one_missing : (b c : Bool) → (not b && c) ≡ false → (b ≡ true) ⊎ (c ≡ false)
one_missing true c is = inl refl
one_missing false c is = inr is

either : (b c : Bool) → (b ≡ true) ⊎ (c ≡ true) → (b || c) ≡ true
either true c is = refl
either false c (inl is) = absurd (cc)
either false c (inr is) = is

none : (b c : Bool) → b ≡ false → c ≡ false → (b || c) ≡ false
none b c p q = cc

dropped : (b c : Bool) → (b ≡ true) ⊎ (c ≡ false) → (not b && c) ≡ false
dropped true c is = refl
dropped false c (inl is) = absurd (cc)
dropped false c (inr is) = is

decided : (b : Bool) → (b ≡ true) ⊎ (b ≡ false)
decided true = inl refl
decided false = inr refl

module _ (threshold : Threshold) where
  undone_of : (earlier : List ℤ) → is_in_force threshold earlier ≡ false → AreUndone threshold earlier
  undone_of [] out newer older value is crossed = absurd (no_end newer older value is)
  undone_of (x ∷ rest) out newer older value is crossed = at (undone_of rest) newer is
    where
      parts : (crosses threshold (x ∷ rest) ≡ false) × ((not (threshold.reaches_other x) && is_in_force threshold rest) ≡ false)
      parts = neither (crosses threshold (x ∷ rest)) (not (threshold.reaches_other x) && is_in_force threshold rest) out

      at : (is_in_force threshold rest ≡ false → AreUndone threshold rest) → (newer : List ℤ) → x ∷ rest ≡ newer ++ value ∷ older → list_any threshold.reaches_other newer ≡ true
      at before [] same =
          let here : x ≡ value = cc in
          let tail : rest ≡ older = cc in
          absurd (not_both (crosses threshold (x ∷ rest)) (ap (λ l. crosses threshold l) same ∙ crossed) parts.0)
      at before (n ∷ more) same =
          let here : x ≡ n = cc in
          let tail : rest ≡ more ++ value ∷ older = cc in
          either (threshold.reaches_other n) (list_any threshold.reaches_other more) (later here tail (one_missing (threshold.reaches_other x) (is_in_force threshold rest) parts.1))
        where
          later : x ≡ n → rest ≡ more ++ value ∷ older → (threshold.reaches_other x ≡ true) ⊎ (is_in_force threshold rest ≡ false) → (threshold.reaches_other n ≡ true) ⊎ (list_any threshold.reaches_other more ≡ true)
          later here tail (inl reached) = inl (ap threshold.reaches_other (sym here) ∙ reached)
          later here tail (inr free) = inr (before free more older value tail crossed)

  of_undone : (earlier : List ℤ) → AreUndone threshold earlier → is_in_force threshold earlier ≡ false
  of_undone [] undone = refl
  of_undone (x ∷ rest) undone = none (crosses threshold (x ∷ rest)) (not (threshold.reaches_other x) && is_in_force threshold rest) (first (decided (crosses threshold (x ∷ rest)))) (dropped (threshold.reaches_other x) (is_in_force threshold rest) (others (of_undone rest) (decided (threshold.reaches_other x))))
    where
      first : (crosses threshold (x ∷ rest) ≡ true) ⊎ (crosses threshold (x ∷ rest) ≡ false) → crosses threshold (x ∷ rest) ≡ false
      first (inl crossed) = absurd (let no : false ≡ true = undone [] rest x refl crossed in cc)
      first (inr is) = is

      under : threshold.reaches_other x ≡ false → AreUndone threshold rest
      under far newer older value is crossed =
          let found : (threshold.reaches_other x || list_any threshold.reaches_other newer) ≡ true = undone (x ∷ newer) older value (ap (λ l. x ∷ l) is) crossed in
          let b : Bool = threshold.reaches_other x in
          ap (λ t. t || list_any threshold.reaches_other newer) (sym far) ∙ found

      others : (AreUndone threshold rest → is_in_force threshold rest ≡ false) → (threshold.reaches_other x ≡ true) ⊎ (threshold.reaches_other x ≡ false) → (threshold.reaches_other x ≡ true) ⊎ (is_in_force threshold rest ≡ false)
      others before (inl reached) = inl reached
      others before (inr far) = inr (before (under far))

  all_three : (a b c : Bool) → (a && (b && not c)) ≡ true → (a ≡ true) × (b ≡ true) × (c ≡ false)
  all_three true true false is = (refl, refl, refl)
  all_three true true true is = absurd (cc)
  all_three true false c is = absurd (cc)
  all_three false b c is = absurd (cc)

  of_three : (a b c : Bool) → a ≡ true → b ≡ true → c ≡ false → (a && (b && not c)) ≡ true
  of_three a b c p q r = cc

  -- a sample crosses exactly where the three conditions hold
  pub crosses_where : (value : ℤ) (earlier : List ℤ) → (crosses threshold (value ∷ earlier) ≡ true) ↔ IsCrossing threshold value earlier
  crosses_where value earlier = (
    λ is.
        let parts : (threshold.reaches value ≡ true) × (comes_to threshold value earlier ≡ true) × (is_in_force threshold earlier ≡ false) = all_three (threshold.reaches value) (comes_to threshold value earlier) (is_in_force threshold earlier) is in
        record { reaches = parts.0; comes = parts.1; undone = undone_of earlier parts.2 },
    λ three. of_three (threshold.reaches value) (comes_to threshold value earlier) (is_in_force threshold earlier) three.reaches three.comes (of_undone earlier three.undone),
  )

last_of : (a b c : Bool) → (a && (b && c)) ≡ true → (a ≡ true) × (b ≡ true)
last_of true true c is = (refl, refl)
last_of true false c is = absurd (cc)
last_of false b c is = absurd (cc)

fails : (a b c : Bool) → (a ≡ true → b ≡ false) → (a && (b && c)) ≡ false
fails true b c left_out = let is : b ≡ false = left_out refl in cc
fails false b c left_out = refl

not_first : (falls rises high : Bool) → rises ≡ true → high ≡ true → (falls && not (rises && high)) ≡ false
not_first true rises high p q = cc
not_first false rises high p q = refl

isnt : (b : Bool) → not b ≡ true → b ≡ false
isnt true is = absurd (cc)
isnt false is = refl

is_not : (b : Bool) → b ≡ true → not b ≡ false
is_not b is = cc

between : (r f value before : ℤ) → int_le r value ≡ true → int_le r before ≡ false → int_le value f ≡ true → int_le before f ≡ true
between r f value before high under low = grind (arith, ints)

-- no sample crosses both thresholds
pub never_both : (bounds : Bounds) (values : List ℤ) → crosses (rising_of bounds) values ≡ true → crosses (falling_of bounds) values ≡ false
never_both bounds [] rises = refl
never_both bounds (value ∷ []) rises =
    let parts : (is_high bounds value ≡ true) × (may_rise_first bounds ≡ true) = last_of (is_high bounds value) (may_rise_first bounds) true rises in
    fails (is_low bounds value) (may_fall_first bounds && not (may_rise_first bounds && is_high bounds value)) true
    (λ _. not_first (may_fall_first bounds) (may_rise_first bounds) (is_high bounds value) parts.1 parts.0)
never_both bounds (value ∷ before ∷ earlier) rises =
    let parts : (is_high bounds value ≡ true) × (not (is_high bounds before) ≡ true) = last_of (is_high bounds value) (not (is_high bounds before)) (not (is_in_force (rising_of bounds) (before ∷ earlier))) rises in
    fails (is_low bounds value) (not (is_low bounds before)) (not (is_in_force (falling_of bounds) (before ∷ earlier)))
    (λ low. is_not (is_low bounds before) (between bounds.rising bounds.falling value before parts.0 (isnt (is_high bounds before) parts.1) low))
