-- The numbers of the packets that a buffer keeps follow one another.
use Rattle.std.proofs.Common.{◌≡◌, ℕ, suc, ◌+◌, ◌-◌, ◌≤◌, List, [], ◌∷◌, ◌++◌, Bool, true, false, cond, Option, Some, None, refl, sym, ap, ◌∙◌, subst, length, reverse, find, nat_eq, nat_le, arith}
use Rattle.std.specs.Prelude.{slice_get}
use Rattle.std.proofs.lemmas.Bool.Decides.{nat_tests}
use Rattle.std.proofs.lemmas.Grind.{reverse_onto}
use Rattle.std.proofs.lemmas.List.{length-reverse, reverse-append}
use Rattle.rm_model.specs.Journal.{Frame}
use Rattle.rm_acts.specs.Buffers.{Packet, numbered, longest_front, kept_of}
use Rattle.rm_capture.specs.declared.full_action.FullAction.{FullAction}
use Rattle.rm_capture.specs.declared.full_action.FullAction.TheVariants.{Lock, Wrap}
use Rattle.rm_capture.specs.Captured.{wraps}
use Rattle.rm_capture.specs.Kept.{oldest}
use Rattle.rm_capture.specs.PacketTable.{has_number}

-- packets, the newest first, whose numbers follow one another down to one above a number
abbrev pub Fall : ℕ → List Packet → Type 0
Fall base [] = Unit {0}
Fall base (packet ∷ packets) = (packet.number ≡ base + (length packets + 1)) × Fall base packets

-- packets, the oldest first, whose numbers follow one another from a number on
abbrev pub Rise : ℕ → List Packet → Type 0
Rise first [] = Unit {0}
Rise first (packet ∷ packets) = (packet.number ≡ first) × Rise (first + 1) packets

pub numbered_long : (frames : List Frame) → length (numbered frames) ≡ length frames
numbered_long [] = refl
numbered_long (frame ∷ frames) = omega (arith, numbered_long frames)

pub numbered_fall : (frames : List Frame) → Fall 0 (numbered frames)
numbered_fall [] = tt
numbered_fall (frame ∷ frames) = (omega (arith, numbered_long frames), numbered_fall frames)

rise_more : (first : ℕ) (xs : List Packet) (y : Packet) → Rise first xs → y.number ≡ first + length xs → Rise first (xs ++ y ∷ [])
rise_more first [] y rise is = (omega (arith, is), tt)
rise_more first (x ∷ xs) y rise is = (rise.0, rise_more (first + 1) xs y rise.1 (omega (arith, is)))

pub reverse_more : (x : Packet) (xs : List Packet) → reverse (x ∷ xs) ≡ reverse xs ++ x ∷ []
reverse_more x xs = reverse_onto xs x []

pub reverse_twice : (xs : List Packet) → reverse (reverse xs) ≡ xs
reverse_twice [] = refl
reverse_twice (x ∷ xs) = ap reverse (reverse_more x xs) ∙ reverse-append (reverse xs) (x ∷ []) ∙ ap (λ ys. x ∷ ys) (reverse_twice xs)

rise_reversed : (base : ℕ) (xs : List Packet) → Fall base xs → Rise (base + 1) (reverse xs)
rise_reversed base [] fall = tt
rise_reversed base (x ∷ xs) fall =
    subst (Rise (base + 1)) (sym (reverse_more x xs)) (rise_more (base + 1) (reverse xs) x (rise_reversed base xs fall.1) (omega (arith, fall.0, length-reverse xs)))

module _ (cost : Packet → ℕ) where
  pub front_short : (most : ℕ) (xs : List Packet) → length (longest_front cost most xs) ≤ length xs
  front_short most [] = omega arith
  front_short most (x ∷ xs) = by_room (nat_le (cost x) most) (front_short (most - cost x) xs)
    where
      by_room : (t : Bool) → length (longest_front cost (most - cost x) xs) ≤ length xs → length (cond t (x ∷ longest_front cost (most - cost x) xs) []) ≤ length (x ∷ xs)
      by_room true less = omega (arith, less)
      by_room false less = omega arith

  front_fall : (most base : ℕ) (xs : List Packet) → Fall base xs → Fall (base + length xs - length (longest_front cost most xs)) (longest_front cost most xs)
  front_fall most base [] fall = tt
  front_fall most base (x ∷ xs) fall = by_room (nat_le (cost x) most) (front_short (most - cost x) xs) (front_fall (most - cost x) base xs fall.1)
    where
      rest : List Packet
      rest = longest_front cost (most - cost x) xs

      by_room : (t : Bool) → length rest ≤ length xs → Fall (base + length xs - length rest) rest
          → Fall (base + length (x ∷ xs) - length (cond t (x ∷ rest) [])) (cond t (x ∷ rest) [])
      by_room false less falls = tt
      by_room true less falls =
          let same : base + length xs - length rest ≡ base + length (x ∷ xs) - length (x ∷ rest) = omega arith in
          (omega (arith, fall.0, less), subst (λ n. Fall n rest) same falls)

  front_rise : (most first : ℕ) (xs : List Packet) → Rise first xs → Rise first (longest_front cost most xs)
  front_rise most first [] rise = tt
  front_rise most first (x ∷ xs) rise = by_room (nat_le (cost x) most) (front_rise (most - cost x) (first + 1) xs rise.1)
    where
      by_room : (t : Bool) → Rise (first + 1) (longest_front cost (most - cost x) xs) → Rise first (cond t (x ∷ longest_front cost (most - cost x) xs) [])
      by_room true more = (rise.0, more)
      by_room false more = tt

  -- the packets that are kept, the oldest first, have numbers from that of the oldest on
  pub kept_rise : (action : FullAction) (most : ℕ) (frames : List Frame)
      → Rise (oldest action (length frames) (length (kept_of (wraps action) cost most (numbered frames)))) (reverse (kept_of (wraps action) cost most (numbered frames)))
  kept_rise Lock most frames =
      subst (Rise 1) (sym (reverse_twice (longest_front cost most (reverse (numbered frames)))))
      (front_rise most 1 (reverse (numbered frames)) (rise_reversed 0 (numbered frames) (numbered_fall frames)))
  kept_rise Wrap most frames =
      let kept = longest_front cost most (numbered frames) in
      let same : 0 + length (numbered frames) - length kept ≡ length frames - length kept = omega (arith, numbered_long frames) in
      rise_reversed (length frames - length kept) kept (subst (λ n. Fall n kept) same (front_fall most 0 (numbered frames) (numbered_fall frames)))

-- a packet is found by its number where it stands
pub found_is : (first number : ℕ) (xs : List Packet) → Rise first xs → find (has_number number) xs ≡ cond (nat_le first number) (slice_get xs (number - first)) None
found_is first number [] rise =
    elim (nat_le first number) as (λ t. ◌≡◌ {A = Option Packet} None (cond t (slice_get [] (number - first)) None)) [
      | true ↦ refl
      | false ↦ refl
    ]
found_is first number (x ∷ xs) rise = by_number (nat_eq x.number number) refl (found_is (first + 1) number xs rise.1)
  where
    by_number : (t : Bool) → nat_eq x.number number ≡ t → find (has_number number) xs ≡ cond (nat_le (first + 1) number) (slice_get xs (number - (first + 1))) None
        → cond t (Some x) (find (has_number number) xs) ≡ cond (nat_le first number) (slice_get (x ∷ xs) (number - first)) None
    by_number true is rest =
        let here : nat_le first number ≡ true = let same = rise.0 in grind (arith, nat_tests) in
        let none : number - first ≡ 0 = let same = rise.0 in let number_is : x.number ≡ number = grind (arith, nat_tests) in omega (arith, same, number_is) in
        sym (ap (λ t. cond t (slice_get (x ∷ xs) (number - first)) None) here ∙ ap (slice_get (x ∷ xs)) none)
    by_number false is rest = rest ∙ by_order (nat_le (first + 1) number) refl
      where
        by_order : (t : Bool) → nat_le (first + 1) number ≡ t → cond t (slice_get xs (number - (first + 1))) None ≡ cond (nat_le first number) (slice_get (x ∷ xs) (number - first)) None
        by_order true above =
            let here : nat_le first number ≡ true = grind (arith, nat_tests) in
            let more : number - first ≡ suc (number - (first + 1)) = let low : first + 1 ≤ number = grind (arith, nat_tests) in omega (arith, low) in
            sym (ap (λ t. cond t (slice_get (x ∷ xs) (number - first)) None) here ∙ ap (slice_get (x ∷ xs)) more)
        by_order false below =
            let apart : nat_le first number ≡ false = let same = rise.0 in grind (arith, nat_tests) in
            sym (ap (λ t. cond t (slice_get (x ∷ xs) (number - first)) None) apart)
