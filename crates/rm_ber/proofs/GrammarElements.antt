-- The element that the function finds is the one that stands first.
use Rattle.std.proofs.Common.{◌≡◌, ℕ, ◌+◌, ◌-◌, ◌<◌, ◌≤◌, ◌⊎◌, inl, inr, Bool, true, false, cond, List, [], ◌∷◌, ◌++◌, length, take, drop, Option, Some, None, refl, sym, ap, ◌∙◌, subst, arith}
use Rattle.std.specs.Prelude.{nat_lt, nat_le, ◌&&◌}
use Rattle.std.proofs.lemmas.Bool.{and_parts, and_from, ltb-true, leb-true, lt-ltb, le-ltb, le-leb}
use Rattle.std.proofs.lemmas.Option.{none-some, same_Some, cond_some}
use Rattle.std.proofs.lemmas.List.{append_assoc, length-append, length-drop, length-take-le, take-append-drop}
use Rattle.std.proofs.Math.Seq.{drop-append_seam, take-append_seam}
use Rattle.byteorder.specs.Endian.{big_number}
use Rattle.rm_ber.specs.Grammar.{IsLength, StandsFirst}
use Rattle.rm_ber.specs.Reading.{length_at, Parts, parts_from, element_at}

-- which way a test went
pub chosen : {A : Type 0} (b : Bool) (x y z : A) → cond b x y ≡ z → ((b ≡ true) × (x ≡ z)) ⊎ ((b ≡ false) × (y ≡ z))
chosen true x y z e = inl (refl, e)
chosen false x y z e = inr (refl, e)

-- a length stands at the front of the octets, and then the rest
pub record LengthFirst (n : ℕ) (rest bytes : List ℕ) : Type 0 where
  pub count : List ℕ
  pub is_length : IsLength count n
  pub is : bytes ≡ count ++ rest

-- a length of k further octets
long_length : (first : ℕ) (more : List ℕ) (k : ℕ) → first ≡ 0x80 + k → 1 ≤ k → k ≤ 4 → k ≤ length more → LengthFirst (big_number k (take k more)) (drop k more) (first ∷ more)
long_length first more k is some few fits =
    let size : length (take k more) ≡ k = length-take-le k more fits in
    record {
      count = first ∷ take k more;
      is_length = inr (omega arith, omega arith, omega arith, ap (λ m. big_number m (take k more)) (sym size));
      is = ap (λ t. first ∷ t) (sym (take-append-drop k more));
    }

-- what is found as a length is one
length_found : (bytes : List ℕ) (n : ℕ) (rest : List ℕ) → length_at bytes ≡ Some (n, rest) → LengthFirst n rest bytes
unfolding length_at
length_found [] n rest e = absurd (none-some (n, rest) e)
length_found (first ∷ more) n rest e =
    let k = first - 0x80 in
    let test = nat_lt 0x80 first && nat_le first 0x84 && nat_le k (length more) in
    elim (chosen (nat_lt first 0x80) (Some (first, more)) (cond test (Some (big_number k (take k more), drop k more)) None) (Some (n, rest)) e) [
      | inl low ↦
          let same = same_Some (first, more) (n, rest) low.1 in
          record { count = first ∷ []; is_length = inl (refl, ltb-true first 0x80 low.0, sym (ap (λ (p : ℕ × List ℕ). p.0) same)); is = ap (λ (p : ℕ × List ℕ). first ∷ p.1) same }
      | inr high ↦
          let found = cond_some test (big_number k (take k more), drop k more) (n, rest) high.1 in
          let tests = and_parts (nat_lt 0x80 first && nat_le first 0x84) (nat_le k (length more)) found.0 in
          let ends = and_parts (nat_lt 0x80 first) (nat_le first 0x84) tests.0 in
          let above = ltb-true 0x80 first ends.0 in
          let most = leb-true first 0x84 ends.1 in
          let fits = leb-true k (length more) tests.1 in
          subst (λ (p : ℕ × List ℕ). LengthFirst p.0 p.1 (first ∷ more)) found.1 (long_length first more k (omega arith) (omega arith) (omega arith) fits)
    ]

-- a length is found
length_finds : (count : List ℕ) (n : ℕ) (rest : List ℕ) → IsLength count n → length_at (count ++ rest) ≡ Some (n, rest)
unfolding length_at
length_finds [] n rest h = absurd h
length_finds (first ∷ more) n rest (inl h) = rw (h.0, lt-ltb first 0x80 h.1, h.2) refl
length_finds (first ∷ more) n rest (inr h) =
    let is : first ≡ 0x80 + length more = h.2 in
    let k : first - 0x80 ≡ length more = omega arith in
    let fits : length more ≤ length (more ++ rest) = omega (arith, length-append more rest) in
    let tests = and_from (nat_lt 0x80 first && nat_le first 0x84) (nat_le (length more) (length (more ++ rest)))
    (and_from (nat_lt 0x80 first) (nat_le first 0x84) (lt-ltb 0x80 first (omega arith)) (le-leb first 0x84 (omega arith))) (le-leb (length more) (length (more ++ rest)) fits) in
    rw (le-ltb first 0x80 (omega arith), k, tests, take-append_seam more rest, drop-append_seam more rest, h.3) refl

-- the octets of an element, one after the other
element_octets : (tag : ℕ) (count content rest bytes : List ℕ) → bytes ≡ (tag ∷ count ++ content) ++ rest → bytes ≡ tag ∷ (count ++ (content ++ rest))
element_octets tag count content rest bytes is = is ∙ ap (λ t. tag ∷ t) (append_assoc count content rest)

-- what is found as an element's parts stands first
parts_found : (tag : ℕ) (more : List ℕ) (counted : Option (ℕ × List ℕ)) (e : Parts) → length_at more ≡ counted → parts_from tag counted ≡ Some e → StandsFirst e.tag e.content e.rest (tag ∷ more)
parts_found tag more None e found is = absurd (none-some e is)
parts_found tag more (Some counted) e found is =
    let n = counted.0 in
    let after = counted.1 in
    let first = length_found more n after found in
    let parts = cond_some (nat_le n (length after)) (record { tag = tag; content = take n after; rest = drop n after }) e is in
    let size : length (take n after) ≡ n = length-take-le n after (leb-true n (length after) parts.0) in
    let stands : StandsFirst tag (take n after) (drop n after) (tag ∷ more) = record {
      element = tag ∷ first.count ++ take n after;
      is_element = record { count = first.count; is_length = subst (IsLength first.count) (sym size) first.is_length; is = refl };
      is = ap (λ t. tag ∷ t) (first.is ∙ ap (λ t. first.count ++ t) (sym (take-append-drop n after)) ∙ sym (append_assoc first.count (take n after) (drop n after)));
    } in
    subst (λ (p : Parts). StandsFirst p.tag p.content p.rest (tag ∷ more)) parts.1 stands

-- the element that is found stands first
pub element_found : (bytes : List ℕ) (e : Parts) → element_at bytes ≡ Some e → StandsFirst e.tag e.content e.rest bytes
unfolding element_at
element_found [] e is = absurd (none-some e is)
element_found (tag ∷ more) e is = parts_found tag more (length_at more) e refl is

-- an element that stands first is found
pub element_finds : (tag : ℕ) (content rest bytes : List ℕ) → StandsFirst tag content rest bytes → element_at bytes ≡ Some (record { tag = tag; content = content; rest = rest })
unfolding element_at
element_finds tag content rest bytes h =
    let count = h.is_element.count in
    let is : bytes ≡ tag ∷ (count ++ (content ++ rest)) = element_octets tag count content rest bytes (h.is ∙ ap (λ t. t ++ rest) h.is_element.is) in
    let counted : length_at (count ++ (content ++ rest)) ≡ Some (length content, content ++ rest) = length_finds count (length content) (content ++ rest) h.is_element.is_length in
    let fits = le-leb (length content) (length (content ++ rest)) (omega (arith, length-append content rest)) in
    rw (is, counted, fits, take-append_seam content rest, drop-append_seam content rest) refl

-- it still stands first where more octets follow
stands_before : (tag : ℕ) (content rest more bytes : List ℕ) → StandsFirst tag content rest bytes → StandsFirst tag content (rest ++ more) (bytes ++ more)
stands_before tag content rest more bytes h = record {
  element = h.element;
  is_element = h.is_element;
  is = ap (λ t. t ++ more) h.is ∙ append_assoc h.element rest more;
}

-- at most one element stands first, with one rest
pub element_once : (tag other_tag : ℕ) (content other_content rest other_rest bytes : List ℕ) → StandsFirst tag content rest bytes → StandsFirst other_tag other_content other_rest bytes
    → (tag ≡ other_tag) × (content ≡ other_content) × (rest ≡ other_rest)
element_once tag other_tag content other_content rest other_rest bytes h k =
    let same = same_Some _ _ (sym (element_finds tag content rest bytes h) ∙ element_finds other_tag other_content other_rest bytes k) in
    (ap (λ (p : Parts). p.tag) same, ap (λ (p : Parts). p.content) same, ap (λ (p : Parts). p.rest) same)

-- an element stands first, or none does
pub element_or_none : (bytes : List ℕ) → ((tag : ℕ) × (content rest : List ℕ) × StandsFirst tag content rest bytes) ⊎ ((tag : ℕ) (content rest : List ℕ) → StandsFirst tag content rest bytes → ⊥)
element_or_none bytes = found_or_none (element_at bytes) refl
  where
    found_or_none : (found : Option Parts) → element_at bytes ≡ found
        → ((tag : ℕ) × (content rest : List ℕ) × StandsFirst tag content rest bytes) ⊎ ((tag : ℕ) (content rest : List ℕ) → StandsFirst tag content rest bytes → ⊥)
    found_or_none None is = inr (λ tag content rest first. none-some _ (sym is ∙ element_finds tag content rest bytes first))
    found_or_none (Some e) is = inl (e.tag, e.content, e.rest, element_found bytes e is)

-- the octets of an element have no shorter front that is an element too
pub no_front : (tag other_tag : ℕ) (content other_content bytes : List ℕ) (n : ℕ) → StandsFirst tag content [] bytes → n < length bytes → StandsFirst other_tag other_content [] (take n bytes) → ⊥
no_front tag other_tag content other_content bytes n h below k =
    let longer : StandsFirst other_tag other_content (drop n bytes) bytes =
    subst (StandsFirst other_tag other_content (drop n bytes)) (take-append-drop n bytes) (stands_before other_tag other_content [] (drop n bytes) (take n bytes) k) in
    let same = element_once tag other_tag content other_content [] (drop n bytes) bytes h longer in
    omega (arith, ap length same.2, length-drop n bytes)
