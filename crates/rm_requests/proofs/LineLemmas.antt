-- The first line of a text, and the moment that digits are.
use Rattle.std.proofs.Common.{◌≡◌, ℕ, ◌+◌, ◌<◌, Bool, true, false, List, [], ◌∷◌, length, take, drop, Some, None, refl, ap, ◌∙◌, arith, position, inl, inr, get_or}
use Rattle.std.specs.Prelude.{not}
use Rattle.std.specs.List.{position_or_len, slice_split}
use Rattle.std.specs.Str.Lines.{lines, lines_of_parts, strip_carriage_return}
use Rattle.std.proofs.lemmas.Bool.{cases_lt, lt-ltb}
use Rattle.std.proofs.lemmas.List.Splits.{slice_split_first, slice_split_none, length-slice_split}
use Rattle.std.proofs.lemmas.List.Quantifiers.{position-Some}
use Rattle.std.proofs.lemmas.List.Sums.{position_or_len_is}
use Rattle.std.specs.Prelude.{All}
use Rattle.std.proofs.lemmas.List.Sums.{prefix_len_passes}
use Rattle.std.proofs.Math.Dec.{eqb-suc-zero}
use Rattle.rm_requests.specs.Reading.{is_newline}

split_goes_on : (x : List ℕ) (parts : List (List ℕ)) → 0 < length parts → lines_of_parts (x ∷ parts) ≡ strip_carriage_return x ∷ lines_of_parts parts
split_goes_on x [] lt = absurd (omega arith)
split_goes_on x (y ∷ more) lt = refl

-- where a newline stands first at that place
pub lines_first : (bytes : List ℕ) (end : ℕ) → position is_newline bytes ≡ Some end
    → lines bytes ≡ strip_carriage_return (take end bytes) ∷ lines (drop (end + 1) bytes)
lines_first bytes end found =
    let q = position-Some is_newline bytes end 0 found in
    let at : position_or_len is_newline bytes ≡ end = position_or_len_is is_newline bytes end 0 (omega (arith, q.0)) q.2 (λ _. q.1) in
    let split : slice_split is_newline bytes ≡ take end bytes ∷ slice_split is_newline (drop (end + 1) bytes) =
    slice_split_first is_newline bytes 0 (omega (arith, q.0, at)) ∙ rw at refl in
    ap lines_of_parts split ∙ split_goes_on (take end bytes) (slice_split is_newline (drop (end + 1) bytes)) (omega (arith, length-slice_split is_newline (drop (end + 1) bytes)))

last_part : (x : List ℕ) → 0 < length x → lines_of_parts (x ∷ []) ≡ x ∷ []
last_part [] some = absurd (omega arith)
last_part (b ∷ bs) some = rw (eqb-suc-zero (length bs)) refl

not_true : (b : Bool) → not b ≡ true → b ≡ false
not_true true e = absurd cc
not_true false e = refl

pub none_stands : {X : Type 0} (p : X → Bool) (xs : List X) → position p xs ≡ None → All (λ x. p x ≡ false) xs
none_stands p xs none k d lt =
    elim (cases_lt (position_or_len p xs) (length xs)) [
      | inl found ↦ absurd (let s : position p xs ≡ Some (position_or_len p xs) = rw (lt-ltb _ _ found) refl in cc)
      | inr past ↦ not_true (p (get_or xs k d)) (prefix_len_passes (λ x. not (p x)) xs k d (omega arith))
    ]

-- where no newline stands
pub lines_last : (bytes : List ℕ) → position is_newline bytes ≡ None → 0 < length bytes → lines bytes ≡ bytes ∷ []
lines_last bytes none some =
    ap lines_of_parts (slice_split_none is_newline bytes (none_stands is_newline bytes none)) ∙ last_part bytes some
