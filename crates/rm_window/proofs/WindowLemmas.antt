-- What a window holds of a file.
use Rattle.std.proofs.Common.{◌≡◌, ℕ, zero, suc, ◌+◌, ◌-◌, ◌≤◌, List, [], ◌∷◌, ◌++◌, length, take, drop, refl, sym, ap, ◌∙◌, arith}
use Rattle.std.proofs.lemmas.List.{take-take, take_all, length-take, length-take-le, length-drop, drop-drop, drop-take}
use Rattle.std.proofs.lemmas.Slice.{take-put_mid_below}
use borrow.Rule.Slice.PartMut.{put_mid}
use Rattle.rm_window.specs.Filling.{Fills, IsFront, Holds}
use Rattle.rm_window.proofs.FillingLemmas.{take_sum, put_front}

pub rest_front : (at m : ℕ) (xs : List ℕ) → at ≤ m → drop at (take m xs) ≡ take (m - at) (drop at xs)
rest_front at m xs within = let e : m ≡ at + (m - at) = omega arith in ap (λ (k : ℕ). drop at (take k xs)) e ∙ drop-take at (m - at) xs

-- a front by its length
pub take_length : (n : ℕ) (xs : List ℕ) → take n xs ≡ take (length (take n xs)) xs
take_length zero xs = refl
take_length (suc n) [] = refl
take_length (suc n) (x ∷ xs) = ap (λ (t : List ℕ). x ∷ t) (take_length n xs)

pub is_front : (n : ℕ) (part whole : List ℕ) → part ≡ take n whole → IsFront part whole
is_front n part whole is = is ∙ take_length n whole ∙ ap (λ (t : List ℕ). take (length t) whole) (sym is)

pub front_self : (xs : List ℕ) → IsFront xs xs
front_self xs = sym (take_all (length xs) xs (omega arith))

pub front_short : (part whole : List ℕ) → IsFront part whole → length part ≤ length whole
front_short part whole is = omega (arith, ap length is, length-take (length part) whole)

pub front_of : (n : ℕ) (part whole : List ℕ) → IsFront part whole → n ≤ length part → take n part ≡ take n whole
front_of n part whole is within = ap (take n) is ∙ take-take n (length part) whole within

pub front_of_front : (first part whole : List ℕ) → IsFront first part → IsFront part whole → IsFront first whole
front_of_front first part whole is there = is ∙ front_of (length first) part whole there (front_short first part is)

pub front_behind : (n : ℕ) (part whole : List ℕ) → IsFront part whole → n ≤ length part → IsFront (drop n part) (drop n whole)
front_behind n part whole is within =
    ap (drop n) is ∙ rest_front n (length part) whole within ∙ ap (λ (k : ℕ). take k (drop n whole)) (sym (length-drop n part))

-- some octets that stand behind the front of others
pub between_front : (n k : ℕ) (part whole : List ℕ) → IsFront part whole → n + k ≤ length part → take k (drop n part) ≡ take k (drop n whole)
between_front n k part whole is within =
    front_of k (drop n part) (drop n whole) (front_behind n part whole is (omega (arith, within))) (omega (arith, within, length-drop n part))

-- what a read adds behind the octets of a window
pub read_behind : (have count k : ℕ) (items piece : List ℕ) → have ≤ length items → count ≤ length piece → IsFront (take have items) (take (have + count) (put_mid have k items piece))
read_behind have count k items piece within most =
    is_front have (take have items) (take (have + count) (put_mid have k items piece))
    (sym (take-take have (have + count) (put_mid have k items piece) (omega arith) ∙ take-put_mid_below have k items piece have (omega arith) within))

pub read_holds : (bytes items piece : List ℕ) (at have count k need : ℕ) → have ≤ length items → need ≤ have + length piece → Fills bytes (at + have) count piece
    → IsFront (take have items) (drop at bytes) → Holds bytes at need (take (have + count) (put_mid have k items piece))
read_holds bytes items piece at have count k need within fits fills front =
    let xs = drop at bytes in
    let ys = drop (at + have) bytes in
    let window = take (have + count) (put_mid have k items piece) in
    let rest : drop have xs ≡ ys = drop-drop have at bytes in
    let long : length (take have items) ≡ have = length-take-le have items within in
    let few : have ≤ length xs = omega (arith, long, front_short (take have items) xs front) in
    let most : count ≤ length piece = omega (arith, fills.all, length-take (length piece) ys) in
    let there : take count piece ≡ take count (drop have xs) =
    fills.are ∙ take_length (length piece) ys ∙ ap (λ (n : ℕ). take n ys) (sym fills.all) ∙ ap (take count) (sym rest) in
    let here : take have items ≡ take have xs = front ∙ ap (λ (n : ℕ). take n xs) long in
    let is : window ≡ take (have + count) xs =
    put_front have count k items piece within most ∙ ap (λ (t : List ℕ). t ++ take count piece) here ∙ ap (λ (t : List ℕ). take have xs ++ t) there ∙ sym (take_sum have count xs few) in
    record {
      front = is_front (have + count) window xs is;
      all = λ short. omega (arith, short, fits, ap length is, length-take (have + count) xs, fills.all, length-take (length piece) ys, length-drop (at + have) bytes, length-drop at bytes, few);
    }

-- a window whose octets stand at the front of its buffer
pub at_front : (from n : ℕ) (xs : List ℕ) → from ≡ 0 → take (n - from) (drop from xs) ≡ take n xs
at_front from n xs none = let same : n - 0 ≡ n = omega arith in ap (λ (k : ℕ). take (n - k) (drop k xs)) none ∙ ap (λ (k : ℕ). take k xs) same

-- octets that are passed
pub passed_front : (from until count : ℕ) (items : List ℕ) → count ≤ length (take (until - from) (drop from items))
    → take (until - (from + count)) (drop (from + count) items) ≡ drop count (take (until - from) (drop from items))
passed_front from until count items within =
    let rest : until - (from + count) ≡ (until - from) - count = omega arith in
    ap (λ (k : ℕ). take k (drop (from + count) items)) rest ∙ ap (take ((until - from) - count)) (sym (drop-drop count from items))
    ∙ sym (rest_front count (until - from) (drop from items) (omega (arith, within, length-take (until - from) (drop from items))))

pub passed_last : (from until count k : ℕ) (items : List ℕ) → count ≤ length (take (until - from) (drop from items)) → k ≤ count
    → take k (drop ((from + count) - k) items) ≡ take k (drop (count - k) (take (until - from) (drop from items)))
passed_last from until count k items within few =
    let here : (from + count) - k ≡ from + (count - k) = omega (arith, few) in
    ap (λ (n : ℕ). take k (drop n items)) here ∙ ap (take k) (sym (drop-drop (count - k) from items))
    ∙ sym (between_front (count - k) k (take (until - from) (drop from items)) (drop from items) (is_front (until - from) _ (drop from items) refl) (omega (arith, within, few)))
