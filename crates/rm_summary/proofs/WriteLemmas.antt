-- Lines that are put one after the other.
use Rattle.std.proofs.Common.{◌≡◌, ◌≤◌, ◌<◌, ℕ, ◌+◌, min, List, [], ◌∷◌, ◌++◌, length, take, drop, Option, Some, None, Result, Ok, Err, inl, inr, refl, sym, ap, subst, ◌∙◌, arith, append_assoc, get_or}
use Rattle.std.proofs.Math.Seq.{take-append-add, take-length}
use Rattle.std.proofs.lemmas.Grind.{flat_map-append}
use Rattle.std.proofs.lemmas.List.{append-nil, take-append-le, take-append-drop, take_all, drop_more}
use Rattle.std.proofs.lemmas.Bool.{cases_lt}
use Rattle.rm_edge.specs.Outside.{Adds, AddsFront, Puts}
use Rattle.rm_summary.specs.declared.figure.Figure.{Figure}
use Rattle.rm_summary.specs.declared.figure.Figure.TheVariants.{Frames}
use Rattle.rm_summary.specs.Text.{word_of, line, figure_lines}

-- none was put yet
pub adds_none : (o : Option (List ℕ)) → Adds o o []
adds_none None = tt
adds_none (Some old) = ap Some (sym (append-nil old))

-- some octets, and then others
pub adds_then : (a b c : Option (List ℕ)) (x y : List ℕ) → Adds a b x → Adds b c y → Adds a c (x ++ y)
adds_then None b c x y p q = tt
adds_then (Some old) b c x y p q =
    let e : Adds (Some (old ++ x)) c y = rw p at q in
    e ∙ ap Some (append_assoc old x y)

short : (k : ℕ) (ys : List ℕ) → take (min k (length ys)) ys ≡ take k ys
short k ys = elim (cases_lt k (length ys)) [
  | inl lt ↦ let e : min k (length ys) ≡ k = omega arith in rw e refl
  | inr le ↦ let e : min k (length ys) ≡ length ys = omega arith in rw (e, take_all k ys le) (take-length ys)
]

-- some octets, and then a front of others, are a front of both and of what would have come behind them
pub front_then : (a b c : Option (List ℕ)) (x y z : List ℕ) → Adds a b x → AddsFront b c y → AddsFront a c (x ++ (y ++ z))
front_then a b c x y z p (n, q) =
    let cut = min n (length y) in
    let front : take (length x + cut) (x ++ (y ++ z)) ≡ x ++ take n y =
    take-append-add x (y ++ z) cut ∙ ap (λ (t : List ℕ). x ++ t) (take-append-le cut y z (omega arith) ∙ short n y) in
    (length x + cut, subst (λ (t : List ℕ). Adds a c t) (sym front) (adds_then a b c x (take n y) p q))

-- a front is one of what is longer
pub front_more : (a b : Option (List ℕ)) (x y : List ℕ) → AddsFront a b x → AddsFront a b (x ++ y)
front_more a b x y (n, p) =
    let cut = min n (length x) in
    (cut, subst (λ (t : List ℕ). Adds a b t) (sym (take-append-le cut x y (omega arith) ∙ short n x)) p)

-- what was put so far, and how the count of faults stands
pub record PutSoFar (old new : Option (List ℕ)) (before now : ℕ) (text : List ℕ) : Type 0 where
  pub octets : Adds old new text
  pub later : before ≤ now

-- the line of the figure at a place, and those before and behind it
line_at : (figure : Figure → ℕ) (all : List Figure) (place : ℕ) → place < length all
    → figure_lines figure all ≡ figure_lines figure (take place all) ++ (line (word_of (get_or all place Frames)) (figure (get_or all place Frames)) ++ figure_lines figure (drop (place + 1) all))
line_at figure all place inside =
    ap (figure_lines figure) (sym (take-append-drop place all) ∙ ap (λ (rest : List Figure). take place all ++ rest) (drop_more all place Frames inside))
    ∙ flat_map-append (λ one. line (word_of one) (figure one)) (take place all) (get_or all place Frames ∷ drop (place + 1) all)

-- a line that isn't put whole, behind those before it
pub front_at : (figure : Figure → ℕ) (all : List Figure) (place : ℕ) (old mid new : Option (List ℕ)) (piece : List ℕ) → place < length all
    → piece ≡ line (word_of (get_or all place Frames)) (figure (get_or all place Frames))
    → Adds old mid (figure_lines figure (take place all)) → AddsFront mid new piece → AddsFront old new (figure_lines figure all)
front_at figure all place old mid new piece inside is so_far front =
    subst (λ (text : List ℕ). AddsFront old new text) (sym (line_at figure all place inside))
    (front_then old mid new (figure_lines figure (take place all)) _ (figure_lines figure (drop (place + 1) all)) so_far (rw is at front))

-- some octets, and then a piece that is put, whole or not
pub puts_then : {T E : Type 0} (a b c : Option (List ℕ)) (x y piece : List ℕ) (result : Result T E) → piece ≡ y → Adds a b x → Puts b c piece result → Puts a c (x ++ y) result
puts_then a b c x y piece (Ok done) is p q = adds_then a b c x y p (rw is at q)
puts_then a b c x y piece (Err fault) is p q =
    subst (λ (end : List ℕ). AddsFront a c (x ++ end)) (append-nil y) (front_then a b c x y [] p (rw is at q))
