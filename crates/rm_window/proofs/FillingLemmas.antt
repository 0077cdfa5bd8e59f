-- How far a buffer has been filled.
use Rattle.std.proofs.Common.{◌≡◌, ℕ, ◌+◌, ◌≤◌, List, length, take, drop, ◌++◌, refl, sym, ap, subst, ◌∙◌, Ok, arith}
use Rattle.std.proofs.lemmas.List.{take-append-drop, length-take-le, take-take, drop-drop, length-drop}
use Rattle.std.proofs.lemmas.Slice.{take-put_mid}
use Rattle.std.proofs.Math.Seq.{take-append-add}
use borrow.Rule.Slice.PartMut.{put_mid}
use Rattle.rm_edge.specs.declared.outside.Failed.{Failed}
use Rattle.rm_edge.specs.Outside.{Held, File, Absent, Reads, Gives}

pub record SoFar {F : Type 0} (held : F → List ℕ → Held) (faults : F → List ℕ → ℕ) (first now : F) (name into : List ℕ) (at filled : ℕ) : Type 0 where
  pub same : (each : List ℕ) → held now each ≡ held first each
  pub quiet : (each : List ℕ) → faults now each ≡ faults first each
  pub within : filled ≤ length into
  pub front : (bytes : List ℕ) → held first name ≡ File bytes → take filled into ≡ take filled (drop at bytes)
  pub few : (bytes : List ℕ) → held first name ≡ File bytes → filled ≤ length (drop at bytes)
  pub none : held first name ≡ Absent → filled ≡ 0

-- the front of a list, in two parts
pub take_sum : (a b : ℕ) (xs : List ℕ) → a ≤ length xs → take (a + b) xs ≡ take a xs ++ take b (drop a xs)
take_sum a b xs within =
    let parts : take a xs ++ drop a xs ≡ xs = take-append-drop a xs in
    let long : length (take a xs) ≡ a = length-take-le a xs within in
    let e : take (length (take a xs) + b) (take a xs ++ drop a xs) ≡ take a xs ++ take b (drop a xs) = take-append-add (take a xs) (drop a xs) b in
    rw (long, parts) at e

-- the front of a buffer whose octets from a place on were read
pub put_front : (a b k : ℕ) (xs ys : List ℕ) → a ≤ length xs → b ≤ length ys → take (a + b) (put_mid a k xs ys) ≡ take a xs ++ take b ys
put_front a b k xs ys within few =
    let long : length (take a xs) ≡ a = length-take-le a xs within in
    let whole : take (a + length ys) (put_mid a k xs ys) ≡ take a xs ++ ys = take-put_mid a k xs ys (a + length ys) refl within in
    let e : take (length (take a xs) + b) (take a xs ++ ys) ≡ take a xs ++ take b ys = take-append-add (take a xs) ys b in
    sym (take-take (a + b) (a + length ys) (put_mid a k xs ys) (omega arith)) ∙ ap (take (a + b)) whole ∙ (rw long at e)

-- octets were read behind those that stand in the buffer
pub record More (bytes into : List ℕ) (at filled : ℕ) : Type 0 where
  pub front : take filled into ≡ take filled (drop at bytes)
  pub few : filled ≤ length (drop at bytes)

pub read_more : (bytes into piece : List ℕ) (at filled count k : ℕ) → filled ≤ length into → count ≤ length piece → Gives bytes (at + filled) count piece
    → take filled into ≡ take filled (drop at bytes) → filled ≤ length (drop at bytes) → More bytes (put_mid filled k into piece) at (filled + count)
read_more bytes into piece at filled count k within most gives front few =
    let rest : drop filled (drop at bytes) ≡ drop (at + filled) bytes = drop-drop filled at bytes in record {
      front = put_front filled count k into piece within most ∙ ap (λ (t : List ℕ). t ++ take count piece) front
          ∙ ap (λ (t : List ℕ). take filled (drop at bytes) ++ t) (gives.octets ∙ ap (take count) (sym rest)) ∙ sym (take_sum filled count (drop at bytes) few);
      few = omega (arith, gives.within, length-drop at bytes, few);
    }

pub gives_of : (held : Held) (file into : List ℕ) (place count : ℕ) → held ≡ File file → Reads {E = Failed} held place into (Ok count) → Gives file place count into
gives_of held file into place count is reads = subst (λ (h : Held). Reads {E = Failed} h place into (Ok count)) is reads

pub not_absent : (held : Held) (into : List ℕ) (place count : ℕ) → held ≡ Absent → Reads {E = Failed} held place into (Ok count) → ⊥
not_absent held into place count is reads = let e : Reads {E = Failed} Absent place into (Ok count) = subst (λ (h : Held). Reads {E = Failed} h place into (Ok count)) is reads in cc
