-- The names of the captures of a run.
use Rattle.std.specs.Prelude.{Option, Some, None, unwrap_or}
use Rattle.std.specs.Borrow.{Bor}
use Rattle.std.proofs.Common.{◌≡◌, ◌≤◌, ℕ, List, [], ◌∷◌, take, length, refl, ap, ◌∙◌, arith}
use Rattle.std.proofs.lemmas.List.{length-take}
use Rattle.rm_captures.specs.Reading.{texts}
use Rattle.rm_settings.specs.Interfaces.{IsLadder}
use Rattle.rm_probe.specs.Capture.{capture_count, names_of}

-- The first of four names, as many as there are, are those of the captures.
pub names_are : (capture : Bor (List ℕ)) (if2 if3 if4 : Option (Bor (List ℕ))) (second third fourth a b c : Bor (List ℕ)) (count : ℕ) → IsLadder if2 if3 if4 → second ≡ unwrap_or if2 a → third ≡ unwrap_or if3 b
    → fourth ≡ unwrap_or if4 c → count ≡ capture_count if2 if3 if4 → texts (take count (capture ∷ second ∷ third ∷ fourth ∷ [])) ≡ names_of capture.now if2 if3 if4
names_are capture None None None second third fourth a b c count ladder s t f is = ap (λ (n : ℕ). texts (take n (capture ∷ second ∷ third ∷ fourth ∷ []))) is
names_are capture (Some one) None None second third fourth a b c count ladder s t f is =
    ap (λ (n : ℕ). texts (take n (capture ∷ second ∷ third ∷ fourth ∷ []))) is ∙ ap (λ (name : Bor (List ℕ)). capture.now ∷ name.now ∷ []) s
names_are capture (Some one) (Some two) None second third fourth a b c count ladder s t f is =
    ap (λ (n : ℕ). texts (take n (capture ∷ second ∷ third ∷ fourth ∷ []))) is ∙ ap (λ (name : Bor (List ℕ)). capture.now ∷ name.now ∷ third.now ∷ []) s
    ∙ ap (λ (name : Bor (List ℕ)). capture.now ∷ one.now ∷ name.now ∷ []) t
names_are capture (Some one) (Some two) (Some three) second third fourth a b c count ladder s t f is =
    ap (λ (n : ℕ). texts (take n (capture ∷ second ∷ third ∷ fourth ∷ []))) is ∙ ap (λ (name : Bor (List ℕ)). capture.now ∷ name.now ∷ third.now ∷ fourth.now ∷ []) s
    ∙ ap (λ (name : Bor (List ℕ)). capture.now ∷ one.now ∷ name.now ∷ fourth.now ∷ []) t ∙ ap (λ (name : Bor (List ℕ)). capture.now ∷ one.now ∷ two.now ∷ name.now ∷ []) f
names_are capture None (Some two) if4 second third fourth a b c count ladder s t f is = absurd (let e = ladder.0 refl in cc)
names_are capture if2 None (Some three) second third fourth a b c count ladder s t f is = absurd (let e = ladder.1 refl in cc)

-- there are at most four
pub few_names : (all names : List (Bor (List ℕ))) (count : ℕ) → length all ≡ 4 → names ≡ take count all → length names ≤ 4
few_names all names count four is = omega (arith, ap length is, length-take count all, four)
