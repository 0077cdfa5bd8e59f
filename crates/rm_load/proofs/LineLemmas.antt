-- The lines of figures, put one after the other.
use Rattle.std.proofs.Common.{◌≡◌, ℕ, ◌+◌, ◌<◌, List, [], ◌∷◌, ◌++◌, length, take, drop, flat_map, get_or, Option, sym, ap, subst, ◌∙◌}
use Rattle.std.proofs.lemmas.Grind.{flat_map-append}
use Rattle.std.proofs.lemmas.List.{append-nil, take-append-drop, take_more, drop_more}
use Rattle.rm_edge.specs.Outside.{Adds, AddsFront}
use Rattle.rm_summary.proofs.WriteLemmas.{adds_then, front_then}
use Rattle.rm_load.specs.declared.figure.Figure.{Figure}
use Rattle.rm_load.specs.declared.figure.Figure.TheVariants.{EtherStatsPkts}

module _ (line_of : Figure → List ℕ) (all : List Figure) (place : ℕ) (inside : place < length all) where
  abbrev here : Figure
  here = get_or all place EtherStatsPkts

  -- the lines up to the one at the place, and with those behind it
  lines_next : flat_map line_of (take (place + 1) all) ≡ flat_map line_of (take place all) ++ line_of here
  lines_next =
      ap (flat_map line_of) (take_more all place EtherStatsPkts inside)
      ∙ flat_map-append line_of (take place all) (here ∷ [])
      ∙ ap (λ (text : List ℕ). flat_map line_of (take place all) ++ text) (append-nil (line_of here))

  lines_split : flat_map line_of all ≡ flat_map line_of (take place all) ++ (line_of here ++ flat_map line_of (drop (place + 1) all))
  lines_split =
      ap (flat_map line_of) (sym (take-append-drop place all) ∙ ap (λ (rest : List Figure). take place all ++ rest) (drop_more all place EtherStatsPkts inside))
      ∙ flat_map-append line_of (take place all) (here ∷ drop (place + 1) all)

  -- a line is put behind those before it, whole or not
  pub next_at : (old mid new : Option (List ℕ)) → Adds old mid (flat_map line_of (take place all)) → Adds mid new (line_of here) → Adds old new (flat_map line_of (take (place + 1) all))
  next_at old mid new so_far more =
      subst (λ (text : List ℕ). Adds old new text) (sym lines_next) (adds_then old mid new (flat_map line_of (take place all)) (line_of here) so_far more)

  pub front_at : (old mid new : Option (List ℕ)) → Adds old mid (flat_map line_of (take place all)) → AddsFront mid new (line_of here) → AddsFront old new (flat_map line_of all)
  front_at old mid new so_far front =
      subst (λ (text : List ℕ). AddsFront old new text) (sym lines_split)
      (front_then old mid new (flat_map line_of (take place all)) (line_of here) (flat_map line_of (drop (place + 1) all)) so_far front)
