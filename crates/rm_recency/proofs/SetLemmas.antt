-- What a write of one link changes.
use Rattle.std.proofs.Common.{◌≡◌, ℕ, zero, suc, ◌<◌, List, [], ◌∷◌, length, slice_get, slice_set, slice_index_or, Option, Some, None, option_map, refl, sym, ap, ◌∙◌, arith}
use Rattle.std.proofs.lemmas.Option.{slice_get_read}
use Rattle.std.proofs.Math.Seq.{map-set_same}
use Rattle.std.specs.Vec.{with_item}
use denote.RawPtr.{Ptr}
use Rattle.rm_recency.specs.Chain.{Differs, Sets}
use Rattle.rm_recency.specs.declared.Links.{Links}
use Rattle.rm_recency.specs.declared.Node.{Node}
use Rattle.rm_recency.specs.declared.RecencyList.{RecencyList}
use Rattle.rm_recency.specs.Threads.{with_next, with_prev, row_of, place, IsAt, number, link_of, SameNodes, NextSet, PrevSet}

module _ {X : Type 0} where
  pub set_here : (xs : List X) (i : ℕ) (m : X) → i < length xs → slice_get (slice_set xs i m) i ≡ Some m
  set_here [] i m h = absurd (omega arith)
  set_here (x ∷ xs) zero m h = refl
  set_here (x ∷ xs) (suc i) m h = set_here xs i m (omega arith)

  pub set_there : (xs : List X) (i j : ℕ) (m : X) → ¬ (j ≡ i) → slice_get (slice_set xs i m) j ≡ slice_get xs j
  set_there [] i j m h = refl
  set_there (x ∷ xs) zero zero m h = absurd (h refl)
  set_there (x ∷ xs) zero (suc j) m h = refl
  set_there (x ∷ xs) (suc i) zero m h = refl
  set_there (x ∷ xs) (suc i) (suc j) m h = set_there xs i j m (λ e. h (ap suc e))

  -- what w tells of each element, where it tells the same of the new one
  pub set_alike : {Y : Type 0} (w : X → Y) (xs : List X) (i j : ℕ) (n m : X) → slice_get xs i ≡ Some n → w m ≡ w n → option_map w (slice_get (slice_set xs i m) j) ≡ option_map w (slice_get xs j)
  set_alike w [] i j n m e h = refl
  set_alike w (x ∷ xs) zero zero n m e h = ap Some (h ∙ ap w (sym (of_some e)))
    where
      of_some : Some x ≡ Some n → x ≡ n
      of_some e = cc
  set_alike w (x ∷ xs) zero (suc j) n m e h = refl
  set_alike w (x ∷ xs) (suc i) zero n m e h = refl
  set_alike w (x ∷ xs) (suc i) (suc j) n m e h = set_alike w xs i j n m e h

module _ {K V : Type 0} (t : RecencyList K V) (p : Ptr) (n m : Node K V) where
  -- the block with m as the node at p
  abbrev pub changed : RecencyList K V
  changed = record { nodes = with_item t.nodes (place t p) m; ends = t.ends; stride = t.stride }

  module _ (at : IsAt t p) (e : n ≡ slice_index_or t.nodes.items (place t p) n) where
    pub here : slice_get t.nodes.items (place t p) ≡ Some n
    here = slice_get_read t.nodes.items t.nodes.len (place t p) n t.nodes.ok.0 at.0 e

    pub within : place t p < length t.nodes.items
    within = let h : place t p < t.nodes.len = at.0 in let l : t.nodes.len ≡ length t.nodes.items = t.nodes.ok.0 in omega arith

    pub same_link : (side : Links K V → Option Ptr) → side m.links ≡ side n.links → (c : Option Ptr) → link_of changed side c ≡ link_of t side c
    same_link side h None = refl
    same_link side h (Some q) = set_alike (λ (k : Node K V). side k.links) t.nodes.items (place t p) (place t q) n m here h

    same_nodes : m.row ≡ n.row → SameNodes t changed
    same_nodes h = record {
      block = (refl, (refl, refl));
      len = refl;
      stride = refl;
      rows = map-set_same row_of t.nodes.items (place t p) m n (h ∙ ap row_of e);
    }

    link_sets : (side : Links K V → Option Ptr) (to : Option Ptr) → side m.links ≡ to → Sets (number t) (link_of t side) (link_of changed side) (Some p) to
    link_sets side to h = (ap (option_map (λ (k : Node K V). side k.links)) (set_here t.nodes.items (place t p) m within) ∙ ap Some h, others)
      where
        others : (c : Option Ptr) → Differs (number t) c (Some p) → link_of changed side c ≡ link_of t side c
        others None d = refl
        others (Some q) d = ap (option_map (λ (k : Node K V). side k.links)) (set_there t.nodes.items (place t p) (place t q) m (λ e. d (ap suc e)))

    pub next_set : (to : Option Ptr) → m.links ≡ with_next to n.links → m.row ≡ n.row → NextSet t changed (Some p) to
    next_set to h r = record {
      next = link_sets (λ l. l.next) to (ap (λ (l : Links K V). l.next) h);
      prev = same_link (λ l. l.prev) (ap (λ (l : Links K V). l.prev) h);
      nodes = same_nodes r;
    }

    pub prev_set : (to : Option Ptr) → m.links ≡ with_prev to n.links → m.row ≡ n.row → PrevSet t changed (Some p) to
    prev_set to h r = record {
      prev = link_sets (λ l. l.prev) to (ap (λ (l : Links K V). l.prev) h);
      next = same_link (λ l. l.next) (ap (λ (l : Links K V). l.next) h);
      nodes = same_nodes r;
    }
