-- What a side sees where each frame refers to other keys.
use Rattle.std.proofs.Common.{◌≡◌, ℕ, ◌+◌, ◌≤◌, true, not, ◌&&◌, List, [], ◌∷◌, ◌++◌, map, nat_eq, refl, sym, ap, ◌∙◌, subst, inl, inr}
use Rattle.std.proofs.lemmas.Bool.{cases_Bool}
use Rattle.std.proofs.lemmas.List.{length-map}
use Rattle.rm_evicting.specs.Held.{distinct}
use Rattle.rm_model.specs.Journal.{Act, Frame, passes, assigns, samples, Journal}
use Rattle.rm_layers.specs.Event.{Event, names, turns, turns_ip, begins}
use Rattle.rm_layer_events.specs.Side.{Reference, Side, IsSide, next_stamp, is_alike, named, turned_of, turned, turned_ip, begun, first_turned, events, besides}
use Rattle.rm_reversed.specs.Reversed.{reversed_events, reversed_reference, reversed_side}

module _ {K G : Type 0} (to : K → K) where
  reversed-append : (xs ys : List (Event K G)) → reversed_events to (xs ++ ys) ≡ reversed_events to xs ++ reversed_events to ys
  reversed-append [] ys = refl
  reversed-append (names k c ∷ xs) ys = ap (λ l. names (to k) c ∷ l) (reversed-append xs ys)
  reversed-append (turns p s on ∷ xs) ys = ap (λ l. turns p s on ∷ l) (reversed-append xs ys)
  reversed-append (turns_ip on ∷ xs) ys = ap (λ l. turns_ip on ∷ l) (reversed-append xs ys)
  reversed-append (begins ∷ xs) ys = ap (λ l. begins ∷ l) (reversed-append xs ys)

  named-of : (s : ℕ) (xs : List (Reference K G)) (r : List (Event K G)) → named s (map (reversed_reference to) xs) (reversed_events to r) ≡ reversed_events to (named s xs r)
  named-of s [] r = refl
  named-of s (x ∷ xs) r = named-of (s + 1) xs (names x.key (record { stamp = s; tick = x.tick; path = x.path; gain = x.gain }) ∷ r)

  module _ (side : Side K G) where
    abbrev here : Side K G
    here = reversed_side to side

    pub is_side-of : IsSide side → IsSide here
    is_side-of is = record {
      few = λ frame earlier. subst (λ n. n ≤ 2) (sym (length-map (side.references frame earlier) (reversed_reference to))) (is.few frame earlier);
      listed = is.listed;
      ip_first = is.ip_first;
      ip_steady = is.ip_steady;
      steady = is.steady;
    }

    first-of : (ps : List ℕ) → first_turned here ps ≡ reversed_events to (first_turned side ps)
    first-of [] = refl
    first-of (p ∷ ps) = elim (cases_Bool (side.is_on p [])) [
      | inl e ↦ rw e (ap (λ l. turns p 0 true ∷ l) (first-of ps))
      | inr e ↦ rw e (first-of ps)
    ]

    turned_of-of : (ps : List ℕ) (act : Act) (earlier : Journal) → turned_of here ps act earlier ≡ reversed_events to (turned_of side ps act earlier)
    turned_of-of [] act earlier = refl
    turned_of-of (p ∷ ps) act earlier = elim (cases_Bool (is_alike (side.is_on p earlier) (side.is_on p (act ∷ earlier)))) [
      | inl e ↦ rw e (turned_of-of ps act earlier)
      | inr e ↦ rw e (ap (λ l. turns p (next_stamp earlier) (side.is_on p (act ∷ earlier)) ∷ l) (turned_of-of ps act earlier))
    ]

    turned-of : (act : Act) (earlier : Journal) → turned here act earlier ≡ reversed_events to (turned side act earlier)
    turned-of act earlier = turned_of-of (distinct nat_eq (side.protocols (act ∷ earlier) ++ side.protocols earlier)) act earlier

    turned_ip-of : (act : Act) (earlier : Journal) → turned_ip here act earlier ≡ reversed_events to (turned_ip side act earlier)
    turned_ip-of act earlier = elim (cases_Bool (is_alike (side.is_ip_on earlier) (side.is_ip_on (act ∷ earlier)))) [ inl e ↦ rw e refl | inr e ↦ rw e refl ]

    begun-of : (act : Act) (earlier : Journal) → begun here act earlier ≡ reversed_events to (begun side act earlier)
    begun-of act earlier = elim (cases_Bool (not (side.is_active earlier) && side.is_active (act ∷ earlier))) [ inl e ↦ rw e refl | inr e ↦ rw e refl ]

    besides-of : (act : Act) (earlier : Journal) → events here earlier ≡ reversed_events to (events side earlier) → besides here act earlier ≡ reversed_events to (besides side act earlier)
    besides-of act earlier before =
        (λ d. turned_ip-of act earlier d ++ (begun-of act earlier d ++ before d))
        ∙ ap (λ l. reversed_events to (turned_ip side act earlier) ++ l) (sym (reversed-append (begun side act earlier) (events side earlier)))
        ∙ sym (reversed-append (turned_ip side act earlier) (begun side act earlier ++ events side earlier))

    -- the events of the other keys are those of the keys, each replaced
    pub events-of : (journal : Journal) → events here journal ≡ reversed_events to (events side journal)
    events-of [] = first-of (distinct nat_eq (side.protocols []))
    events-of (passes frame ∷ earlier) = ap (named (next_stamp earlier) (map (reversed_reference to) (side.references frame earlier))) (events-of earlier) ∙ named-of (next_stamp earlier) (side.references frame earlier) (events side earlier)
    events-of (assigns moment values ∷ earlier) =
        (λ d. turned-of (assigns moment values) earlier d ++ besides-of (assigns moment values) earlier (events-of earlier) d)
        ∙ sym (reversed-append (turned side (assigns moment values) earlier) (besides side (assigns moment values) earlier))
    events-of (samples moment alarm reading ∷ earlier) = events-of earlier

    -- so are those of a side that differs by such references alone
    pub by_references-of : (references : Frame → Journal → List (Reference K G)) → ((frame : Frame) (earlier : Journal) → references frame earlier ≡ map (reversed_reference to) (side.references frame earlier))
        → (journal : Journal) → events (record side { references = references }) journal ≡ reversed_events to (events side journal)
    by_references-of references are journal = ap (λ (other : Frame → Journal → List (Reference K G)). events (record side { references = other }) journal) (λ d frame earlier. are frame earlier d) ∙ events-of journal
