-- Datagrams that come, one after the other.
use Rattle.std.proofs.Common.{◌≡◌, ℕ, ◌≤◌, min, max, List, [], ◌∷◌, ◌++◌, length, map, take, Option, Some, None, Ok, Err, refl, sym, ap, subst, ◌∙◌, arith, append_assoc}
use Rattle.std.proofs.lemmas.List.{append-nil, length-take, take-take}
use mathlib.Core.List.{map-append}
use Rattle.rm_edge.specs.Outside.{Adds}
use Rattle.rm_edge.specs.Clock.{Tells}
use Rattle.rm_edge.specs.Link.{Datagram, Receives}
use Rattle.rm_edge.specs.declared.outside.link.Peer.{Peer}
use Rattle.rm_probe.specs.Serving.{Arrival, HaveCome, TellsAll, last_of, received_of, rising}
use Rattle.rm_probe.specs.Turns.{ReceivesOne, room}
use Rattle.rm_probe.proofs.OutputLemmas.{adds_same, adds_then}

tells_none : (told : Option (List ℕ)) → TellsAll told told []
tells_none None = tt
tells_none (Some list) = sym (append-nil list)

tells_one : (old new : Option (List ℕ)) (moment : ℕ) → Tells old new moment → TellsAll old new (moment ∷ [])
tells_one old None moment tells = tt
tells_one None (Some new) moment tells = absurd tells
tells_one (Some old) (Some new) moment tells = tells

tells_then : (a b c : Option (List ℕ)) (x y : List ℕ) → TellsAll a b x → TellsAll b c y → TellsAll a c (x ++ y)
tells_then a b None x y p q = tt
tells_then a None (Some new) x y p q = absurd q
tells_then None (Some b) (Some new) x y p q = absurd p
tells_then (Some old) (Some mid) (Some new) x y p q = q ∙ ap (λ (l : List ℕ). l ++ y) p ∙ append_assoc old x y

-- nothing came
pub none_come : (received received' : Option (List Datagram)) (told : Option (List ℕ)) (last : ℕ) → Adds received received' [] → HaveCome received received' told told last []
unfolding rising
none_come received received' told last adds = record { came = adds; moments = []; tells = tells_none told; rises = refl }

-- a receive that failed
pub none_comes : {E : Type 0} (old new : Option (List Datagram)) (told : Option (List ℕ)) (last : ℕ) (into : List ℕ) (e : E) → Receives old new into (Err e) → HaveCome old new told told last []
none_comes None new told last into e receives = none_come None new told last tt
none_comes (Some old) new told last into e receives = none_come (Some old) new told last (adds_same (Some old) new receives)

-- the octets of a front are those of the whole
take_front : (count : ℕ) (into : List ℕ) → take count into ≡ take count (take count into)
take_front count into = sym (take-take count count into (omega arith))

-- a receive that took a datagram, and the moment that was told then
pub one_comes : (E : Type 0) (old new : Option (List Datagram)) (told told' : Option (List ℕ)) (last moment : ℕ) (into : List ℕ) (found : Peer × ℕ) → length into ≡ room → found.1 ≤ room
    → Receives {E = E} old new into (Ok found) → Tells told told' moment → ReceivesOne old new told told' last (max last moment) into (Ok found)
unfolding rising
one_comes E None new told told' last moment into found whole most receives tells =
    let arrival : Arrival = record { peer = found.0; moment = max last moment; bytes = take found.1 into } in (
      arrival,
      record { came = tt; moments = moment ∷ []; tells = tells_one told told' moment tells; rises = refl },
      refl,
      refl,
      omega (arith, whole, most, length-take found.1 into),
      take_front found.1 into,
    )
one_comes E (Some old) new told told' last moment into found whole most (bytes, is, count, octets) tells = (
  record { peer = found.0; moment = max last moment; bytes = bytes },
  record { came = is; moments = moment ∷ []; tells = tells_one told told' moment tells; rises = refl },
  refl,
  refl,
  count ∙ ap (λ (n : ℕ). min (length bytes) n) whole,
  octets,
)

-- the moments that come later rise from the last
rising_then : (last : ℕ) (arrivals : List Arrival) (told more : List ℕ) → map (λ (arrival : Arrival). arrival.moment) arrivals ≡ rising last told
    → rising last (told ++ more) ≡ map (λ (arrival : Arrival). arrival.moment) arrivals ++ rising (last_of last arrivals) more
unfolding rising last_of
rising_then last [] [] more is = refl
rising_then last [] (moment ∷ told) more is = absurd cc
rising_then last (arrival ∷ arrivals) [] more is = absurd cc
rising_then last (arrival ∷ arrivals) (moment ∷ told) more is =
    let first : arrival.moment ≡ max last moment = cc in
    let rest : map (λ (a : Arrival). a.moment) arrivals ≡ rising (max last moment) told = cc in
    let later = rising_then (max last moment) arrivals told more rest in
    rw first (ap (λ (l : List ℕ). max last moment ∷ l) later)

-- some datagrams came, and then others
pub come_then : (a b c : Option (List Datagram)) (p q r : Option (List ℕ)) (last : ℕ) (arrivals more : List Arrival) → HaveCome a b p q last arrivals → HaveCome b c q r (last_of last arrivals) more
    → HaveCome a c p r last (arrivals ++ more)
come_then a b c p q r last arrivals more one two = record {
  came = subst (λ (l : List Datagram). Adds a c l) (sym (map-append received_of arrivals more)) (adds_then a b c (map received_of arrivals) (map received_of more) one.came two.came);
  moments = one.moments ++ two.moments;
  tells = tells_then p q r one.moments two.moments one.tells two.tells;
  rises = map-append (λ (arrival : Arrival). arrival.moment) arrivals more ∙ ap (λ (l : List ℕ). map (λ (arrival : Arrival). arrival.moment) arrivals ++ l) two.rises
      ∙ sym (rising_then last arrivals one.moments two.moments one.rises);
}

-- the last of some and one more
pub last_more : (last : ℕ) (arrivals : List Arrival) (arrival : Arrival) → last_of last (arrivals ++ arrival ∷ []) ≡ arrival.moment
unfolding last_of
last_more last [] arrival = refl
last_more last (first ∷ arrivals) arrival = last_more first.moment arrivals arrival
