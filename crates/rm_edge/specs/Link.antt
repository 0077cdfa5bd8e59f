-- What the calls of a link do to its lists.
use Rattle.std.specs.Prelude.{◌≡◌, ◌⊎◌, ℕ, min, List, ◌++◌, [], ◌∷◌, length, take, Option, Some, None, Result, Ok, Err}
use Rattle.rm_edge.specs.declared.outside.link.Peer.{Peer}

-- a datagram, and the peer that it comes from or goes to
pub record Datagram : Type 0 where
  pub peer : Peer
  pub bytes : List ℕ

-- the list has one more at its end; nothing is said where it isn't told
abbrev pub Grows : {A : Type 0} → Option (List A) → Option (List A) → A → Type 0
Grows None new x = Unit {0}
Grows (Some old) new x = new ≡ Some (old ++ x ∷ [])

-- the list is as before; nothing is said where it isn't told
abbrev pub Stays : {A : Type 0} → Option (List A) → Option (List A) → Type 0
Stays None new = Unit {0}
Stays (Some old) new = new ≡ Some old

-- the port is bound, or none is
abbrev pub Binds : {T E : Type 0} → Option (List ℕ) → Option (List ℕ) → ℕ → Result T E → Type 0
Binds old new port (Ok done) = Grows old new port
Binds old new port (Err e) = Stays old new

-- the list has the datagram whole, and the buffer the octets of it that fit
abbrev pub Receives : {E : Type 0} → Option (List Datagram) → Option (List Datagram) → List ℕ → Result (Peer × ℕ) E → Type 0
Receives None new into found = Unit {0}
Receives (Some old) new into (Ok found) =
    (bytes : List ℕ) × (new ≡ Some (old ++ record { peer = found.0; bytes = bytes } ∷ []))
    × (found.1 ≡ min (length bytes) (length into)) × (take found.1 into ≡ take found.1 bytes)
Receives (Some old) new into (Err e) = new ≡ Some old

-- the datagram is sent, or the send failed and it may have been sent
abbrev pub Sends : {T E : Type 0} → Option (List Datagram) → Option (List Datagram) → Peer → List ℕ → Result T E → Type 0
Sends old new to bytes (Ok done) = Grows old new (record { peer = to; bytes = bytes })
Sends old new to bytes (Err e) = Stays old new ⊎ Grows old new (record { peer = to; bytes = bytes })
