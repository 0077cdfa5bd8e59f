-- What happens to one control row of the network and application layer tables (RFC 2021), the newest first.
use Rattle.std.specs.Prelude.{ℕ, ◌<◌, ◌≤◌, Bool, true, cond, List, [], ◌∷◌, nat_eq, Option, Some, None, ⊤}
use Rattle.rm_evicting.specs.Mention.{Mention, refers}

-- what a frame brings to a key that it names: its stamp and tick, the protocols above ip on its path, and what it adds
pub record Contribution (G : Type 0) : Type 0 where
  pub stamp : ℕ
  pub tick : ℕ
  pub path : List ℕ
  pub gain : G

pub data Event (K G : Type 0) : Type 0 where
  -- a good frame with addresses names a key
  names : (key : K) (brings : Contribution G) → Event K G
  -- a protocol above ip is turned on or off. A frame after that has this stamp at least
  turns : (protocol stamp : ℕ) (on : Bool) → Event K G
  -- ip is
  turns_ip : (on : Bool) → Event K G
  -- the control row becomes active
  begins : Event K G

module _ {K G : Type 0} where
  -- ip is on at first
  abbrev pub is_ip_on : List (Event K G) → Bool
  is_ip_on [] = true
  is_ip_on (names key brings ∷ earlier) = is_ip_on earlier
  is_ip_on (turns protocol stamp on ∷ earlier) = is_ip_on earlier
  is_ip_on (turns_ip on ∷ earlier) = on
  is_ip_on (begins ∷ earlier) = is_ip_on earlier

  -- the stamp of a protocol's last turning on, while it is on
  abbrev pub on_since : ℕ → List (Event K G) → Option ℕ
  on_since protocol [] = None
  on_since protocol (names key brings ∷ earlier) = on_since protocol earlier
  on_since protocol (turns other stamp on ∷ earlier) = cond (nat_eq protocol other) (cond on (Some stamp) None) (on_since protocol earlier)
  on_since protocol (turns_ip on ∷ earlier) = on_since protocol earlier
  on_since protocol (begins ∷ earlier) = on_since protocol earlier

  -- the references of the span under way. A span ends where the control row begins anew and where ip is turned on or off; while ip is
  -- off, nothing is a reference
  abbrev pub span : List (Event K G) → List (Mention K (Contribution G))
  span [] = []
  span (names key brings ∷ earlier) = cond (is_ip_on earlier) (refers key brings.stamp brings.tick brings ∷ span earlier) (span earlier)
  span (turns protocol stamp on ∷ earlier) = span earlier
  span (turns_ip on ∷ earlier) = []
  span (begins ∷ earlier) = []

  -- each reference so far is below a stamp, and each turning is up to it
  abbrev pub AreUpTo : ℕ → List (Event K G) → Type 0
  AreUpTo limit [] = ⊤
  AreUpTo limit (names key brings ∷ earlier) = (brings.stamp < limit) × AreUpTo limit earlier
  AreUpTo limit (turns protocol stamp on ∷ earlier) = (stamp ≤ limit) × AreUpTo limit earlier
  AreUpTo limit (turns_ip on ∷ earlier) = AreUpTo limit earlier
  AreUpTo limit (begins ∷ earlier) = AreUpTo limit earlier

  -- stamps rise
  abbrev pub AreRising : List (Event K G) → Type 0
  AreRising [] = ⊤
  AreRising (names key brings ∷ earlier) = AreUpTo brings.stamp earlier × AreRising earlier
  AreRising (turns protocol stamp on ∷ earlier) = AreUpTo stamp earlier × AreRising earlier
  AreRising (turns_ip on ∷ earlier) = AreRising earlier
  AreRising (begins ∷ earlier) = AreRising earlier

  -- each reference so far came by a tick
  abbrev pub AreInTime : ℕ → List (Event K G) → Type 0
  AreInTime tick [] = ⊤
  AreInTime tick (names key brings ∷ earlier) = (brings.tick ≤ tick) × AreInTime tick earlier
  AreInTime tick (turns protocol stamp on ∷ earlier) = AreInTime tick earlier
  AreInTime tick (turns_ip on ∷ earlier) = AreInTime tick earlier
  AreInTime tick (begins ∷ earlier) = AreInTime tick earlier

  -- ticks don't fall
  abbrev pub AreTimed : List (Event K G) → Type 0
  AreTimed [] = ⊤
  AreTimed (names key brings ∷ earlier) = AreInTime brings.tick earlier × AreTimed earlier
  AreTimed (turns protocol stamp on ∷ earlier) = AreTimed earlier
  AreTimed (turns_ip on ∷ earlier) = AreTimed earlier
  AreTimed (begins ∷ earlier) = AreTimed earlier
