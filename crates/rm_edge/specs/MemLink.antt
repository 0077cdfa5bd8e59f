-- A link in memory as its callers see it.
use Rattle.std.specs.Prelude.{ℕ, List, Contains}
use Rattle.rm_edge.specs.Link.{Datagram}
use Rattle.rm_edge.specs.Outside.{one_more}

-- a link, with its lists, the datagrams that are still to come, the room for datagrams to send, the numbers of the calls that are to
-- fail, and how many have failed
pub record LinkState : Type 0 where
  pub bound : List ℕ
  pub received : List Datagram
  pub waiting : List Datagram
  pub sent : List Datagram
  pub room : ℕ
  pub calls : ℕ
  pub failing : List ℕ
  pub faults : ℕ

-- the next call of bind, receive or send is one of those that are to fail
abbrev pub IsToFail : LinkState → Type 0
IsToFail link = Contains link.failing (one_more link.calls)

-- the link after a call that failed
abbrev pub failed_at : LinkState → LinkState
failed_at link = record link { calls = one_more link.calls; faults = one_more link.faults }
