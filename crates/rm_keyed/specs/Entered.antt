-- The rows that the mentions of their keys have entered.
use Rattle.std.specs.Prelude.{◌≡◌, ℕ, ◌<◌, ◌≤◌, Bool, List, All}
use Rattle.rm_evicting.specs.Mention.{Mention}
use Rattle.rm_evicting.specs.Held.{last_delete, Rising, AllBefore}
use Rattle.rm_evicting.specs.Stands.{IsTotal, Stands}
use Rattle.rm_rows.specs.Table.{Table}
use Rattle.rm_keyed.specs.declared.keyed.TheConstants.{MOST_ROWS}

-- the rows, the tick at which the last one gave way, what all stamps so far are below, and what no tick so far is above
pub record Entered (K V : Type 0) : Type 0 where
  pub rows : Table K V
  pub last_delete : ℕ
  pub stamps : ℕ
  pub tick : ℕ

module _ {K V : Type 0} where
  -- a reference with that stamp or a later one, and that tick or a later one, may be taken
  pub record IsReady (table : Table K V) (stamps tick : ℕ) : Type 0 where
    pub room : table.room ≡ MOST_ROWS
    pub some : 1 ≤ table.capacity
    pub stamped : All (λ row. row.last < stamps) table.rows
    pub timed : All (λ row. row.tick ≤ tick) table.rows

module _ {K V : Type 0} (eq : K → K → Bool) (blank : V) (plus : V → V → V) where
  -- these are the mentions so far, the newest first
  pub record IsOf (mentions : List (Mention K V)) (entered : Entered K V) : Type 0 where
    pub rows : Stands eq (IsTotal blank plus) entered.rows.capacity mentions entered.rows.rows
    pub deletes : entered.last_delete ≡ last_delete eq entered.rows.capacity mentions
    pub rising : Rising mentions
    pub before : AllBefore entered.stamps mentions
