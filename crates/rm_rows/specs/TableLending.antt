-- What a table ends as, where the value of a key's row is lent.
use Rattle.std.specs.Prelude.{Option}
use Rattle.std.specs.Borrow.{LendsIf, Fml, RattleType, MutBor}
use Rattle.std.specs.declared.cmp.Ord as Ord
use Rattle.std.specs.declared.cmp.PartialEq as PartialEq
use Rattle.std.specs.declared.cmp.PartialOrd as PartialOrd
use Rattle.rm_evicting.specs.declared.Blank as Blank
use Rattle.rm_rows.specs.contracts.rows.Rows.{the_row}
use Rattle.rm_rows.specs.Table.{Table, with_value}

-- the row of that key ends with the value last written through r
abbrev pub lends_value : (K V : RattleType) (ord : Ord.Ghosts K.Denot) (equal : PartialEq.Ghosts K.Denot) (partial : PartialOrd.Ghosts K.Denot) (blank : Blank.Ghosts V.Denot) → MutBor (Table K.Denot V.Denot) → K.Denot → Option (MutBor V.Denot) → Fml
lends_value K V ord equal partial blank t h r = LendsIf (the_row K V ord equal partial blank) V t r (λ w. record { room = t.now.room; capacity = t.now.capacity; rows = with_value equal.eq h w t.now.rows }) t.now
