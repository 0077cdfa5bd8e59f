-- What captures end as, where the octets of one are lent.
use Rattle.std.specs.Prelude.{Vec, ⊤}
use Rattle.std.specs.Borrow.{Fml, RattleType, MutBor, follows_so}
use mathlib.Core.Option.{none}
use Rattle.std.specs.contracts.alloc.Global as global
use Rattle.std.specs.contracts.vec.Vec as vector
use Rattle.std.specs.contracts.impls.GlobalAllocator.TheImpl.{ghosts}
use Rattle.std.specs.declared.alloc.Global.{Global}
use Rattle.rm_pcap.specs.declared.capture.Capture.{Capture}
use Rattle.rm_pcap.specs.contracts.capture.Capture.{the_row}

abbrev pub captures_row : RattleType
captures_row = vector.the_row the_row global.the_row ghosts

-- what holds of them once nothing is lent
abbrev pub EndSo : MutBor (Vec Capture Global) → (Vec Capture Global → Type 0) → Fml
EndSo captures = follows_so captures_row captures_row captures.ghost_name none (λ _ _. ⊤)
