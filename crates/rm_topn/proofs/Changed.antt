-- No row gets what is kept of it, or loses it, by a change.
use Rattle.std.proofs.Common.{◌≡◌, Option, Some, None, refl}
use Rattle.std.specs.Prelude.{is_some}
use Rattle.rm_pool.specs.Pools.{Became}
use Rattle.rm_topn.specs.declared.course.Course.{Course}

pub still_has : (makes : Course → Course → Type 0) (o n : Option Course) → Became makes o n → is_some n ≡ is_some o
still_has makes None None b = refl
still_has makes None (Some new) b = absurd b
still_has makes (Some course) None b = absurd b
still_has makes (Some course) (Some new) b = refl
