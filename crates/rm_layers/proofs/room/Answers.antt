use Rattle.rm_layers.proofs.CapacityLemmas.{capacity-some, capacity-within}
use Rattle.rm_layers.proofs.room.Goals as goal

pub returns-clause-some : goal.returns-clause-some
returns-clause-some c = λ upper network applications some n a. capacity-some upper network applications some n a

pub returns-clause-within : goal.returns-clause-within
returns-clause-within c = λ upper network applications. capacity-within upper network applications
