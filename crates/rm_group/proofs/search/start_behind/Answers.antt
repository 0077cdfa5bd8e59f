use Rattle.std.proofs.Common.{refl}
use Rattle.rm_group.proofs.StartLemmas.{drop_none, drop_some}
use Rattle.rm_group.proofs.search.start_behind.Goals as goal

pub returns-in-Some : goal.returns-in-Some
returns-in-Some c = rw (c.numbers_from.ensures, c.in-Some.ensures.past, drop_some c.args.name.now c.args.from c.in-Some.column c.in-Some.ensures.value) refl

pub returns-in-None : goal.returns-in-None
returns-in-None c = rw (c.new.ensures, drop_none c.args.name.now c.args.from c.in-None.ensures.value) refl
