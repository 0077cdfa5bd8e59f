use Rattle.rm_group.proofs.StartLemmas.{start_front, start_before, start_past}
use Rattle.rm_group.proofs.search.start_of.Goals as goal

pub returns-then-starts_with : goal.returns-then-starts_with
returns-then-starts_with c = rw (c.start_behind.ensures, c.len.ensures.value) (start_front c.args.entry.now c.args.name.now c.if-starts_with.ensures.value)

pub returns-in-Less : goal.returns-in-Less
returns-in-Less c = rw c.new.ensures (start_before c.args.entry.now c.args.name.now c.if-starts_with.ensures.value c.in-Less.ensures.value)

pub returns-in_default : goal.returns-in_default
returns-in_default c = start_past c.args.entry.now c.args.name.now c.if-starts_with.ensures.value c.compare.result c.compare.ensures.value c.in_default.not-Less
