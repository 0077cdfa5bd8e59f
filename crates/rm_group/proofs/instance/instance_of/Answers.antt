use Rattle.std.proofs.Common.{◌∙◌}
use Rattle.rm_group.proofs.StartLemmas.{instance_beside, instance_none, instance_other, instance_some, get_within}
use Rattle.rm_group.proofs.instance.instance_of.Goals as goal

pub returns-then-not-starts_with : goal.returns-then-not-starts_with
returns-then-not-starts_with c = instance_beside c.args.entry.now c.args.columns.now c.args.name.now c.if-not-starts_with.ensures.value

pub returns-in_err-column : goal.returns-in_err-column
returns-in_err-column c =
    c.from_residual.ensures ∙ instance_none c.args.entry.now c.args.columns.now c.args.name.now c.if-not-starts_with.ensures.value (rw c.len-at.ensures.value at c.in_err-column.ensures.value)

pub returns-then-not-contains : goal.returns-then-not-contains
returns-then-not-contains c =
    instance_other c.args.entry.now c.args.columns.now c.args.name.now c.if-not-starts_with.ensures.value c.in_ok-column.column (rw c.len-at.ensures.value at c.in_ok-column.ensures.value) c.if-not-contains.ensures.value

pub numbers_from-index-requires : goal.numbers_from-index-requires
numbers_from-index-requires c = rw c.in_ok-column.ensures.past (get_within c.args.name.now c.len-at.result c.in_ok-column.column c.in_ok-column.ensures.value)

pub returns : goal.returns
returns c =
    rw (c.numbers_from-index.ensures, c.in_ok-column.ensures.past, c.len-at.ensures.value)
    (instance_some c.args.entry.now c.args.columns.now c.args.name.now c.if-not-starts_with.ensures.value c.in_ok-column.column (rw c.len-at.ensures.value at c.in_ok-column.ensures.value) c.if-not-contains.ensures.value)
