use Rattle.std.proofs.Common.{drop, length-drop, sym, ap, ◌∙◌, ◌-◌}
use Rattle.rm_columns.proofs.NumberLemmas.{none_of}
use Rattle.rm_columns.proofs.row_keys.OneNumberRowKeys.number.Goals as goal

pub returns-else-len-from-eq1 : goal.returns-else-len-from-eq1
returns-else-len-from-eq1 c = none_of (drop c.args.from c.args.name.now) (λ one.
    c.if-len-from-eq1.false (ap (λ n. n - c.args.from) c.len.ensures.value ∙ sym (length-drop c.args.from c.args.name.now) ∙ one))
