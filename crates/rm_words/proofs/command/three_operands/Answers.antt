use Rattle.std.proofs.Common.{sym, ◌∙◌}
use Rattle.rm_words.proofs.CommandLemmas.{three_operands, where_none}
use Rattle.rm_words.proofs.command.three_operands.Goals as goal

pub returns : goal.returns
returns c = three_operands _ _ _ _ c.in_ok-first.ensures c.in_ok-second.ensures c.in_ok-third.ensures (where_none c.operand-4.result _ _ (sym c.is_some.ensures ∙ c.if-is_some.false) c.operand-4.ensures)
