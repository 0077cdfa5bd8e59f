use Rattle.std.proofs.Common.{sym, ◌∙◌}
use Rattle.rm_words.proofs.CommandLemmas.{two_operands, where_none}
use Rattle.rm_words.proofs.command.two_operands.Goals as goal

pub returns : goal.returns
returns c = two_operands _ _ _ c.in_ok-first.ensures c.in_ok-second.ensures (where_none c.operand-3.result _ _ (sym c.is_some.ensures ∙ c.if-is_some.false) c.operand-3.ensures)
