use Rattle.std.proofs.Common.{sym, ◌∙◌}
use Rattle.rm_words.proofs.CommandLemmas.{one_operand, where_none}
use Rattle.rm_words.proofs.command.one_operand.Goals as goal

pub returns : goal.returns
returns c = one_operand _ _ c.in_ok-text.ensures (where_none c.operand-2.result _ _ (sym c.is_some.ensures ∙ c.if-is_some.false) c.operand-2.ensures)
