use Rattle.std.proofs.Common.{sym, ◌∙◌}
use Rattle.rm_words.proofs.CommandLemmas.{no_name, not_whole, read_is}
use Rattle.rm_words.proofs.command.read_command.Goals as goal

pub returns-then-not-are_whole : goal.returns-then-not-are_whole
returns-then-not-are_whole c = not_whole c.in-Some.name c.args.words.now c.at.result.now c.at.ensures (sym c.in-Some.ensures) (sym c.are_whole.ensures ∙ c.if-not-are_whole.true)

pub returns : goal.returns
returns c = read_is c.in-Some.name c.args.words.now c.at.result.now _ c.at.ensures (sym c.in-Some.ensures) (sym c.are_whole.ensures ∙ c.if-not-are_whole.false) c.read_behind.ensures

pub returns-in_default : goal.returns-in_default
returns-in_default c = no_name c.args.words.now c.at.result.now c.at.ensures (sym c.in_default.ensures)
