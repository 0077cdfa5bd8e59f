use Rattle.std.proofs.Common.{sym, ap, ◌∙◌}
use Rattle.rm_words.specs.Grammar.{is_hex}
use Rattle.rm_words.proofs.command.read_decode.Goals as goal

pub returns : goal.returns
returns c = record {
  operand_is = c.in_ok-hex.ensures;
  hex_is = ap is_hex (sym c.as_bytes.ensures.value) ∙ sym c.is_hex.ensures ∙ c.if-not-is_hex.false;
}
