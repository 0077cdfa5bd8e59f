use Rattle.std.proofs.Common.{sym, ◌∙◌, ap}
use Rattle.rm_dir.specs.DirectoryIndex.{directory_number}
use Rattle.rm_dir.proofs.Numbers.{of_several}
use Rattle.rm_dir.proofs.keys.DirectoryKeysRowKeys.number.Goals as goal

pub returns-else-len-eq1 : goal.returns-else-len-eq1
returns-else-len-eq1 c =
    c.number_of.ensures ∙ sym (of_several c.numbers_from-index.result (λ is. c.if-len-eq1.false (c.len.ensures.value ∙ is)))
    ∙ ap directory_number c.numbers_from-index.ensures
