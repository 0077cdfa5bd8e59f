use Rattle.rm_pdu.proofs.DraftSpells.{message_spells}
use Rattle.rm_pdu.proofs.draft.reads_back.Goals as goal

pub returns : goal.returns
returns c = message_spells c.elements_read_back.ensures c.values_read_back.ensures
