use Rattle.rm_pdu.proofs.laws.no_message_in_front.Goals as goal

pub returns : goal.returns
returns c = λ bytes m n count spells fewer front. c.no_element_in_front.ensures 0x30 0x30 spells.content front.content bytes count spells.opens fewer front.opens
