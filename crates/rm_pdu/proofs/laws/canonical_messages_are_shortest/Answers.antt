use Rattle.rm_pdu.proofs.Shortest.{message_fewest}
use Rattle.rm_pdu.proofs.laws.canonical_messages_are_shortest.Goals as goal

pub returns-clause-fewest : goal.returns-clause-fewest
returns-clause-fewest c = λ bytes m spells octets.
    (message_fewest c.elements_are_shortest.ensures c.canonical_is_shortest.ensures c.canonical_stands_alone.ensures bytes m spells octets).few

pub returns-clause-alone : goal.returns-clause-alone
returns-clause-alone c = λ bytes m spells octets.
    (message_fewest c.elements_are_shortest.ensures c.canonical_is_shortest.ensures c.canonical_stands_alone.ensures bytes m spells octets).only
