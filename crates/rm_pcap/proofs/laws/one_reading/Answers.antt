use Rattle.rm_pcap.proofs.ReadingLemmas.{one_reading}
use Rattle.rm_pcap.proofs.laws.one_reading.Goals as goal

pub returns : goal.returns
returns c = one_reading
