use Rattle.rm_pcap.proofs.ReadingLemmas.{every_reading}
use Rattle.rm_pcap.proofs.laws.every_reading.Goals as goal

pub returns : goal.returns
returns c = every_reading
