use Rattle.rm_pcap.proofs.ReadingLemmas.{readings_are_records}
use Rattle.rm_pcap.proofs.laws.readings_are_records.Goals as goal

pub returns : goal.returns
returns c = readings_are_records
