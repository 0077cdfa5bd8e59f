use Rattle.rm_pcap.proofs.RecordLaws.{one_list}
use Rattle.rm_pcap.proofs.laws.one_list_of_records.Goals as goal

pub returns : goal.returns
returns c = one_list
