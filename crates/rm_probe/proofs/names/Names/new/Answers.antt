use Rattle.rm_probe.proofs.NameLemmas.{names_are}
use Rattle.rm_probe.proofs.names.Names.new.Goals as goal

pub returns : goal.returns
returns c = record {
  names = names_are c.args.capture c.args.if2 c.args.if3 c.args.if4 c.unwrap_or-second.result c.unwrap_or-third.result c.unwrap_or-fourth.result _ _ _ c.capture_count-count.result c.requires.ladder
      c.unwrap_or-second.ensures c.unwrap_or-third.ensures c.unwrap_or-fourth.ensures c.capture_count-count.ensures.count;
}
