use Rattle.std.proofs.Common.{rules, sym, ap, ◌∙◌}
use Rattle.rm_hl_hosts.specs.Collection.{host_collection}
use Rattle.rm_hl_matrices.specs.Collection.{pair_collection}
use Rattle.rm_layer_tables.specs.Layer.{locals_above_ip}
use Rattle.rm_protocols.proofs.group.ProtocolTablesUnfired.take_frame.Goals as goal

pub take_judged-requires : goal.take_judged-requires
unfolding host_collection
take_judged-requires c = (search rules, (search rules, (search rules, (search rules, tt))))

pub take_judged-requires-2 : goal.take_judged-requires-2
unfolding pair_collection
take_judged-requires-2 c = (search rules, (search rules, (search rules, (search rules, tt))))

pub returns-clause-stands : goal.returns-clause-stands
unfolding host_collection pair_collection
returns-clause-stands c settings earlier frame is stands later asked =
    let path = c.as_slice-path.ensures.value ∙ c.locals_above_ip-above_ip.ensures earlier stands.directory ∙ ap (locals_above_ip earlier) is.known in record {
      directory = c.pass.ensures.begins settings earlier frame is stands.directory later tt;
      distribution = c.frame.ensures.stands settings earlier frame stands.directory stands.distribution is.known (sym is.at);
      hosts = c.take_judged.ensures.stands settings earlier frame stands.hosts is path;
      pairs = c.take_judged-2.ensures.stands settings earlier frame stands.pairs is path;
    }
