use Rattle.std.proofs.Common.{◌≡◌, ◌/◌, Some, None, sym, ◌∙◌, arith}
use Rattle.std.specs.Str.{bytes_eq}
use Rattle.rm_upper.specs.Shown.{protocols}
use Rattle.rm_layer_hosts.specs.Counts.{host_tally}
use Rattle.rm_layer_tables.specs.Going.{passed_on, unnamed}
use Rattle.rm_layer_tables.specs.Layer.{named_by, names_of, references_to, side_of}
use Rattle.rm_layer_tables.specs.LayerLaws.{is_side_of, named_of}
use Rattle.rm_layer_tables.specs.Tuned.{tuned_for}
use Rattle.rm_layer_tables.proofs.PathLemmas.{on_path}
use Rattle.rm_hl_hosts.specs.Collection.{hosts_of}
use Rattle.rm_hl_hosts.specs.HostLaws.{names_few}
use Rattle.rm_hl_hosts.specs.Hosts.{host_layer}
use Rattle.rm_hl_hosts.proofs.counted_frame.CountedFrameChangeHostPart.change.Goals as goal

pub returns-in_default : goal.returns-in_default
returns-in_default c = record {
  stands = λ settings row journal frame known stamp moment path is. record {
    source = is.source;
    held = unnamed host_layer host_tally bytes_eq settings row journal frame (hosts_of c.args.part.now)
        (named_of host_layer settings row frame journal c.args.part.now.source c.args.self.now.facts.now known is.source c.args.self.now.moment c.args.self.now.path.now None moment path (sym c.in_default.is ∙ c.ends_for.ensures)) is.held;
  };
  ready = (omega (arith, c.requires.0), c.requires.1);
}

pub returns-in-Some : goal.returns-in-Some
returns-in-Some c = record {
  stands = λ settings row journal frame known stamp moment path is.
      let frame_path = c.args.self.now.path.now in
      let tick = c.args.self.now.moment / 10 in
      let ends = c.in-Some.pair in
      let refs : names_of host_layer settings row frame journal ≡ references_to tick frame_path (named_by host_layer c.args.self.now.facts.now (Some ends)) =
      named_of host_layer settings row frame journal c.args.part.now.source c.args.self.now.facts.now known is.source c.args.self.now.moment frame_path (Some ends) moment path (sym c.in-Some.is ∙ c.ends_for.ensures) in
      record {
        source = is.source;
        held = passed_on host_layer host_tally bytes_eq settings row journal frame (hosts_of c.args.part.now) c.pass.new.table is.held c.pass.ensures.capacity c.pass.ensures.on c.pass.ensures.slots
            (c.pass.ensures.stands (side_of host_layer settings row) journal frame frame_path (is_side_of host_layer names_few settings row) (rw (c.sent.ensures, c.received.ensures) refs) stamp is.held.on
            (tuned_for host_layer names_few bytes_eq settings row journal (protocols (hosts_of c.args.part.now).layered.slots) is.held.slots) (λ protocol here. on_path frame_path protocol) is.held.stands);
      };
  ready = let next = c.pass.ensures.next in let latest = c.pass.ensures.latest in (omega (arith, next), omega (arith, latest));
}
