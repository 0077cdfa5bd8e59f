use Rattle.std.proofs.Common.{rules, ◌≡◌, List, ℕ, map, subst, ap, ◌∙◌}
use Rattle.rm_edge.specs.Shelves.{KeepsShelf}
use Rattle.rm_edge.specs.Uses.{clock_use, file_use, link_use, sink_use}
use Rattle.rm_captures.specs.Reading.{IsOneOf, texts}
use Rattle.rm_probe.specs.Capture.{names_of}
use Rattle.rm_probe.specs.Serving.{Serves, ServesExactly, local_port}
use Rattle.rm_probe.specs.declared.status.Status.TheVariants.{ReadFault}
use Rattle.rm_probe.proofs.NameLemmas.{few_names}
use Rattle.rm_probe.proofs.serving.serve.Goals as goal

pub serve_captures-requires : goal.serve_captures-requires
serve_captures-requires g c = record { few = few_names c.new-names.result.all c.as_slice.result.now c.new-names.result.count (search rules) c.as_slice.ensures.value }

pub returns : goal.returns
returns g c =
    let same : texts c.as_slice.result.now ≡ names_of c.args.capture.now c.args.if2 c.args.if3 c.args.if4 = ap texts c.as_slice.ensures.value ∙ c.new-names.ensures.names in
    let r = c.serve_captures.ensures in
    let out = sink_use g.K.Sink.content g.K.Sink.faults c.args.out.now c.serve_captures.new.out in
    let link = link_use g.L.Link.bound g.L.Link.received g.L.Link.sent g.L.Link.faults c.args.link.now c.serve_captures.new.link in
    record {
      serves = subst (λ (names : List (List ℕ)). Serves c.args.settings c.args.lead c.args.port c.args.count (local_port c.args.trap_port)
          (map (file_use g.F.Shelf.held g.F.Shelf.faults c.args.shelf.now c.serve_captures.new.shelf) names) out link (clock_use g.T.Clock.told c.args.clock.now c.serve_captures.new.clock) c.serve_captures.result) same r.serves;
      exact = subst (λ (names : List (List ℕ)). ServesExactly c.args.lead (map (file_use g.F.Shelf.held g.F.Shelf.faults c.args.shelf.now c.serve_captures.new.shelf) names) out link c.serve_captures.result) same r.exact;
      shelf = subst (λ (names : List (List ℕ)). KeepsShelf g.F.Shelf.held g.F.Shelf.faults c.args.shelf.now c.serve_captures.new.shelf (IsOneOf names) (c.serve_captures.result ≡ ReadFault)) same r.shelf;
      later = r.later;
    }
