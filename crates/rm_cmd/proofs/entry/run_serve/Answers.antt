use Rattle.std.proofs.Common.{◌≡◌, inl, inr, ℕ, List, length, map, ap, sym, ◌∙◌}
use Rattle.rm_edge.specs.Shelves.{KeepsShelf}
use Rattle.rm_edge.specs.Uses.{clock_use, file_use, link_use, sink_use}
use Rattle.rm_captures.specs.Reading.{IsOneOf}
use Rattle.rm_probe.specs.Serving.{Serves, ServesExactly, local_port}
use Rattle.rm_probe.specs.declared.status.Status.TheVariants.{ReadFault}
use Rattle.rm_cmd.proofs.CommandLemmas.{are_set, by_names, names_are}
use Rattle.rm_cmd.proofs.entry.run_serve.Goals as goal

pub serve-requires-clause-ladder : goal.serve-requires-clause-ladder
serve-requires-clause-ladder g c = c.args.captures.ladder

pub serve-requires-clause-many : goal.serve-requires-clause-many
serve-requires-clause-many g c = ap (λ (names : List (List ℕ)). length names) (names_are c.args.captures) ∙ sym c.requires

pub returns-clause-serves : goal.returns-clause-serves
returns-clause-serves g c =
    let file = file_use g.F.Shelf.held g.F.Shelf.faults c.args.shelf.now c.serve.new.shelf in
    record {
      settings = c.args.options.settings;
      set = are_set c.args.options;
      serves = by_names c.args.captures
          (λ (names : List (List ℕ)). Serves c.args.options.settings c.args.options.lead c.args.port c.args.count (local_port c.args.trap_port) (map file names)
          (sink_use g.K.Sink.content g.K.Sink.faults c.args.out.now c.serve.new.out)
          (link_use g.L.Link.bound g.L.Link.received g.L.Link.sent g.L.Link.faults c.args.link.now c.serve.new.link)
          (clock_use g.T.Clock.told c.args.clock.now c.serve.new.clock) c.serve.result)
          c.serve.ensures.serves;
    }

pub returns-clause-exact : goal.returns-clause-exact
returns-clause-exact g c =
    let file = file_use g.F.Shelf.held g.F.Shelf.faults c.args.shelf.now c.serve.new.shelf in
    by_names c.args.captures
    (λ (names : List (List ℕ)). ServesExactly c.args.options.lead (map file names) (sink_use g.K.Sink.content g.K.Sink.faults c.args.out.now c.serve.new.out)
    (link_use g.L.Link.bound g.L.Link.received g.L.Link.sent g.L.Link.faults c.args.link.now c.serve.new.link) c.serve.result)
    c.serve.ensures.exact

pub returns-clause-shelf : goal.returns-clause-shelf
returns-clause-shelf g c =
    by_names c.args.captures
    (λ (names : List (List ℕ)). KeepsShelf g.F.Shelf.held g.F.Shelf.faults c.args.shelf.now c.serve.new.shelf (IsOneOf names) (c.serve.result ≡ ReadFault))
    c.serve.ensures.shelf

pub returns-clause-silent : goal.returns-clause-silent
returns-clause-silent g c = λ either.
    elim either [
      | inl e ↦ absurd (rw e at c.serve.ensures.serves.ends)
      | inr e ↦ let ends = rw e at c.serve.ensures.serves.ends in ends.idle
    ]
