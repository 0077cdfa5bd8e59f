use Rattle.std.proofs.Common.{◌≡◌, ◌⊎◌, ℕ, List, length, map, ap, sym, ◌∙◌}
use Rattle.rm_edge.specs.Shelves.{KeepsShelf}
use Rattle.rm_edge.specs.Uses.{file_use, sink_use}
use Rattle.rm_captures.specs.Reading.{IsOneOf}
use Rattle.rm_probe.specs.Ends.{Ends, IsComplete, IsExact}
use Rattle.rm_probe.specs.declared.status.Status.TheVariants.{ReadFault}
use Rattle.rm_cmd.proofs.CommandLemmas.{are_set, by_names, names_are}
use Rattle.rm_cmd.proofs.entry.run_replay.Goals as goal

pub replay-requires-clause-ladder : goal.replay-requires-clause-ladder
replay-requires-clause-ladder g c = c.args.captures.ladder

pub replay-requires-clause-many : goal.replay-requires-clause-many
replay-requires-clause-many g c = ap (λ (names : List (List ℕ)). length names) (names_are c.args.captures) ∙ sym c.requires

pub returns-clause-ends : goal.returns-clause-ends
returns-clause-ends g c =
    let file = file_use g.F.Shelf.held g.F.Shelf.faults c.args.shelf.now c.replay.new.shelf in
    record {
      settings = c.args.options.settings;
      set = are_set c.args.options;
      ends = by_names c.args.captures
          (λ (names : List (List ℕ)). Ends c.args.options.settings c.args.options.lead (map file names) (file c.args.requests.now)
          (sink_use g.K.Sink.content g.K.Sink.faults c.args.out.now c.replay.new.out) c.replay.result)
          c.replay.ensures.ends;
    }

pub returns-clause-exact : goal.returns-clause-exact
returns-clause-exact g c =
    by_names c.args.captures
    (λ (names : List (List ℕ)). IsExact c.args.options.lead (map (g.F.Shelf.held c.args.shelf.now) names) (g.F.Shelf.held c.args.shelf.now c.args.requests.now) c.replay.result)
    c.replay.ensures.exact

pub returns-clause-complete : goal.returns-clause-complete
returns-clause-complete g c =
    let file = file_use g.F.Shelf.held g.F.Shelf.faults c.args.shelf.now c.replay.new.shelf in
    by_names c.args.captures
    (λ (names : List (List ℕ)). IsComplete c.args.options.lead (map file names) (file c.args.requests.now) (sink_use g.K.Sink.content g.K.Sink.faults c.args.out.now c.replay.new.out) c.replay.result)
    c.replay.ensures.complete

pub returns-clause-shelf : goal.returns-clause-shelf
returns-clause-shelf g c =
    by_names c.args.captures
    (λ (names : List (List ℕ)). KeepsShelf g.F.Shelf.held g.F.Shelf.faults c.args.shelf.now c.replay.new.shelf (λ each. IsOneOf names each ⊎ (each ≡ c.args.requests.now)) (c.replay.result ≡ ReadFault))
    c.replay.ensures.shelf
