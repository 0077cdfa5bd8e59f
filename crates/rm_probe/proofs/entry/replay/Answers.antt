use Rattle.std.proofs.Common.{rules, ◌≡◌, ◌⊎◌, ℕ, List, map, subst, ap, ◌∙◌}
use Rattle.rm_edge.specs.Shelves.{KeepsShelf}
use Rattle.rm_edge.specs.Uses.{file_use, sink_use}
use Rattle.rm_captures.specs.Reading.{IsOneOf, texts}
use Rattle.rm_probe.specs.Capture.{names_of}
use Rattle.rm_probe.specs.Ends.{Ends, IsComplete, IsExact}
use Rattle.rm_probe.specs.declared.status.Status.TheVariants.{ReadFault}
use Rattle.rm_probe.proofs.NameLemmas.{few_names}
use Rattle.rm_probe.proofs.entry.replay.Goals as goal

pub replay_captures-requires : goal.replay_captures-requires
replay_captures-requires g c = record { few = few_names c.new-names.result.all c.as_slice.result.now c.new-names.result.count (search rules) c.as_slice.ensures.value }

pub returns : goal.returns
returns g c =
    let same : texts c.as_slice.result.now ≡ names_of c.args.capture.now c.args.if2 c.args.if3 c.args.if4 = ap texts c.as_slice.ensures.value ∙ c.new-names.ensures.names in
    let r = c.replay_captures.ensures in
    record {
      ends = subst (λ (names : List (List ℕ)). Ends c.args.settings c.args.lead (map (file_use g.F.Shelf.held g.F.Shelf.faults c.args.shelf.now c.replay_captures.new.shelf) names)
          (file_use g.F.Shelf.held g.F.Shelf.faults c.args.shelf.now c.replay_captures.new.shelf c.args.requests.now) (sink_use g.K.Sink.content g.K.Sink.faults c.args.out.now c.replay_captures.new.out) c.replay_captures.result) same r.ends;
      exact = subst (λ (names : List (List ℕ)). IsExact c.args.lead (map (g.F.Shelf.held c.args.shelf.now) names) (g.F.Shelf.held c.args.shelf.now c.args.requests.now) c.replay_captures.result) same r.exact;
      complete = subst (λ (names : List (List ℕ)). IsComplete c.args.lead (map (file_use g.F.Shelf.held g.F.Shelf.faults c.args.shelf.now c.replay_captures.new.shelf) names)
          (file_use g.F.Shelf.held g.F.Shelf.faults c.args.shelf.now c.replay_captures.new.shelf c.args.requests.now) (sink_use g.K.Sink.content g.K.Sink.faults c.args.out.now c.replay_captures.new.out) c.replay_captures.result) same r.complete;
      silent = r.silent;
      shelf = subst (λ (names : List (List ℕ)). KeepsShelf g.F.Shelf.held g.F.Shelf.faults c.args.shelf.now c.replay_captures.new.shelf (λ each. IsOneOf names each ⊎ (each ≡ c.args.requests.now)) (c.replay_captures.result ≡ ReadFault)) same r.shelf;
      later = r.later;
    }
