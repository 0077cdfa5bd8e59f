use Rattle.std.proofs.Common.{◌/◌, [], ◌∷◌, Some, None, sym, ◌∙◌, arith}
use Rattle.rm_layer_matrices.specs.PairCounts.{pair_tally}
use Rattle.rm_layer_tables.specs.Going.{unnamed}
use Rattle.rm_layer_tables.specs.Layer.{references_to}
use Rattle.rm_layer_tables.specs.LayerLaws.{named_of}
use Rattle.rm_hl_matrices.specs.Collection.{by_source}
use Rattle.rm_hl_matrices.specs.PairLaws.{source_named}
use Rattle.rm_hl_matrices.specs.Pairs.{source_layer}
use Rattle.rm_hl_matrices.specs.PairCells.{same_pair}
use Rattle.rm_hl_matrices.proofs.counted_frame.CountedFrameChangePairPart.change.Goals as goal

pub returns-in_default : goal.returns-in_default
returns-in_default c = record {
  stands = λ settings row journal frame known stamp moment path is. record {
    source = is.source;
    held = unnamed source_layer pair_tally same_pair settings row journal frame (by_source c.args.part.now)
        (named_of source_layer settings row frame journal c.args.part.now.source c.args.self.now.facts.now known is.source c.args.self.now.moment c.args.self.now.path.now None moment path (sym c.in_default.is ∙ c.ends_for.ensures)) is.held;
  };
  ready = (omega (arith, c.requires.0), c.requires.1);
}

pub returns-in-Some : goal.returns-in-Some
returns-in-Some c = record {
  stands = λ settings row journal frame known stamp moment path is. record {
    source = is.source;
    held = c.take_pair.ensures.stands source_layer settings row journal frame source_named
        (named_of source_layer settings row frame journal c.args.part.now.source c.args.self.now.facts.now known is.source c.args.self.now.moment c.args.self.now.path.now (Some c.in-Some.ends) moment path (sym c.in-Some.is ∙ c.ends_for.ensures)
        ∙ (λ d. references_to (c.args.self.now.moment / 10) c.args.self.now.path.now ((record { first = c.in-Some.ends.source; second = c.in-Some.ends.dest }, sym c.carried-gain.ensures d) ∷ [])))
        stamp is.held;
  };
  ready = let next = c.take_pair.ensures.next in let latest = c.take_pair.ensures.latest in (omega (arith, next), omega (arith, latest));
}
