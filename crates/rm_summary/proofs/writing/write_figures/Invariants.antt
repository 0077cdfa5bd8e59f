use Rattle.std.proofs.Common.{take}
use Rattle.rm_summary.specs.Text.{figure_lines}
use Rattle.rm_summary.specs.Counted.{figure_in}
use Rattle.rm_summary.proofs.WriteLemmas.{PutSoFar}
use Rattle.rm_summary.proofs.writing.write_figures.Given as goal

abbrev pub invariant-loop-figure : goal.invariant-loop-figure
invariant-loop-figure g l =
    PutSoFar (g.K.Sink.content l.fn.out) (g.K.Sink.content l.out) (g.K.Sink.faults l.fn.out) (g.K.Sink.faults l.out) (figure_lines (figure_in l.counts) (take l.figure-index l.figures))
