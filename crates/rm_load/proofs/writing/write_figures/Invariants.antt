use Rattle.std.proofs.Common.{◌≤◌, take}
use Rattle.rm_agent.specs.Groups.{cells}
use Rattle.rm_edge.specs.Outside.{Adds}
use Rattle.rm_model.specs.Journal.{Journal}
use Rattle.rm_probe.specs.Probe.{settings_of, Stands}
use Rattle.rm_load.specs.Text.{figure_lines}
use Rattle.rm_load.proofs.writing.write_figures.Given as goal

abbrev pub invariant-loop-figure : goal.invariant-loop-figure
invariant-loop-figure g l = record {
  octets : (journal : Journal) → Stands l.probe journal → Adds (g.K.Sink.content l.fn.out) (g.K.Sink.content l.out) (figure_lines (cells (settings_of l.probe) journal l.moment) (take l.figure-index l.figures));
  later : g.K.Sink.faults l.fn.out ≤ g.K.Sink.faults l.out;
}
