use Rattle.std.proofs.Common.{◌≡◌, ◌≤◌, ◌+◌}
use Rattle.rm_probe.specs.Probe.{settings_of, last_given, frames_given, Stands}
use Rattle.rm_load.specs.Acts.{acts_of}
use Rattle.rm_load.specs.Draws.{number_of}
use Rattle.rm_load.proofs.loading.pass_frames.Given as goal

abbrev pub invariant-loop-made : goal.invariant-loop-made
invariant-loop-made l = record {
  number : l.made-iterator.number ≡ number_of l.start l.made-iterator.passed;
  count : l.made-iterator.count ≡ l.count;
  within : l.made-iterator.passed ≤ l.count;
  stands : Stands l.probe (acts_of l.start l.made-iterator.passed);
  settings : settings_of l.probe ≡ settings_of l.fn.probe;
  last : last_given l.probe ≤ 1000 + l.made-iterator.passed;
  frames : frames_given l.probe ≡ l.made-iterator.passed;
}
