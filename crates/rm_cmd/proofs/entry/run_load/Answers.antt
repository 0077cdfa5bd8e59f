use Rattle.std.proofs.Common.{ℕ, Result, Ok, Err, refl}
use Rattle.rm_edge.specs.Uses.{SinkUse}
use Rattle.rm_words.specs.Told.{options_of}
use Rattle.rm_words.specs.declared.options.RunOptions.{RunOptions}
use Rattle.rm_load.specs.Ends.{Ends as LoadEnds}
use Rattle.rm_load.specs.declared.entry.LoadFault.{LoadFault}
use Rattle.rm_load.specs.declared.entry.LoadFault.TheVariants.{NoMemory, Put}
use Rattle.rm_cmd.specs.Commands.{LoadsWith, status_of_load}
use Rattle.rm_cmd.proofs.CommandLemmas.{are_set}
use Rattle.rm_cmd.proofs.entry.run_load.Goals as goal

-- a load of a probe that is set to the options ends `load` by its answer
by_answer : (options : RunOptions) (start count : ℕ) (out : SinkUse) (answer : Result (Unit {0}) LoadFault) → LoadEnds options.settings start count out answer
    → LoadsWith (options_of options) start count out (status_of_load answer)
by_answer options start count out answer ends = record { settings = options.settings; set = are_set options; answer = answer; result_is = refl; ends = ends }

pub returns-in-Ok-clause-loads : goal.returns-in-Ok-clause-loads
returns-in-Ok-clause-loads g c = by_answer c.args.options _ _ _ (Ok tt) c.in-Ok.ensures.ends

pub returns-in-Err-Put-clause-loads : goal.returns-in-Err-Put-clause-loads
returns-in-Err-Put-clause-loads g c = by_answer c.args.options _ _ _ (Err Put) (rw c.in-Err-Put.field-0-is at c.in-Err-Put.ensures.ends)

pub returns-in-Err-NoMemory-clause-loads : goal.returns-in-Err-NoMemory-clause-loads
returns-in-Err-NoMemory-clause-loads g c = by_answer c.args.options _ _ _ (Err NoMemory) (rw c.in-Err-NoMemory.field-0-is at c.in-Err-NoMemory.ensures.ends)
