use Rattle.std.proofs.Common.{◌∙◌}
use Rattle.rm_pcap.specs.View.{progress_of}
use Rattle.rm_captures.proofs.RoundLemmas.{begins_one, refuses_first}
use Rattle.rm_captures.proofs.beginning.begin_one.Goals as goal

pub returns-in-Ok-first-clause-begins : goal.returns-in-Ok-first-clause-begins
returns-in-Ok-first-clause-begins g c = λ bytes is.
    begins_one c.args.lead c.args.interface _ bytes _ (progress_of c.in-Ok.capture) (progress_of c.first.new.self) c.in-Ok-first.time
    (c.in-Ok.ensures.shelf.constant c.args.name.now ∙ is) c.in-Ok.ensures.begun (c.in-Ok.ensures.header bytes is) c.in-Ok-first.ensures.looks

pub returns-in-Err-first-clause-begins : goal.returns-in-Err-first-clause-begins
returns-in-Err-first-clause-begins g c = λ bytes is.
    refuses_first c.args.lead c.args.interface _ bytes _ (progress_of c.in-Ok.capture) (progress_of c.first.new.self) c.in-Err-first.fault
    (c.in-Ok.ensures.shelf.constant c.args.name.now ∙ is) c.in-Ok.ensures.begun (c.in-Ok.ensures.header bytes is) c.in-Err-first.ensures.looks
