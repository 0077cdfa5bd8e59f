use Rattle.std.proofs.Common.{refl, [], Some}
use Rattle.rm_probe.specs.Output.{shown}
use Rattle.rm_probe.specs.declared.output.OutputFault.TheVariants.{Put}
use Rattle.rm_probe.proofs.OutputLemmas.{failed_adds, put_adds}
use Rattle.rm_probe.proofs.output.Output.put.Goals as goal

pub returns-in-Some-clause-adds : goal.returns-in-Some-clause-adds
returns-in-Some-clause-adds g c =
    failed_adds (shown g.K.Sink.content g.K.Sink.faults g.P.Post.sent g.P.Post.faults c.args.self.now.sink.now c.args.self.now.post c.args.self.now.failed) c.args.line.now.items [] c.in-Some.fault c.in-Some.is

pub returns-in-Ok-clause-adds : goal.returns-in-Ok-clause-adds
returns-in-Ok-clause-adds g c =
    put_adds (shown g.K.Sink.content g.K.Sink.faults g.P.Post.sent g.P.Post.faults c.args.self.now.sink.now c.args.self.now.post c.args.self.now.failed)
    (shown g.K.Sink.content g.K.Sink.faults g.P.Post.sent g.P.Post.faults c.put.new.self c.args.self.now.post c.args.self.now.failed) c.args.line.now.items c.put.result c.in_default.is
    (rw c.as_slice.ensures.value at c.put.ensures.octets) c.put.ensures.cause refl refl (rw c.in-Ok.is c.in_default.is)

pub returns-in-Err-clause-adds : goal.returns-in-Err-clause-adds
returns-in-Err-clause-adds g c =
    put_adds (shown g.K.Sink.content g.K.Sink.faults g.P.Post.sent g.P.Post.faults c.args.self.now.sink.now c.args.self.now.post c.args.self.now.failed)
    (shown g.K.Sink.content g.K.Sink.faults g.P.Post.sent g.P.Post.faults c.put.new.self c.args.self.now.post (Some Put)) c.args.line.now.items c.put.result c.in_default.is
    (rw c.as_slice.ensures.value at c.put.ensures.octets) c.put.ensures.cause refl refl (rw c.in-Err.is refl)
