use Rattle.std.proofs.Common.{◌<◌, arith}
use Rattle.rm_probe.proofs.probe.Probe.next_by.Goals as goal

pub returns-in_default-clause-none : goal.returns-in_default-clause-none
returns-in_default-clause-none c = λ journal stands.
    let later : c.args.to < c.in-Some.moment = omega (arith, c.if-moment-from.false, c.from.ensures) in
    c.in-Some.ensures.none journal c.args.to stands later

pub returns-in_default-clause-nothing : goal.returns-in_default-clause-nothing
returns-in_default-clause-nothing c =
    let later : c.args.to < c.in-Some.moment = omega (arith, c.if-moment-from.false, c.from.ensures) in
    c.in-Some.ensures.nothing c.args.to later

pub returns-in_default-2-clause-none : goal.returns-in_default-2-clause-none
returns-in_default-2-clause-none c = λ journal stands. c.in_default.ensures.none journal c.args.to stands tt
