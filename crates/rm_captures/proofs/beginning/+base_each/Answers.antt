use Rattle.std.proofs.Common.{rules, List, subst}
use Rattle.std.specs.Prelude.{None}
use Rattle.rm_pcap.specs.declared.capture.Capture.{Capture}
use Rattle.rm_captures.specs.Reading.{AreReady, AreUnseen}
use Rattle.rm_captures.proofs.RoundLemmas.{unseen_split, unseen_join, based_none, more_based}
use Rattle.rm_captures.proofs.beginning.+base_each.Goals as goal

pub based-requires : goal.based-requires
based-requires t c = record { unseen = (unseen_split c.args.captures.now c.in-Some.capture.now c.in-Some.others.now c.in-Some.ensures.cases.0 c.requires).0 }

pub base_each-requires : goal.base_each-requires
base_each-requires t c =
    let unseen : AreUnseen c.in-Some.others.now = (unseen_split c.args.captures.now c.in-Some.capture.now c.in-Some.others.now c.in-Some.ensures.cases.0 c.requires).1 in
    search rules

pub returns-in-Some-clause-unseen : goal.returns-in-Some-clause-unseen
returns-in-Some-clause-unseen t c = unseen_join c.based.new.self c.base_each.new.captures c.based.ensures.unseen c.base_each.ensures.unseen

pub returns-in-Some-clause-ready : goal.returns-in-Some-clause-ready
returns-in-Some-clause-ready t c = λ lead interface files ready.
    more_based c.args.base lead interface files c.in-Some.capture.now c.based.new.self c.in-Some.others.now c.base_each.new.captures c.based.ensures.place c.based.ensures.unseen c.based.ensures.agrees
    (λ more then. c.base_each.ensures.ready lead _ more then)
    (subst (λ (cs : List Capture). AreReady None lead interface files cs) c.in-Some.ensures.cases.0 ready)

pub returns-in_default-clause-ready : goal.returns-in_default-clause-ready
returns-in_default-clause-ready t c = λ lead interface files ready. based_none c.args.base lead interface files c.args.captures.now c.in_default.ensures.cases ready
