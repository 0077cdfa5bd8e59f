use Rattle.std.proofs.Common.{arith, refl}
use Rattle.std.proofs.lemmas.Grind.{common_steps}
use Rattle.rm_pdu.specs.Message.{Message}
use Rattle.rm_pdu.specs.Draft.{empty_message}
use Rattle.rm_pdu.proofs.DraftSizes.{new_short}
use Rattle.rm_pdu.proofs.Lengths.{empty_short}
use Rattle.rm_pdu.proofs.draft.Draft.new.Goals as goal

pub invariant_of-result : goal.invariant_of-result
invariant_of-result c =
    new_short (record { community = c.append.new.out.items; kind = c.args.kind; id = _; first = _; second = _; list = c.new.result })
    (grind (arith, common_steps)) (grind (arith, common_steps))

pub returns-clause-fits : goal.returns-clause-fits
returns-clause-fits c =
    let m : Message = empty_message c.args.community.now c.args.kind c.args.id c.args.status c.args.index in
    empty_short m c.requires refl
