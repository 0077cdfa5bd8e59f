use Rattle.std.proofs.Common.{refl}
use Rattle.rm_rows.proofs.CreditLemmas.{credited-here, credited-absent}
use Rattle.rm_keyed.proofs.keyed.credit.Goals as goal

pub returns-in-Some : goal.returns-in-Some
returns-in-Some g c =
    let same = credited-here g.K.PartialEq.eq g.V.Counts.plus c.args.key.now c.in-Some.value.now c.add.new.self c.args.gain.now c.args.rows.now.rows c.in-Some.ensures.value c.add.ensures in
    rw same refl

pub returns-in_default : goal.returns-in_default
returns-in_default g c =
    let same = credited-absent g.K.PartialEq.eq g.V.Counts.plus c.args.key.now c.args.gain.now c.args.rows.now.rows (c.in_default.ensures).none in
    rw same refl
