use Rattle.std.proofs.Common.{arith, ap, sym, ◌∙◌}
use Rattle.rm_val.specs.Val.{val_of}
use Rattle.rm_columns.proofs.Sources.{none_up_to, named_first}
use Rattle.rm_columns.proofs.interface.source.Goals as goal

pub loop-number-preserved : goal.loop-number-preserved
loop-number-preserved c =
    ((omega arith), none_up_to c.in-Name.name c.loop-number.number c.compare.result c.loop-number.invariant.1 (rw c.interface_name.ensures at c.compare.ensures.value) (sym c.is_eq.ensures ∙ c.if-is_eq.false))

pub returns-then-is_eq : goal.returns-then-is_eq
returns-then-is_eq c =
    named_first _ c.in-Name.name c.loop-number.number c.compare.result (ap val_of c.in-Name.is) c.loop-number.invariant.0 (omega (arith, c.loop-number-test.true))
    (rw c.interface_name.ensures at c.compare.ensures.value) (sym c.is_eq.ensures ∙ c.if-is_eq.true)
