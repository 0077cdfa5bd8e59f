use Rattle.std.proofs.Common.{sym, ap, ◌∙◌}
use Rattle.std.specs.Prelude.{is_some}
use Rattle.rm_val.specs.Val.{val_of}
use Rattle.rm_val.specs.declared.error.ErrorStatus.TheVariants.{WrongValue}
use Rattle.rm_model.specs.Judgement.{unless}
use Rattle.rm_columns.proofs.Named.{source_found}
use Rattle.rm_columns.proofs.values.source_fault.Goals as goal

pub returns-in-Some : goal.returns-in-Some
returns-in-Some c =
    let known = source_found (val_of c.args.value.now) c.source.result c.source.ensures ∙ ap is_some c.in-Some.is in
    rw c.in-Name.is (ap (λ known. unless known WrongValue) (sym (rw c.in-Name.is at known)))

pub returns-in-None : goal.returns-in-None
returns-in-None c =
    let known = source_found (val_of c.args.value.now) c.source.result c.source.ensures ∙ ap is_some c.in-None.is in
    rw c.in-Name.is (ap (λ known. unless known WrongValue) (sym (rw c.in-Name.is at known)))
