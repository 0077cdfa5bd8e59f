use Rattle.std.proofs.Common.{◌≡◌, false, sym, ◌∙◌, drop, length}
use Rattle.std.specs.Prelude.{Some}
use Rattle.rm_val.specs.Val.{val_of}
use Rattle.rm_model.specs.Judgement.{place_behind}
use Rattle.rm_status.specs.Commit.{is_of_row}
use Rattle.rm_status.proofs.PlaceLemmas.{put_elsewhere}
use Rattle.rm_status.proofs.given.put_one.Goals as goal

pub returns-then-not-may_be_of_row : goal.returns-then-not-may_be_of_row
returns-then-not-may_be_of_row g c =
    let C = g.C.ControlRow.form in
    let other : is_of_row c.args.row (place_behind C.table (Some (drop (length C.table.entry) c.args.name.now))) ≡ false =
    rw (← c.requires.entry) (sym c.may_be_of_row.ensures ∙ c.if-not-may_be_of_row.true) in
    sym (put_elsewhere C.table C.with_column C.blank C.table.entry c.args.name.now c.args.row (val_of c.args.value.now) c.args.columns.now other)
