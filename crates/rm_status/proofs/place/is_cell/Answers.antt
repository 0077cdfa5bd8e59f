use Rattle.std.proofs.Common.{◌≡◌, Bool, true, false, ◌&&◌, nat_eq, ap, sym, ◌∙◌, drop, length}
use Rattle.std.specs.Prelude.{Some}
use Rattle.std.specs.List.{starts_with}
use Rattle.rm_model.specs.Judgement.{place_behind}
use Rattle.rm_status.specs.Commit.{is_cell}
use Rattle.rm_status.proofs.PlaceLemmas.{cell_by_parts}
use Rattle.rm_status.proofs.place.is_cell.Goals as goal

pub returns-then-is_at : goal.returns-then-is_at
returns-then-is_at g c =
    let t = g.C.ControlRow.form.table in
    let begins : Bool = starts_with nat_eq c.args.name.now c.args.entry.now in
    let there : is_cell c.args.column c.args.row (place_behind t (Some (drop (length c.args.entry.now) c.args.name.now))) ≡ true =
    rw (← c.len.ensures.value, ← c.place_from.ensures, ← c.is_at.ensures) c.if-is_at.true in
    c.starts_with.ensures.value ∙ sym (ap (λ b. b && begins) there) ∙ cell_by_parts t c.args.entry.now c.args.name.now c.args.column c.args.row

pub returns-else-is_at : goal.returns-else-is_at
returns-else-is_at g c =
    let t = g.C.ControlRow.form.table in
    let begins : Bool = starts_with nat_eq c.args.name.now c.args.entry.now in
    let there : is_cell c.args.column c.args.row (place_behind t (Some (drop (length c.args.entry.now) c.args.name.now))) ≡ false =
    rw (← c.len.ensures.value, ← c.place_from.ensures, ← c.is_at.ensures) c.if-is_at.false in
    c.if-is_at.false ∙ sym (ap (λ b. b && begins) there) ∙ cell_by_parts t c.args.entry.now c.args.name.now c.args.column c.args.row
