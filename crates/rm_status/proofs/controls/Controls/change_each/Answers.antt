use Rattle.std.proofs.Common.{refl, sym, ap, subst, ◌∙◌}
use Rattle.std.specs.Option.{option_map}
use Rattle.rm_status.specs.Rows.{row_in, AreControlRows}
use Rattle.rm_status.specs.Change.{changed_row}
use Rattle.rm_status.proofs.RowEdits.{rows-map, row_in-map}
use Rattle.rm_status.proofs.controls.Controls.change_each.Goals as goal

pub invariant_of-self : goal.invariant_of-self
invariant_of-self g c =
    let f = changed_row (g.V.Change.changed c.args.how.now) in
    let items = c.self.inside.rows.items in
    subst (AreControlRows g.C.ControlRow.form.table) (sym c.change_all.ensures) ((rows-map f (λ r. refl) g.C.ControlRow.form.table (λ r. refl) items).0 c.self.invariant)

pub returns : goal.returns
returns g c = λ i.
    let f = changed_row (g.V.Change.changed c.args.how.now) in
    ap (λ rows. row_in rows i) c.change_all.ensures ∙ row_in-map f (λ r. refl) c.self.inside.rows.items i ∙ ap (λ rows. option_map f (row_in rows i)) c.self.view_is
