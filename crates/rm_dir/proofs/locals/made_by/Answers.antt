use Rattle.std.proofs.Common.{◌≡◌, not, ap, sym, ◌∙◌}
use Rattle.rm_model.specs.ControlRows.{set_ask}
use Rattle.rm_model.specs.Judgement.{name_at, place_of, is_again, is_made}
use Rattle.rm_model.specs.declared.place.Place.TheVariants.{Cell}
use Rattle.rm_status.specs.Commit.{made_by}
use Rattle.rm_status.specs.Rows.{state_in}
use Rattle.rm_dir.specs.DirectoryIndex.{directory_index}
use Rattle.rm_dir.specs.ProtocolDir.{protocol_dir}
use Rattle.rm_dir.proofs.Asked.{one_made}
use Rattle.rm_dir.proofs.locals.made_by.Goals as goal

pub returns-then-makes-clause-value : goal.returns-then-makes-clause-value
returns-then-makes-clause-value g c =
    let bs = g.A.Assigns.bindings c.args.set.now in
    let rows = c.args.rows.now in
    let at : Cell c.in-Cell.column c.in-Cell.row ≡ place_of protocol_dir (name_at bs c.args.place) = rw (← c.entry.ensures, ← c.name-name.ensures.value) c.in-Cell.ensures in
    let first = ap not (sym c.is_again-again.ensures ∙ c.if-not-again.true) in
    sym (one_made c.in-Cell.column (is_again bs c.args.place) (is_made (state_in rows c.in-Cell.row) (set_ask protocol_dir bs (directory_index c.in-Cell.row))) c.if-column-eq-STATUS.true first (sym c.makes.ensures ∙ c.if-makes.true))
    ∙ ap (made_by protocol_dir (state_in rows) bs (is_again bs c.args.place)) at
