use Rattle.std.proofs.Common.{◌≡◌, ℕ, ◌<◌, arith, ap, sym, ◌∙◌, length, subst, rules, map, filter_map}
use Rattle.rm_status.specs.Rows.{row_in, AreControlRows}
use Rattle.rm_status.specs.Commit.{write_row, settle_row}
use Rattle.rm_status.proofs.Rooms.{few_more, room_at}
use Rattle.rm_status.proofs.Commits.{made_none, made_more, made_first, rows_then, committed}
use Rattle.rm_status.proofs.controls.Controls.commit.Goals as goal

pub make_at-requires : goal.make_at-requires
make_at-requires g c =
    let C = g.C.ControlRow.form in
    let bs = g.A.Assigns.bindings c.args.set.now in
    let k = c.loop-place.place in
    let within : k < length bs = omega (arith, c.count-count.ensures.value) in
    let ordered : AreControlRows g.C.ControlRow.form.table c.args.self.now = subst (AreControlRows g.C.ControlRow.form.table) c.self.view_is c.self.invariant in (
      search rules,
      (
        c.entry-entry.ensures,
        (
          within,
          (
            c.requires.alone k within,
            λ i is asks gone.
                room_at C.table C.with_column C.blank bs c.args.self.now C.set_to ordered c.requires.alone c.loop-place.self k i within c.loop-place.invariant.rows c.loop-place.invariant.few (c.requires.together k within) is asks gone,
          ),
        ),
      ),
    )

pub loop-place-init : goal.loop-place-init
loop-place-init g c =
    let C = g.C.ControlRow.form in
    record { rows = made_none C.table C.with_column C.blank (g.A.Assigns.bindings c.args.set.now) c.args.self.now; few = omega arith }

pub loop-place-preserved : goal.loop-place-preserved
loop-place-preserved g c =
    let C = g.C.ControlRow.form in
    let bs = g.A.Assigns.bindings c.args.set.now in
    let k = c.loop-place.place in
    let within : k < length bs = omega (arith, c.count-count.ensures.value) in
    record {
      rows = made_more C.table C.with_column C.blank bs c.args.self.now c.loop-place.self c.make_at.new.self k within c.loop-place.invariant.rows c.make_at.ensures.rows;
      few = few_more C.table C.with_column C.blank bs c.args.self.now c.loop-place.self c.make_at.new.self k c.loop-place.invariant.rows c.loop-place.invariant.few c.make_at.ensures.few;
    }

pub invariant_of-self : goal.invariant_of-self
invariant_of-self g c =
    let C = g.C.ControlRow.form in
    let bs = g.A.Assigns.bindings c.args.set.now in
    let items = c.self-2.inside.rows.items in
    let is : c.settle_rows.new.rows.items ≡ filter_map (settle_row C.table C.with_column C.blank bs) (map (write_row C.table C.with_column C.blank bs) items) = c.settle_rows.ensures ∙ ap (filter_map (settle_row C.table C.with_column C.blank bs)) c.write_all.ensures in
    subst (AreControlRows g.C.ControlRow.form.table) (sym is) (rows_then C.table C.with_column C.blank bs items c.self-2.invariant)

pub returns : goal.returns
returns g c = λ i.
    let C = g.C.ControlRow.form in
    let bs = g.A.Assigns.bindings c.args.set.now in
    let items = c.self-2.inside.rows.items in
    let is : c.settle_rows.new.rows.items ≡ filter_map (settle_row C.table C.with_column C.blank bs) (map (write_row C.table C.with_column C.blank bs) items) = c.settle_rows.ensures ∙ ap (filter_map (settle_row C.table C.with_column C.blank bs)) c.write_all.ensures in
    let all : c.loop-place.place ≡ length bs = omega (arith, c.count-count.ensures.value) in
    let made : (k : ℕ) → row_in items k ≡ made_first C.table C.with_column C.blank bs c.args.self.now (length bs) k = λ k. ap (λ l. row_in l k) c.self-2.view_is ∙ c.loop-place.invariant.rows k ∙ ap (λ n. made_first C.table C.with_column C.blank bs c.args.self.now n k) all in
    ap (λ l. row_in l i) is ∙ committed C.table C.with_column C.blank bs c.args.self.now items c.self-2.invariant made i
