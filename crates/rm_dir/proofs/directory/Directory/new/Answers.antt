use Rattle.std.proofs.Common.{◌≡◌, ℕ, ◌∙◌, ap, refl, arith}
use Rattle.rm_status.specs.Rows.{row_in}
use Rattle.rm_dir.specs.BuiltIn.{built_in_rows}
use Rattle.rm_dir.specs.FirstRows.{first_in}
use Rattle.rm_dir.proofs.Begins.{rows_first, locals_first, numbered_first, noted_first}
use Rattle.rm_dir.proofs.directory.Directory.new.Goals as goal

pub invariant_of-result : goal.invariant_of-result
invariant_of-result c =
    let are : (i : ℕ) → row_in c.insert_all.new.rows i ≡ first_in built_in_rows i = λ i. c.insert_all.ensures.rows i ∙ ap (λ rows. first_in rows i) c.built_in_rows-first.ensures.rows in
    record { numbered = numbered_first c.insert_all.new.rows are; noted = noted_first c.insert_all.new.rows are; few = omega (arith, c.built_in_rows-first.ensures.count); active = c.follow.ensures.active; apart = c.follow.ensures.apart }

pub returns : goal.returns
returns c =
    let are : (i : ℕ) → row_in c.insert_all.new.rows i ≡ first_in built_in_rows i = λ i. c.insert_all.ensures.rows i ∙ ap (λ rows. first_in rows i) c.built_in_rows-first.ensures.rows in
    record { rows = rows_first c.insert_all.new.rows are; locals = locals_first c.insert_all.new.rows are; given = c.built_in_rows-first.ensures.count; changed = refl }
