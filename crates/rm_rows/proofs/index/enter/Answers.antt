use Rattle.std.proofs.Common.{◌∙◌, ◌∷◌, ◌++◌, [], refl, ap}
use Rattle.rm_evicting.specs.Row.{blank_row}
use Rattle.rm_rows.proofs.MoveLemmas.{added_loose, added_fits, added_rows}
use Rattle.rm_rows.specs.Index.{rows_in}
use Rattle.rm_rows.proofs.index.enter.Goals as goal

pub put_in-requires-clause-loose : goal.put_in-requires-clause-loose
put_in-requires-clause-loose g c = added_loose g.K.Ord.cmp g.met.K.Ord.total c.args.list.now c.add-ptr.new.self c.add-ptr.result (blank_row c.blank.result c.args.key c.args.stamp c.args.tick) c.add-ptr.ensures c.args.entered.now.items c.args.index.now.items c.requires.kept

pub put_in-requires-clause-fits : goal.put_in-requires-clause-fits
put_in-requires-clause-fits g c =
    added_fits g.K.Ord.cmp g.met.K.Ord.total c.args.list.now c.add-ptr.new.self c.add-ptr.result (blank_row c.blank.result c.args.key c.args.stamp c.args.tick) c.add-ptr.ensures c.args.entered.now.items c.args.index.now.items c.requires.kept
    c.args.place c.requires.gap refl c.requires.stamp c.requires.tick

pub returns-clause-rows : goal.returns-clause-rows
returns-clause-rows g c =
    c.put_in.ensures.rows (blank_row c.blank.result c.args.key c.args.stamp c.args.tick) c.add-ptr.ensures.here
    ∙ ap (λ rows. rows ++ blank_row c.blank.result c.args.key c.args.stamp c.args.tick ∷ []) (added_rows g.K.Ord.cmp g.met.K.Ord.total c.args.list.now c.add-ptr.new.self c.add-ptr.result (blank_row c.blank.result c.args.key c.args.stamp c.args.tick) c.add-ptr.ensures c.args.entered.now.items c.args.index.now.items c.requires.kept)
    ∙ ap (λ v. rows_in c.args.list.now c.args.entered.now.items ++ blank_row v c.args.key c.args.stamp c.args.tick ∷ []) c.blank.ensures
