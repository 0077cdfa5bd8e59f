use Rattle.std.proofs.Common.{◌∷◌, ◌++◌, [], remove, refl, ap, ◌∙◌}
use Rattle.std.proofs.lemmas.Option.{slice_get_within}
use Rattle.rm_evicting.specs.Row.{blank_row}
use Rattle.rm_rows.specs.Index.{place_without}
use Rattle.rm_rows.proofs.KeptLemmas.{gap_as}
use Rattle.rm_rows.proofs.PlaceLemmas.{gap_without}
use Rattle.rm_rows.proofs.MoveLemmas.{set_loose, set_rows, set_fits}
use Rattle.rm_rows.proofs.index.replace.Goals as goal

pub put_back-requires-clause-loose : goal.put_back-requires-clause-loose
put_back-requires-clause-loose g c =
    let ptr = c.put_out-ptr.result.0 in let from = c.put_out-ptr.result.1 in let xs = c.args.index.now.items in
    set_loose g.K.Ord.cmp g.met.K.Ord.total c.args.list.now c.put_out-ptr.new.list c.begin.new.self c.args.entered.now.items c.put_out-ptr.new.entered.items xs (remove xs from) ptr (blank_row g.V.Blank.blank_value c.args.key c.args.stamp c.args.tick) c.requires.kept c.put_out-ptr.ensures.out c.begin.ensures

pub put_back-requires-clause-fits : goal.put_back-requires-clause-fits
put_back-requires-clause-fits g c =
    let ptr = c.put_out-ptr.result.0 in let from = c.put_out-ptr.result.1 in let xs = c.args.index.now.items in let out = c.put_out-ptr.ensures.out in
    let gap = gap_without g.K.Ord.cmp c.put_out-ptr.new.list xs c.args.key from c.args.place (slice_get_within xs from ptr c.put_out-ptr.ensures.place)
    (gap_as g.K.Ord.cmp c.args.list.now c.put_out-ptr.new.list xs c.args.key c.args.place (λ q m. out.same q) c.requires.gap) in
    set_fits g.K.Ord.cmp g.met.K.Ord.total c.args.list.now c.put_out-ptr.new.list c.begin.new.self c.args.entered.now.items c.put_out-ptr.new.entered.items xs (remove xs from) ptr (blank_row g.V.Blank.blank_value c.args.key c.args.stamp c.args.tick) c.requires.kept out c.begin.ensures
    (place_without from c.args.place) gap refl c.requires.stamp c.requires.tick

pub returns-clause-rows : goal.returns-clause-rows
returns-clause-rows g c =
    let ptr = c.put_out-ptr.result.0 in let from = c.put_out-ptr.result.1 in let xs = c.args.index.now.items in
    c.put_back.ensures.rows (blank_row g.V.Blank.blank_value c.args.key c.args.stamp c.args.tick) c.begin.ensures.here
    ∙ ap (λ rows. rows ++ blank_row g.V.Blank.blank_value c.args.key c.args.stamp c.args.tick ∷ []) (set_rows g.K.Ord.cmp g.met.K.Ord.total c.args.list.now c.put_out-ptr.new.list c.begin.new.self c.args.entered.now.items c.put_out-ptr.new.entered.items xs (remove xs from) ptr (blank_row g.V.Blank.blank_value c.args.key c.args.stamp c.args.tick) c.requires.kept c.put_out-ptr.ensures.out c.begin.ensures)
