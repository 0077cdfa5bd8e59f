use Rattle.std.proofs.Common.{◌≡◌, List, length, take, drop, [], ◌∷◌, ◌++◌, insert, remove, slice_get, Some, ap, sym, ◌∙◌, subst}
use Rattle.std.proofs.lemmas.List.{take_at}
use denote.RawPtr.{Ptr}
use Rattle.rm_rows.specs.Index.{Kept, place_without}
use Rattle.rm_rows.proofs.MoveLemmas.{put_kept, put_rows}
use Rattle.rm_rows.proofs.index.put_back.Goals as goal

pub returns-clause-kept : goal.returns-clause-kept
returns-clause-kept g c =
    let xs = c.args.index.now.items in let rest = remove xs c.args.from in let place = place_without c.args.from c.args.to in
    let whole : take c.args.index.now.len (c.move_item.new.items ++ drop (length c.move_item.new.items) xs) ≡ insert rest place c.args.ptr =
    take_at c.move_item.new.items (drop (length c.move_item.new.items) xs) c.args.index.now.len (c.move_item.ensures.len ∙ ap length c.deref_mut.ensures.value ∙ sym c.args.index.now.ok.0)
    ∙ c.move_item.ensures.moved c.args.ptr (subst (λ (l : List Ptr). slice_get l c.args.from ≡ Some c.args.ptr) (sym c.deref_mut.ensures.value) c.requires.place)
    ∙ ap (λ (l : List Ptr). insert (remove l c.args.from) place c.args.ptr) c.deref_mut.ensures.value in
    rw (c.push_back.ensures.items, c.in-Ok.is)
    (subst (λ (l : List Ptr). Kept g.K.Ord.cmp c.link_front.new.self (c.args.entered.now.items ++ c.args.ptr ∷ []) l) (sym whole)
    (put_kept g.K.Ord.cmp g.met.K.Ord.total c.args.list.now c.link_front.new.self c.args.ptr c.link_front.ensures.list c.link_front.ensures.nodes
    c.args.entered.now.items rest place c.requires.loose c.requires.fits))

pub returns-clause-rows : goal.returns-clause-rows
returns-clause-rows g c =
    λ row e. rw (c.push_back.ensures.items, c.in-Ok.is)
    (put_rows g.K.Ord.cmp g.met.K.Ord.total c.args.list.now c.link_front.new.self c.args.ptr c.link_front.ensures.list c.link_front.ensures.nodes c.args.entered.now.items (remove c.args.index.now.items c.args.from) row e)
