use Rattle.std.proofs.Common.{refl, sym, ◌∙◌, subst, List, arith}
use denote.RawPtr.{Ptr}
use Rattle.rm_evicting.proofs.Keys.{exact_key}
use Rattle.rm_evicting.specs.Row.{blank_row}
use Rattle.rm_rows.specs.Index.{IsIndex, IsGap, rows_in}
use Rattle.rm_rows.proofs.KeptLemmas.{is_index}
use Rattle.rm_rows.proofs.TouchLemmas.{touched-held, touched-fresh, touched-full, answer-held, answer-fresh, answer-full, place_within, found_in, is_here, is_away, holds_renewed}
use Rattle.rm_rows.proofs.KeyLemmas.{after-held, after-fresh, after-evicted, are_apart}
use Rattle.rm_rows.proofs.index.refer.Goals as goal

pub find-requires : goal.find-requires
find-requires g c =
    let k = c.requires.kept.kept in
    subst (IsIndex g.K.Ord.cmp c.args.list.now) (sym c.deref.ensures.value) (is_index g.K.Ord.cmp c.args.list.now c.args.entered.now.items k.rs c.args.index.now.items k.links k.recency k.stored)

pub index-requires : goal.index-requires
index-requires g c = place_within g.K.Ord.cmp c.args.list.now c.args.index.now c.deref.result.now c.deref.ensures.value c.args.key c.in-Ok.place c.in-Ok.ensures.found

pub renew-requires : goal.renew-requires
renew-requires g c = (
  c.args.entered.now.items,
  c.args.index.now.items,
  record {
    kept = c.requires.kept.kept;
    member = found_in g.K.Ord.cmp c.args.list.now c.args.index.now c.deref.result.now c.deref.ensures.value c.args.key c.in-Ok.place c.in-Ok.ensures.found c.index.result.now c.index.ensures;
    stamps = c.requires.stamp;
    ticks = c.requires.tick;
  },
)

pub replace-requires-clause-gap : goal.replace-requires-clause-gap
replace-requires-clause-gap g c = subst (λ (l : List Ptr). IsGap g.K.Ord.cmp c.args.list.now l c.args.key c.in-Err.place) c.deref.ensures.value c.in-Err.ensures.absent

pub returns-in-Ok-clause-kept : goal.returns-in-Ok-clause-kept
returns-in-Ok-clause-kept g c =
    let member = found_in g.K.Ord.cmp c.args.list.now c.args.index.now c.deref.result.now c.deref.ensures.value c.args.key c.in-Ok.place c.in-Ok.ensures.found c.index.result.now c.index.ensures in
    holds_renewed g.K.Ord.cmp c.args.list.now c.renew.new.list c.args.entered.now c.args.index.now c.args.capacity c.requires.kept
    (c.renew.ensures.kept c.args.entered.now.items c.args.index.now.items (record { kept = c.requires.kept.kept; member = member; stamps = c.requires.stamp; ticks = c.requires.tick })) c.renew.ensures.len c.renew.ensures.capacity

pub returns-in-Ok-clause-rows : goal.returns-in-Ok-clause-rows
returns-in-Ok-clause-rows g c =
    let here = is_here g.K.Ord.cmp g.met.K.Ord.total g.K.PartialEq.eq (exact_key g.K.PartialEq.eq g.K.Ord.cmp g.met.K.Eq.laws g.met.K.Ord.matches_eq g.met.K.Key.exact) c.args.list.now c.args.entered.now.items c.args.index.now c.requires.kept.kept c.deref.result.now c.deref.ensures.value c.args.key c.in-Ok.place c.in-Ok.ensures.found c.index.result.now c.index.ensures in
    c.renew.ensures.rows c.args.entered.now.items c.args.index.now.items c.args.key (record { kept = c.requires.kept.kept; member = here.member; stamps = c.requires.stamp; ticks = c.requires.tick }) here.key
    ∙ sym (touched-held g.K.PartialEq.eq g.V.Blank.blank_value c.args.capacity c.args.key c.args.stamp c.args.tick (rows_in c.args.list.now c.args.entered.now.items) here.held)

pub returns-in-Ok-clause-answer : goal.returns-in-Ok-clause-answer
returns-in-Ok-clause-answer g c =
    let here = is_here g.K.Ord.cmp g.met.K.Ord.total g.K.PartialEq.eq (exact_key g.K.PartialEq.eq g.K.Ord.cmp g.met.K.Eq.laws g.met.K.Ord.matches_eq g.met.K.Key.exact) c.args.list.now c.args.entered.now.items c.args.index.now c.requires.kept.kept c.deref.result.now c.deref.ensures.value c.args.key c.in-Ok.place c.in-Ok.ensures.found c.index.result.now c.index.ensures in
    sym (answer-held g.K.PartialEq.eq c.args.capacity c.args.key (rows_in c.args.list.now c.args.entered.now.items) here.held)

pub returns-then-len-capacity-clause-rows : goal.returns-then-len-capacity-clause-rows
returns-then-len-capacity-clause-rows g c =
    let away = is_away g.K.Ord.cmp g.met.K.Ord.total g.K.PartialEq.eq (exact_key g.K.PartialEq.eq g.K.Ord.cmp g.met.K.Eq.laws g.met.K.Ord.matches_eq g.met.K.Key.exact) c.args.list.now c.args.entered.now.items c.args.index.now c.requires.kept.kept c.deref.result.now c.deref.ensures.value c.args.key c.in-Err.place c.in-Err.ensures.absent in
    c.enter.ensures.rows
    ∙ sym (touched-fresh g.K.PartialEq.eq g.V.Blank.blank_value c.args.capacity c.args.key c.args.stamp c.args.tick (rows_in c.args.list.now c.args.entered.now.items) away.off (omega (arith, away.count)))

pub returns-then-len-capacity-clause-answer : goal.returns-then-len-capacity-clause-answer
returns-then-len-capacity-clause-answer g c =
    let away = is_away g.K.Ord.cmp g.met.K.Ord.total g.K.PartialEq.eq (exact_key g.K.PartialEq.eq g.K.Ord.cmp g.met.K.Eq.laws g.met.K.Ord.matches_eq g.met.K.Key.exact) c.args.list.now c.args.entered.now.items c.args.index.now c.requires.kept.kept c.deref.result.now c.deref.ensures.value c.args.key c.in-Err.place c.in-Err.ensures.absent in
    sym (answer-fresh g.K.PartialEq.eq c.args.capacity c.args.key (rows_in c.args.list.now c.args.entered.now.items) away.off (omega (arith, away.count)))

pub returns-else-len-capacity-clause-rows : goal.returns-else-len-capacity-clause-rows
returns-else-len-capacity-clause-rows g c =
    let away = is_away g.K.Ord.cmp g.met.K.Ord.total g.K.PartialEq.eq (exact_key g.K.PartialEq.eq g.K.Ord.cmp g.met.K.Eq.laws g.met.K.Ord.matches_eq g.met.K.Key.exact) c.args.list.now c.args.entered.now.items c.args.index.now c.requires.kept.kept c.deref.result.now c.deref.ensures.value c.args.key c.in-Err.place c.in-Err.ensures.absent in
    c.replace.ensures.rows
    ∙ sym (touched-full g.K.PartialEq.eq g.V.Blank.blank_value c.args.capacity c.args.key c.args.stamp c.args.tick (rows_in c.args.list.now c.args.entered.now.items) away.off (omega (arith, away.count)))

pub returns-else-len-capacity-clause-answer : goal.returns-else-len-capacity-clause-answer
returns-else-len-capacity-clause-answer g c =
    let away = is_away g.K.Ord.cmp g.met.K.Ord.total g.K.PartialEq.eq (exact_key g.K.PartialEq.eq g.K.Ord.cmp g.met.K.Eq.laws g.met.K.Ord.matches_eq g.met.K.Key.exact) c.args.list.now c.args.entered.now.items c.args.index.now c.requires.kept.kept c.deref.result.now c.deref.ensures.value c.args.key c.in-Err.place c.in-Err.ensures.absent in
    sym (answer-full g.K.PartialEq.eq c.args.capacity c.args.key (rows_in c.args.list.now c.args.entered.now.items) c.replace.result away.off (omega (arith, away.count)) c.replace.ensures.key)

pub returns-in-Ok-clause-keys : goal.returns-in-Ok-clause-keys
returns-in-Ok-clause-keys g c =
    let exact = exact_key g.K.PartialEq.eq g.K.Ord.cmp g.met.K.Eq.laws g.met.K.Ord.matches_eq g.met.K.Key.exact in
    let here = is_here g.K.Ord.cmp g.met.K.Ord.total g.K.PartialEq.eq exact c.args.list.now c.args.entered.now.items c.args.index.now c.requires.kept.kept c.deref.result.now c.deref.ensures.value c.args.key c.in-Ok.place c.in-Ok.ensures.found c.index.result.now c.index.ensures in
    after-held g.K.PartialEq.eq exact g.met.K.Eq.laws c.args.key (rows_in c.args.list.now c.args.entered.now.items) c.args.stamp c.args.tick (rows_in c.renew.new.list c.args.entered.now.items)
    (c.renew.ensures.rows c.args.entered.now.items c.args.index.now.items c.args.key (record { kept = c.requires.kept.kept; member = here.member; stamps = c.requires.stamp; ticks = c.requires.tick }) here.key)

pub returns-then-len-capacity-clause-keys : goal.returns-then-len-capacity-clause-keys
returns-then-len-capacity-clause-keys g c =
    let exact = exact_key g.K.PartialEq.eq g.K.Ord.cmp g.met.K.Eq.laws g.met.K.Ord.matches_eq g.met.K.Key.exact in
    let away = is_away g.K.Ord.cmp g.met.K.Ord.total g.K.PartialEq.eq exact c.args.list.now c.args.entered.now.items c.args.index.now c.requires.kept.kept c.deref.result.now c.deref.ensures.value c.args.key c.in-Err.place c.in-Err.ensures.absent in
    after-fresh g.K.PartialEq.eq exact g.met.K.Eq.laws c.args.key (rows_in c.args.list.now c.args.entered.now.items) (blank_row g.V.Blank.blank_value c.args.key c.args.stamp c.args.tick)
    (rows_in c.enter.new.list c.enter.new.entered.items) away.off refl c.enter.ensures.rows

pub returns-else-len-capacity-clause-keys : goal.returns-else-len-capacity-clause-keys
returns-else-len-capacity-clause-keys g c =
    let exact = exact_key g.K.PartialEq.eq g.K.Ord.cmp g.met.K.Eq.laws g.met.K.Ord.matches_eq g.met.K.Key.exact in
    let away = is_away g.K.Ord.cmp g.met.K.Ord.total g.K.PartialEq.eq exact c.args.list.now c.args.entered.now.items c.args.index.now c.requires.kept.kept c.deref.result.now c.deref.ensures.value c.args.key c.in-Err.place c.in-Err.ensures.absent in
    after-evicted g.K.PartialEq.eq exact g.met.K.Eq.laws c.args.key (rows_in c.args.list.now c.args.entered.now.items) (blank_row g.V.Blank.blank_value c.args.key c.args.stamp c.args.tick)
    (rows_in c.replace.new.list c.replace.new.entered.items) c.replace.result away.off
    (are_apart g.K.Ord.cmp g.met.K.Ord.total g.K.PartialEq.eq exact c.args.list.now c.args.entered.now.items c.args.index.now.items c.requires.kept.kept) refl c.replace.ensures.rows c.replace.ensures.key
