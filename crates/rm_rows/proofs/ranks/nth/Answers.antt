use Rattle.std.proofs.Common.{◌≡◌, ◌<◌, ◌≤◌, length, refl, sym, ◌∙◌, Some, slice_get, true≢false, inl, inr, arith}
use Rattle.std.proofs.lemmas.Bool.{cases_lt}
use Rattle.std.proofs.lemmas.Option.{slice_get_read, slice_get_past}
use Rattle.rm_recency.specs.Threads.{row_at}
use Rattle.rm_rows.proofs.Members.{at_in}
use Rattle.rm_rows.proofs.KeptLemmas.{member_at}
use Rattle.rm_rows.proofs.RankLemmas.{row_place, row_none}
use Rattle.rm_rows.proofs.ranks.nth.Goals as goal

pub row-requires : goal.row-requires
row-requires g c =
    let d = c.args.entered.now in let k = c.requires.1 in
    let within : c.args.place < d.len = c.in-Some.ensures.variant.0 refl in
    let got : slice_get d.items c.args.place ≡ Some c.in-Some.ptr.now = slice_get_read d.items d.len c.args.place c.in-Some.ptr.now d.ok.0 within c.in-Some.ensures.lookup in
    member_at g.K.Ord.cmp c.args.list.now d.items k.rs c.requires.0 k.links k.recency k.stored c.in-Some.ptr.now (at_in c.in-Some.ptr.now d.items c.args.place got)

pub returns-in-Some : goal.returns-in-Some
returns-in-Some g c =
    let d = c.args.entered.now in
    let within : c.args.place < d.len = c.in-Some.ensures.variant.0 refl in
    let got : slice_get d.items c.args.place ≡ Some c.in-Some.ptr.now = slice_get_read d.items d.len c.args.place c.in-Some.ptr.now d.ok.0 within c.in-Some.ensures.lookup in
    sym (row_place (row_at c.args.list.now) d.items c.args.place c.in-Some.ptr.now c.requires.1.stored.has got ∙ c.row.ensures)

pub returns-in-None : goal.returns-in-None
returns-in-None g c =
    let d = c.args.entered.now in
    elim (cases_lt c.args.place d.len) [
      | inl lt ↦ absurd (true≢false (sym (c.in-None.ensures.variant.1 lt)))
      | inr le ↦
          let past : length d.items ≤ c.args.place = (let len : d.len ≡ length d.items = d.ok.0 in omega arith) in
          sym (row_none (row_at c.args.list.now) d.items c.args.place c.requires.1.stored.has (slice_get_past d.items c.args.place past))
    ]
