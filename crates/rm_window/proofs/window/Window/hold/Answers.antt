use Rattle.std.proofs.Common.{◌≡◌, ◌≤◌, ◌+◌, ◌-◌, ℕ, List, length, take, drop, refl, sym, ap, subst, ◌∙◌, arith}
use Rattle.std.proofs.lemmas.Result.{err_from_is_err_and}
use Rattle.std.proofs.lemmas.List.{with_items_is, length-take, length-drop}
use borrow.Rule.Slice.PartMut.{put_mid, mid_len, same_len_mid}
use Rattle.rm_window.specs.Filling.{IsFront, Holds}
use Rattle.rm_window.specs.Window.{octets_of}
use Rattle.rm_window.proofs.WindowLemmas.{at_front, read_holds}
use Rattle.rm_window.proofs.window.Window.hold.Goals as goal

pub returns-clause-holds : goal.returns-clause-holds
returns-clause-holds g c = λ bytes is front.
    let turned = c.turn.new.self in
    let have = c.len-have.result in
    let count = c.in_ok-count.count in
    let items = c.deref_mut.result.now in
    let piece = c.fill.new.into in
    let room = length items - have in
    let until : turned.until ≡ have =
    omega (arith, c.turn.ensures.from, c.len-have.ensures, ap length c.turn.ensures.octets, turned.within, c.deref_mut.ensures.len, length-take (turned.until - turned.from) (drop turned.from turned.buffer.items), length-drop turned.from turned.buffer.items) in
    let here : octets_of c.args.self.now ≡ take have items =
    sym c.turn.ensures.octets ∙ at_front turned.from turned.until turned.buffer.items c.turn.ensures.from ∙ ap (λ (k : ℕ). take k turned.buffer.items) until ∙ ap (take have) (sym c.deref_mut.ensures.value) in
    let within : have ≤ length items = omega (arith, until, turned.within, c.deref_mut.ensures.len) in
    let long : length piece ≡ room = omega (arith, c.fill.auto.into, mid_len have (length items) items (omega arith)) in
    let whole : length (put_mid have room items piece) ≡ length items = same_len_mid have room items piece c.fill.auto.into in
    let written = with_items_is turned.buffer (put_mid have room items piece) (omega (arith, whole, c.deref_mut.ensures.len)) in
    let window = at_front turned.from (have + count) _ c.turn.ensures.from ∙ ap (take (have + count)) written in
    subst (λ (t : List ℕ). Holds bytes c.args.at c.args.need t) (sym window)
    (read_holds bytes items piece c.args.at have count room c.args.need within (omega (arith, long, c.requires.fits, c.turn.ensures.room, c.deref_mut.ensures.len, within))
    (c.in_ok-count.ensures.octets bytes is) (subst (λ (t : List ℕ). IsFront t (drop c.args.at bytes)) here front))

-- enough are next
pub returns-then-have-need-clause-same : goal.returns-then-have-need-clause-same
returns-then-have-need-clause-same g c = λ enough. refl

pub returns-then-have-need-clause-unread : goal.returns-then-have-need-clause-unread
returns-then-have-need-clause-unread g c = λ enough. refl

-- a read failed
pub returns-in_err-count-clause-few : goal.returns-in_err-count-clause-few
returns-in_err-count-clause-few g c = rw ((err_from_is_err_and c.from_residual.result c.from_residual.ensures.1).1) (omega (arith, c.if-have-need.false, c.len-have.ensures))

pub returns-in_err-count-clause-same : goal.returns-in_err-count-clause-same
returns-in_err-count-clause-same g c = λ enough. absurd (omega (arith, enough, c.if-have-need.false, c.len-have.ensures))

pub returns-in_err-count-clause-unread : goal.returns-in_err-count-clause-unread
returns-in_err-count-clause-unread g c = λ enough. absurd (omega (arith, enough, c.if-have-need.false, c.len-have.ensures))

-- reads were needed
pub returns-clause-same : goal.returns-clause-same
returns-clause-same g c = λ enough. absurd (omega (arith, enough, c.if-have-need.false, c.len-have.ensures))

pub returns-clause-unread : goal.returns-clause-unread
returns-clause-unread g c = λ enough. absurd (omega (arith, enough, c.if-have-need.false, c.len-have.ensures))
