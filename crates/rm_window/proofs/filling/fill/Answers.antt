use Rattle.std.proofs.Common.{◌≡◌, ◌-◌, ℕ, List, ◌∙◌, length, arith}
use Rattle.rm_edge.specs.Outside.{File}
use Rattle.rm_window.proofs.FillingLemmas.{read_more, gives_of, not_absent}
use borrow.Rule.Slice.PartMut.{put_mid, same_len_mid, mid_len}
use Rattle.rm_window.proofs.filling.fill.Goals as goal

pub loop-filled-preserved : goal.loop-filled-preserved
loop-filled-preserved g c =
    let i = c.loop-filled.invariant in
    let held = g.S.Shelf.held c.loop-filled.shelf c.args.name.now in
    let room = length c.loop-filled.into - c.loop-filled.filled in
    let long : length (put_mid c.loop-filled.filled room c.loop-filled.into c.read.new.into) ≡ length c.loop-filled.into =
    same_len_mid c.loop-filled.filled room c.loop-filled.into c.read.new.into c.read.auto.into in
    let more = λ (bytes : List ℕ) (is : g.S.Shelf.held c.args.shelf.now c.args.name.now ≡ File bytes).
    read_more bytes c.loop-filled.into c.read.new.into c.args.at c.loop-filled.filled c.in_ok-count.count room i.within (omega (arith, c.in_ok-count.ensures.most, c.read.auto.into))
    (gives_of held bytes c.read.new.into _ c.in_ok-count.count (i.same c.args.name.now ∙ is) c.in_ok-count.ensures.octets) (i.front bytes is) (i.few bytes is) in
    record {
      same = λ each. c.read.ensures.shelf.constant each ∙ i.same each;
      quiet = λ each. c.in_ok-count.ensures.shelf.quiet (λ e. cc) each ∙ i.quiet each;
      within = omega (arith, long, c.in_ok-count.ensures.most, mid_len c.loop-filled.filled (length c.loop-filled.into) c.loop-filled.into (omega arith));
      front = λ bytes is. (more bytes is).front;
      few = λ bytes is. (more bytes is).few;
      none = λ is. absurd (not_absent held c.read.new.into _ c.in_ok-count.count (i.same c.args.name.now ∙ is) c.in_ok-count.ensures.octets);
    }
