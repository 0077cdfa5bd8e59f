use Rattle.std.proofs.Common.{◌≡◌, ◌≤◌, ◌∙◌, ap, inl, inr, arith, refl, rules, subst, sym}
use Rattle.rm_edge.specs.Outside.{Rose}
use Rattle.rm_captures.specs.Reading.{texts}
use Rattle.rm_captures.proofs.NameLemmas.{rose_still}
use Rattle.rm_captures.proofs.RoundLemmas.{held_still}
use Rattle.rm_probe.specs.Capture.{status_of}
use Rattle.rm_probe.specs.Probe.{settings_of}
use Rattle.rm_probe.specs.Steps.{IsNotRequests, Writes, ends_by}
use Rattle.rm_probe.proofs.CaptureOrder.{captures_rise}
use Rattle.rm_probe.proofs.EndLemmas.{another_begun, another_left, begun_left, left_still, not_written, read_by, silent_by, text_none, unread, writes_none}
use Rattle.rm_probe.proofs.FrameLemmas.{keeps_first, unseen_passed}
use Rattle.rm_probe.proofs.WritingLemmas.{ends_read, not_silent, write_rose, writes_by}
use Rattle.rm_edge.proofs.Keeping.{keeps_more, keeps_then}
use Rattle.rm_probe.proofs.replaying.write_run.Goals as goal

pub write_lines-run-requires : goal.write_lines-run-requires
write_lines-run-requires g c = record {
  few = c.requires.few;
  reached = c.requires.reached;
  first = c.requires.first;
  begun = keeps_first _ c.args.probe c.in-Ok.captures.items c.requires.first c.in-Ok.ensures.unseen.1 c.in-Ok.ensures.unseen.0;
  none = unseen_passed c.in-Ok.captures.items c.in-Ok.ensures.unseen.0;
  output = c.new-output.ensures.failed;
}

pub returns-in-Ok-clause-text : goal.returns-in-Ok-clause-text
returns-in-Ok-clause-text g c = λ files lines frames stop asked are isr captures requests.
    let left = begun_left c.args.lead files frames stop c.in-Ok.captures.items (c.in-Ok.ensures.ready files are) captures in
    let (said, says, runs) = c.write_lines-run.ensures.says in
    subst (λ (k : g.row.K.Denot). Writes (settings_of c.args.probe) frames stop asked (g.K.Sink.content c.args.out.now) (g.K.Sink.content k) c.ended.result) (search rules)
    (rw (c.new-output.ensures.sink, ← c.ended.ensures) at (writes_by _ _ said _ says.1.adds c.new-output.ensures.failed refl refl (settings_of c.args.probe) frames stop asked c.write_lines-run.result c.write_lines-run.ensures.failed
    (runs files lines frames stop asked (held_still _ _ _ files c.in-Ok.ensures.shelf.constant are) (c.in-Ok.ensures.shelf.constant c.args.requests.now ∙ isr) left requests)))

pub returns-in-Ok-clause-finds : goal.returns-in-Ok-clause-finds
returns-in-Ok-clause-finds g c =
    rw c.ended.ensures (another_left c.args.lead (g.F.Shelf.held c.args.shelf.now) (texts c.args.names.now) c.in-Ok.captures.items (IsNotRequests (g.F.Shelf.held c.args.shelf.now c.args.requests.now)) (ends_by c.write_lines-run.result)
    (λ files frames stop are whole. begun_left c.args.lead files frames stop c.in-Ok.captures.items (c.in-Ok.ensures.ready files are) whole)
    (rw (c.in-Ok.ensures.shelf.constant c.args.requests.now) at (left_still (g.F.Shelf.held c.args.shelf.now) (g.F.Shelf.held c.begin.new.shelf) (texts c.args.names.now) c.in-Ok.captures.items _ (ends_by c.write_lines-run.result) c.in-Ok.ensures.shelf.constant
    c.write_lines-run.ensures.finds)))

pub returns-in-Ok-clause-writes : goal.returns-in-Ok-clause-writes
returns-in-Ok-clause-writes g c = λ is.
    let (said, says, runs) = c.write_lines-run.ensures.says in
    subst (λ (k : g.row.K.Denot). Rose (g.K.Sink.faults c.args.out.now) (g.K.Sink.faults k)) (search rules)
    (rw c.new-output.ensures.sink at (write_rose _ _ said _ says.1.adds c.new-output.ensures.failed c.write_lines-run.result c.write_lines-run.ensures.failed (sym c.ended.ensures ∙ is)))

pub returns-in-Ok-clause-silent : goal.returns-in-Ok-clause-silent
returns-in-Ok-clause-silent g c = λ silent.
    let (said, says, runs) = c.write_lines-run.ensures.says in
    absurd (not_silent _ _ said _ says.1.adds c.new-output.ensures.failed refl refl c.write_lines-run.result c.write_lines-run.ensures.failed c.write_lines-run.ensures.loud (rw c.ended.ensures at silent))

pub returns-in-Ok-clause-kinds : goal.returns-in-Ok-clause-kinds
returns-in-Ok-clause-kinds g c = λ silent.
    let (said, says, runs) = c.write_lines-run.ensures.says in
    absurd (not_silent _ _ said _ says.1.adds c.new-output.ensures.failed refl refl c.write_lines-run.result c.write_lines-run.ensures.failed c.write_lines-run.ensures.loud (rw c.ended.ensures at silent))

pub returns-in-Ok-clause-later : goal.returns-in-Ok-clause-later
returns-in-Ok-clause-later g c =
    let (said, says, runs) = c.write_lines-run.ensures.says in
    subst (λ (k : g.row.K.Denot). g.K.Sink.faults c.args.out.now ≤ g.K.Sink.faults k) (search rules) (rw c.new-output.ensures.sink at says.1.adds.puts.later)

pub returns-in-Err-clause-text : goal.returns-in-Err-clause-text
returns-in-Err-clause-text g c = λ files lines frames stop asked are isr captures requests.
    rw c.from.ensures (writes_none c.args.lead (settings_of c.args.probe) files frames stop asked (g.K.Sink.content c.args.out.now) c.in-Err.found (c.in-Err.ensures.faults files are) captures
    (text_none (settings_of c.args.probe) c.something_said.ensures c.requires.first.stands.orderly (g.K.Sink.content c.args.out.now) frames stop asked (captures_rise c.args.lead files frames stop captures) requests.are.order))

pub returns-in-Err-clause-finds : goal.returns-in-Err-clause-finds
returns-in-Err-clause-finds g c =
    rw c.from.ensures (another_begun c.args.lead (g.F.Shelf.held c.args.shelf.now) (texts c.args.names.now) (IsNotRequests (g.F.Shelf.held c.args.shelf.now c.args.requests.now)) c.in-Err.found c.in-Err.ensures.faults)

pub returns-in-Err-clause-kinds : goal.returns-in-Err-clause-kinds
returns-in-Err-clause-kinds g c = λ silent. c.from.ensures ∙ silent_by c.in-Err.found.interface c.in-Err.found.fault (rw c.from.ensures at silent)

pub returns-in-Err-clause-reads : goal.returns-in-Err-clause-reads
returns-in-Err-clause-reads g c = λ is. inl (c.in-Err.ensures.cause (read_by c.in-Err.found.interface c.in-Err.found.fault (sym c.from.ensures ∙ is)))

pub returns-in-Err-clause-writes : goal.returns-in-Err-clause-writes
returns-in-Err-clause-writes g c = λ is. absurd (not_written c.in-Err.found.interface c.in-Err.found.fault (sym c.from.ensures ∙ is))

pub returns-in-Ok-clause-shelf : goal.returns-in-Ok-clause-shelf
returns-in-Ok-clause-shelf g c =
    keeps_then g.F.Shelf.held g.F.Shelf.faults c.args.shelf.now c.begin.new.shelf c.write_lines-run.new.shelf _ _ _ _ _ _ c.in-Ok.ensures.shelf c.write_lines-run.ensures.shelf (λ each is. inl is) (λ each is. is) (λ e. absurd (let is = e.1 in cc)) (λ e. rw e at c.ended.ensures)

pub returns-in-Err-clause-shelf : goal.returns-in-Err-clause-shelf
returns-in-Err-clause-shelf g c =
    keeps_more g.F.Shelf.held g.F.Shelf.faults c.args.shelf.now c.begin.new.shelf _ _ _ _ c.in-Err.ensures.shelf (λ each is. inl is)
    (λ e. let same : c.in-Err.found ≡ unread e.0 = let is = e.1 in cc in c.from.ensures ∙ ap status_of same)

pub returns-in-Ok-clause-reads : goal.returns-in-Ok-clause-reads
returns-in-Ok-clause-reads g c = λ is.
    let quiet = c.in-Ok.ensures.shelf.quiet (λ e. let f = e.1 in cc) in
    elim (c.write_lines-run.ensures.reads (ends_read c.write_lines-run.result (sym c.ended.ensures ∙ is))) [
      | inl rose ↦ inl (rose_still _ (g.F.Shelf.faults c.begin.new.shelf) _ (texts c.args.names.now) quiet rose)
      | inr rose ↦ inr (omega (arith, rose, quiet c.args.requests.now))
    ]
