use Rattle.std.proofs.Common.{◌≡◌, ◌∙◌, List, map, arith, inl, inr, refl, subst, sym}
use Rattle.rm_settings.specs.declared.settings.Settings.{Settings}
use Rattle.rm_edge.specs.Outside.{Held}
use Rattle.rm_edge.specs.Uses.{file_use, sink_use}
use Rattle.rm_captures.specs.Reading.{texts}
use Rattle.rm_captures.specs.Rounds.{AreCaptureFiles}
use Rattle.rm_captures.specs.Told.{OfFiles}
use Rattle.rm_captures.proofs.NameLemmas.{rose_still}
use Rattle.rm_captures.proofs.RoundLemmas.{held_still}
use Rattle.rm_probe.specs.Ends.{IsExact}
use Rattle.rm_probe.specs.Steps.{Writes}
use Rattle.rm_probe.proofs.EndLemmas.{another_still, is_complete, is_exact, others_are, refused, written}
use Rattle.rm_probe.proofs.FileLemmas.{held_are, helds_are, read_faults}
use Rattle.rm_edge.proofs.Keeping.{keeps_more, keeps_then}
use Rattle.rm_probe.specs.declared.status.Status.TheVariants.{ReadFault}
use Rattle.rm_probe.proofs.entry.replay_captures.Goals as goal

pub returns-in-Ok-judge-clause-ends : goal.returns-in-Ok-judge-clause-ends
returns-in-Ok-judge-clause-ends g c =
    let (form, are, place) = c.in-Ok-judge.ensures.judged in
    let same = c.judge.ensures.shelf.constant in
    let quiet = c.in-Ok-judge.ensures.shelf.quiet (λ e. cc) in
    let w = c.write_run.ensures in
    let names = texts c.args.names.now in
    let held = g.F.Shelf.held c.args.shelf.now in
    let helds = helds_are g.F.Shelf.held g.F.Shelf.faults c.args.shelf.now c.write_run.new.shelf names in
    let judged = helds_are g.F.Shelf.held g.F.Shelf.faults c.args.shelf.now c.judge.new.shelf names in
    written c.args.lead c.args.settings (map (file_use g.F.Shelf.held g.F.Shelf.faults c.args.shelf.now c.write_run.new.shelf) (texts c.args.names.now))
    (file_use g.F.Shelf.held g.F.Shelf.faults c.args.shelf.now c.write_run.new.shelf c.args.requests.now)
    (sink_use g.K.Sink.content g.K.Sink.faults c.args.out.now c.write_run.new.out) c.write_run.result
    (subst (λ (hs : List Held). OfFiles hs (AreCaptureFiles c.args.lead)) (judged ∙ sym helds) form) are
    (λ files lines frames stop asked is isr captures requests.
    subst (λ (s : Settings). Writes s frames stop asked (g.K.Sink.content c.args.out.now) (g.K.Sink.content c.write_run.new.out) c.write_run.result) c.in-Ok.ensures.settings
    (w.text files lines frames stop asked (held_still held (g.F.Shelf.held c.judge.new.shelf) names files same (held_are held names files (sym helds ∙ is))) (same c.args.requests.now ∙ isr) captures requests))
    (others_are c.args.lead held names _ _ c.write_run.result helds (rw (same c.args.requests.now) at (another_still c.args.lead held (g.F.Shelf.held c.judge.new.shelf) names _ c.write_run.result same w.finds)))
    (λ e. elim (w.reads e) [
      | inl rose ↦ inl (read_faults g.F.Shelf.held g.F.Shelf.faults c.args.shelf.now c.write_run.new.shelf names (rose_still _ (g.F.Shelf.faults c.judge.new.shelf) _ names quiet rose))
      | inr rose ↦ inr (omega (arith, rose, quiet c.args.requests.now))
    ])
    w.writes w.kinds w.silent

pub returns-in-Ok-judge-clause-exact : goal.returns-in-Ok-judge-clause-exact
returns-in-Ok-judge-clause-exact g c =
    subst (λ (hs : List Held). IsExact c.args.lead hs (g.F.Shelf.held c.args.shelf.now c.args.requests.now) c.write_run.result) (helds_are g.F.Shelf.held g.F.Shelf.faults c.args.shelf.now c.write_run.new.shelf (texts c.args.names.now))
    (is_exact c.args.lead c.args.settings c.one_reading.ensures (map (file_use g.F.Shelf.held g.F.Shelf.faults c.args.shelf.now c.write_run.new.shelf) (texts c.args.names.now))
    (file_use g.F.Shelf.held g.F.Shelf.faults c.args.shelf.now c.write_run.new.shelf c.args.requests.now)
    (sink_use g.K.Sink.content g.K.Sink.faults c.args.out.now c.write_run.new.out) c.write_run.result (returns-in-Ok-judge-clause-ends g c))

pub returns-in-Ok-judge-clause-complete : goal.returns-in-Ok-judge-clause-complete
returns-in-Ok-judge-clause-complete g c =
    is_complete c.args.lead c.args.settings c.one_reading.ensures (map (file_use g.F.Shelf.held g.F.Shelf.faults c.args.shelf.now c.write_run.new.shelf) (texts c.args.names.now))
    (file_use g.F.Shelf.held g.F.Shelf.faults c.args.shelf.now c.write_run.new.shelf c.args.requests.now)
    (sink_use g.K.Sink.content g.K.Sink.faults c.args.out.now c.write_run.new.out) c.write_run.result (returns-in-Ok-judge-clause-ends g c)

pub returns-in-Err-clause-ends : goal.returns-in-Err-clause-ends
returns-in-Err-clause-ends g c =
    refused c.args.lead c.args.settings (map (file_use g.F.Shelf.held g.F.Shelf.faults c.args.shelf.now c.judge.new.shelf) (texts c.args.names.now))
    (file_use g.F.Shelf.held g.F.Shelf.faults c.args.shelf.now c.judge.new.shelf c.args.requests.now)
    (sink_use g.K.Sink.content g.K.Sink.faults c.args.out.now c.args.out.now) c.in-Err.status refl c.in-Err.ensures.judged

pub returns-in-Err-clause-exact : goal.returns-in-Err-clause-exact
returns-in-Err-clause-exact g c =
    subst (λ (hs : List Held). IsExact c.args.lead hs (g.F.Shelf.held c.args.shelf.now c.args.requests.now) c.in-Err.status) (helds_are g.F.Shelf.held g.F.Shelf.faults c.args.shelf.now c.judge.new.shelf (texts c.args.names.now))
    (is_exact c.args.lead c.args.settings c.one_reading.ensures (map (file_use g.F.Shelf.held g.F.Shelf.faults c.args.shelf.now c.judge.new.shelf) (texts c.args.names.now))
    (file_use g.F.Shelf.held g.F.Shelf.faults c.args.shelf.now c.judge.new.shelf c.args.requests.now)
    (sink_use g.K.Sink.content g.K.Sink.faults c.args.out.now c.args.out.now) c.in-Err.status (returns-in-Err-clause-ends g c))

pub returns-in-Err-clause-complete : goal.returns-in-Err-clause-complete
returns-in-Err-clause-complete g c =
    is_complete c.args.lead c.args.settings c.one_reading.ensures (map (file_use g.F.Shelf.held g.F.Shelf.faults c.args.shelf.now c.judge.new.shelf) (texts c.args.names.now))
    (file_use g.F.Shelf.held g.F.Shelf.faults c.args.shelf.now c.judge.new.shelf c.args.requests.now)
    (sink_use g.K.Sink.content g.K.Sink.faults c.args.out.now c.args.out.now) c.in-Err.status (returns-in-Err-clause-ends g c)

pub returns-in-Ok-judge-clause-shelf : goal.returns-in-Ok-judge-clause-shelf
returns-in-Ok-judge-clause-shelf g c =
    keeps_then g.F.Shelf.held g.F.Shelf.faults c.args.shelf.now c.judge.new.shelf c.write_run.new.shelf _ _ _ _ _ _ c.in-Ok-judge.ensures.shelf c.write_run.ensures.shelf (λ each is. is) (λ each is. is) (λ e. absurd cc) (λ e. e)

pub returns-in-Err-clause-shelf : goal.returns-in-Err-clause-shelf
returns-in-Err-clause-shelf g c =
    keeps_more g.F.Shelf.held g.F.Shelf.faults c.args.shelf.now c.judge.new.shelf _ _ _ _ c.in-Err.ensures.shelf (λ each is. is) (λ e. let same : c.in-Err.status ≡ ReadFault = cc in same)
