use Rattle.std.proofs.Common.{◌≡◌, ℕ, ◌∷◌, ap, subst, ◌∙◌, arith}
use Rattle.rm_model.specs.Journal.{Frame, Journal, passes}
use Rattle.rm_probe.specs.Probe.{settings_of, Stands}
use Rattle.rm_load.specs.Acts.{acts_of}
use Rattle.rm_load.specs.Making.{made_of}
use Rattle.rm_load.proofs.FrameLemmas.{number_is, count_is, acts_are}
use Rattle.rm_load.proofs.QuietLemmas.{none_in_load, quiet}
use Rattle.rm_load.proofs.loading.pass_frames.Goals as goal

pub frame-requires-clause-later : goal.frame-requires-clause-later
frame-requires-clause-later c =
    let kept = c.loop-made.invariant in
    let number = count_is c.args.start c.loop-made.made-iterator c.next.new.self c.in-Some.made c.in-Some.ensures.steps kept.number in
    omega (arith, kept.last, c.lend.ensures.moment, number, c.in-Some.ensures.steps.passed)

pub frame-requires-clause-room : goal.frame-requires-clause-room
frame-requires-clause-room c = let kept = c.loop-made.invariant in omega (arith, kept.frames, kept.within, c.requires.few)

pub loop-made-preserved : goal.loop-made-preserved
loop-made-preserved c =
    let kept = c.loop-made.invariant in
    let start = c.args.start in
    let old = c.loop-made.made-iterator in
    let new = c.next.new.self in
    let made = c.in-Some.made in
    let gone = c.in-Some.ensures.steps in
    let number = count_is start old new made gone kept.number in
    let (more, noted, goes) = c.frame.ensures.passes in
    let (ready, advanced, stood) = goes (acts_of start old.passed) kept.stands in
    let same : ready ≡ acts_of start old.passed = quiet (settings_of c.loop-made.probe) _ (acts_of start old.passed) more ready (none_in_load start old.passed) advanced in
    let acts = ap (λ (frame : Frame). passes frame ∷ ready) c.lend.ensures.frame ∙ ap (λ (journal : Journal). passes (made_of made) ∷ journal) same ∙ acts_are start old new made gone kept.number in
    record {
      number = number_is start old new made gone kept.number;
      count = gone.count ∙ kept.count;
      within = omega (arith, new.within, gone.count, kept.count);
      stands = subst (Stands c.frame.new.self) acts stood;
      settings = c.frame.ensures.settings ∙ kept.settings;
      last = omega (arith, c.frame.ensures.last, c.lend.ensures.moment, number);
      frames = omega (arith, c.frame.ensures.frames, kept.frames, gone.passed);
    }

pub returns-clause-stands : goal.returns-clause-stands
returns-clause-stands c =
    let kept = c.loop-made.invariant in
    subst (λ (count : ℕ). Stands c.loop-made.probe (acts_of c.args.start count)) (c.in-None.ensures.steps.0 ∙ kept.count) kept.stands
