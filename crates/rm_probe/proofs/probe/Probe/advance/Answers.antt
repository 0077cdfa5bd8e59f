use Rattle.std.proofs.Common.{[], ◌++◌, refl, subst, ◌∙◌, arith, List}
use Rattle.std.proofs.lemmas.List.{append-nil}
use Rattle.rm_probe.specs.Advance.{IsAdvanced}
use Rattle.rm_probe.specs.Notes.{Note}
use Rattle.rm_probe.specs.Probe.{settings_of}
use Rattle.rm_probe.proofs.SayingLemmas.{notes_both, says_nothing}
use Rattle.rm_probe.proofs.SampleLemmas.{advanced_none, next_handled}
use Rattle.rm_probe.proofs.probe.Probe.advance.Goals as goal

pub loop-moment-init : goal.loop-moment-init
loop-moment-init g c = record {
  settings = refl;
  last = c.requires;
  frames = refl;
  more = [];
  noted = says_nothing g.N.Notes.since c.args.notes.now;
  goes = λ journal stands. (journal, stands, λ later after is. is);
}

pub loop-moment-preserved : goal.loop-moment-preserved
loop-moment-preserved g c =
    let i = c.loop-moment.invariant in
    let (more, noted, handled) = c.handle.ensures.handled in
    record {
      settings = c.handle.ensures.settings ∙ i.settings;
      last = omega (arith, c.handle.ensures.last, i.last, c.in-Some.ensures.due);
      frames = c.handle.ensures.frames ∙ i.frames;
      more = i.more ++ more;
      noted = notes_both g.N.Notes.since c.args.notes.now c.loop-moment.notes c.handle.new.notes i.more more i.noted noted;
      goes = λ journal stands.
          let (reached, stood, goes) = i.goes journal stands in
          next_handled (settings_of c.args.self.now) (settings_of c.loop-moment.self) c.args.to journal reached c.in-Some.moment i.more more c.handle.new.self i.settings c.in-Some.ensures.due (handled reached stood) goes;
    }

pub returns-clause-advanced : goal.returns-clause-advanced
returns-clause-advanced g c =
    let i = c.loop-moment.invariant in (
      i.more,
      i.noted,
      λ journal stands.
          let (reached, stood, goes) = i.goes journal stands in (
            reached,
            subst (λ (notes : List Note). IsAdvanced (settings_of c.args.self.now) c.args.to journal notes reached) (append-nil i.more)
                (goes [] reached (advanced_none (settings_of c.args.self.now) c.args.to reached (c.in_default.ensures.none reached stood))),
            stood,
          ),
    )
