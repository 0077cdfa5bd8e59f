use Rattle.std.proofs.Common.{ℕ, List, sym, ap, subst, ◌∙◌, arith}
use Rattle.rm_pdu.specs.Draft.{drafted}
use Rattle.rm_settings.specs.declared.settings.Settings.{Settings}
use Rattle.rm_probe.specs.Probe.{settings_of, Stands}
use Rattle.rm_load.specs.Acts.{acts_of}
use Rattle.rm_load.specs.Sets.{first_set, second_set, set_request}
use Rattle.rm_load.proofs.QuietLemmas.{none_in_load, quiet}
use Rattle.rm_load.proofs.loading.loaded.Goals as goal

pub make_rows-requires-clause-first : goal.make_rows-requires-clause-first
make_rows-requires-clause-first c =
    c.first_request-first.ensures
    ∙ ap (λ (community : List ℕ). drafted (set_request community 1 first_set)) (c.deref.ensures.0 ∙ sym (ap (λ (settings : Settings). settings.write.items) c.in_ok-probe.ensures.settings))

pub make_rows-requires-clause-second : goal.make_rows-requires-clause-second
make_rows-requires-clause-second c =
    c.second_request-second.ensures
    ∙ ap (λ (community : List ℕ). drafted (set_request community 2 second_set)) (c.deref-2.ensures.0 ∙ sym (ap (λ (settings : Settings). settings.write.items) c.in_ok-probe.ensures.settings))

pub returns : goal.returns
returns c =
    let (more, noted, goes) = c.advance.ensures.advanced in
    let (after, advanced, stood) = goes (acts_of c.args.start c.args.count) c.pass_frames.ensures.stands in
    let same = quiet (settings_of c.pass_frames.new.probe) _ (acts_of c.args.start c.args.count) more after (none_in_load c.args.start c.args.count) advanced in
    record {
      set_to = c.advance.ensures.settings ∙ c.pass_frames.ensures.settings ∙ c.make_rows.ensures.settings ∙ c.in_ok-probe.ensures.settings;
      stands = subst (Stands c.advance.new.self) same stood;
      last = omega (arith, c.advance.ensures.last, c.moment_behind.ensures);
      handled = rw c.moment_behind.ensures at c.advance.ensures.nothing;
    }
