use Rattle.std.proofs.lemmas.Result.{err_from_is_err_and}
use Rattle.std.proofs.Common.{◌≡◌, [], ◌++◌, Err, refl, ap, sym, ◌∙◌, length, arith}
use Rattle.rm_captures.specs.Left.{passed_of}
use Rattle.rm_captures.specs.Reading.{texts}
use Rattle.rm_captures.proofs.NameLemmas.{as_many_texts, rose_still}
use Rattle.rm_captures.proofs.RoundLemmas.{held_still}
use Rattle.rm_probe.specs.Probe.{settings_of}
use Rattle.rm_probe.specs.Steps.{Advanced, HasBegun}
use Rattle.rm_probe.specs.declared.status.Status.TheVariants.{ReadFault}
use Rattle.rm_probe.proofs.SayingLemmas.{notes_both, says_nothing}
use Rattle.rm_probe.proofs.FrameLemmas.{all_after, halt, halts_end, halts_next, has_begun, keeps_again, keeps_end, keeps_later, looked_passed, most_passed, passed_looking, passed_none, passed_one, read_says}
use Rattle.rm_probe.proofs.replaying.Replaying.advance.Goals as goal

pub loop-coming-init : goal.loop-coming-init
loop-coming-init g c = record {
  same = λ each. refl;
  quiet = λ each. refl;
  settings = refl;
  more = [];
  noted = says_nothing g.N.Notes.since c.args.notes.now;
  early = c.requires.later;
  keeps = c.requires.keeps;
  passed = λ files are frames stop journal left stands. passed_none (settings_of c.args.self.now.probe) c.args.moment files c.args.self.now.captures.items c.args.self.now.probe frames stop journal left stands;
}

pub returns-in_err-coming-clause-says : goal.returns-in_err-coming-clause-says
returns-in_err-coming-clause-says g c =
    let i = c.loop-coming.invariant in
    let p = err_from_is_err_and c.from_residual.result c.from_residual.ensures.1 in (
      i.more,
      i.noted,
      λ files frames stop journal are left stands.
          let q = i.passed files are frames stop journal left stands in
          let (failed, still) = c.in_err-coming.ensures.finds files q.left stop (held_still _ _ _ files i.same are) q.leaves in
          rw (p.1, p.2) (read_says
          (λ said. Advanced (settings_of c.args.self.now.probe) c.args.moment files c.next.new.self.captures.items c.next.new.self.probe (passed_of c.args.self.now.captures.items) frames stop journal i.more)
          (HasBegun (settings_of c.args.self.now.probe) c.args.moment frames journal) i.more c.in_err-coming.field-0.0 failed
          (has_begun (settings_of c.args.self.now.probe) c.args.moment files c.loop-coming.self.captures.items c.loop-coming.self.probe (passed_of c.args.self.now.captures.items) frames stop journal i.more q)),
    )

pub returns-in_err-coming-clause-kinds : goal.returns-in_err-coming-clause-kinds
returns-in_err-coming-clause-kinds g c =
    let p = err_from_is_err_and c.from_residual.result c.from_residual.ensures.1 in rw (p.1, p.2) c.in_err-coming.ensures.kinds

pub returns-in_err-coming-clause-reads : goal.returns-in_err-coming-clause-reads
returns-in_err-coming-clause-reads g c = λ e.
    let p = err_from_is_err_and c.from_residual.result c.from_residual.ensures.1 in
    let status : c.in_err-coming.field-0.0 ≡ ReadFault = let is = sym p.1 ∙ e in let there = p.2 in cc in
    rose_still _ (g.F.Shelf.faults c.loop-coming.shelf) _ (texts c.args.names.now) c.loop-coming.invariant.quiet (c.in_err-coming.ensures.reads (ap Err status))

pub returns-in_default-clause-says : goal.returns-in_default-clause-says
unfolding passed_looking
returns-in_default-clause-says g c =
    let i = c.loop-coming.invariant in (
      i.more,
      i.noted,
      λ files frames stop journal are left stands.
          let q = i.passed files are frames stop journal left stands in
          let (finds, still) = c.in_ok-coming.ensures.finds files q.left stop (held_still _ _ _ files i.same are) q.leaves in
          let looked = passed_looking (settings_of c.args.self.now.probe) c.args.moment files c.loop-coming.self.captures.items c.next.new.self.captures.items c.loop-coming.self.probe c.next.new.self.probe
          (passed_of c.args.self.now.captures.items) frames stop journal i.more q still (looked_passed _ 1 (texts c.args.names.now) _ _ _ c.in_ok-coming.ensures.looks) c.next.ensures.probe in
          halt (settings_of c.args.self.now.probe) c.args.moment files c.next.new.self.captures.items c.next.new.self.probe (passed_of c.args.self.now.captures.items) frames stop journal i.more looked
          (halts_end c.args.moment q.left (rw c.in_default.is at finds)),
    )

pub returns-in_default-clause-all : goal.returns-in_default-clause-all
returns-in_default-clause-all g c = λ e files frames stop journal are left stands.
    let i = c.loop-coming.invariant in
    let q = i.passed files are frames stop journal left stands in
    let (finds, still) = c.in_ok-coming.ensures.finds files q.left stop (held_still _ _ _ files i.same are) q.leaves in
    all_after (settings_of c.args.self.now.probe) c.args.moment files c.loop-coming.self.captures.items c.loop-coming.self.probe (passed_of c.args.self.now.captures.items) frames stop journal i.more q (rw c.in_default.is at finds)

pub returns-in_default-clause-keeps : goal.returns-in_default-clause-keeps
returns-in_default-clause-keeps g c =
    let i = c.loop-coming.invariant in
    keeps_end _ (texts c.args.names.now) _ c.args.moment c.loop-coming.self.probe c.next.new.self.probe c.loop-coming.self.captures.items c.next.new.self.captures.items (as_many_texts c.args.names.now) (rw c.in_default.is at c.in_ok-coming.ensures.looks)
    c.next.ensures.probe i.early i.keeps

pub returns-then-coming-moment-clause-says : goal.returns-then-coming-moment-clause-says
unfolding passed_looking
returns-then-coming-moment-clause-says g c =
    let i = c.loop-coming.invariant in (
      i.more,
      i.noted,
      λ files frames stop journal are left stands.
          let q = i.passed files are frames stop journal left stands in
          let (finds, still) = c.in_ok-coming.ensures.finds files q.left stop (held_still _ _ _ files i.same are) q.leaves in
          let looked = passed_looking (settings_of c.args.self.now.probe) c.args.moment files c.loop-coming.self.captures.items c.next.new.self.captures.items c.loop-coming.self.probe c.next.new.self.probe
          (passed_of c.args.self.now.captures.items) frames stop journal i.more q still (looked_passed _ 1 (texts c.args.names.now) _ _ _ c.in_ok-coming.ensures.looks) c.next.ensures.probe in
          halt (settings_of c.args.self.now.probe) c.args.moment files c.next.new.self.captures.items c.next.new.self.probe (passed_of c.args.self.now.captures.items) frames stop journal i.more looked
          (halts_next c.args.moment q.left c.in-Some.coming (rw c.in-Some.is at finds) c.if-coming-moment.true),
    )

pub returns-then-coming-moment-clause-keeps : goal.returns-then-coming-moment-clause-keeps
returns-then-coming-moment-clause-keeps g c =
    let i = c.loop-coming.invariant in
    keeps_later _ (texts c.args.names.now) _ c.args.moment c.loop-coming.self.probe c.next.new.self.probe c.loop-coming.self.captures.items c.next.new.self.captures.items c.in-Some.coming (as_many_texts c.args.names.now)
    (rw c.in-Some.is at c.in_ok-coming.ensures.looks) c.next.ensures.probe i.early c.if-coming-moment.true i.keeps

pub count_next-requires : goal.count_next-requires
count_next-requires g c =
    let i = c.loop-coming.invariant in
    record {
      few = c.requires.few;
      told = (g.F.Shelf.held c.loop-coming.shelf, c.loop-coming.self.captures.items, rw c.in-Some.is at c.in_ok-coming.ensures.looks);
      keeps = keeps_again _ (texts c.args.names.now) (length c.args.names.now) c.loop-coming.self.probe c.next.new.self.probe c.loop-coming.self.captures.items c.next.new.self.captures.items _ c.in_ok-coming.ensures.looks c.next.ensures.probe i.keeps;
    }

pub loop-coming-preserved : goal.loop-coming-preserved
unfolding passed_looking
loop-coming-preserved g c =
    let i = c.loop-coming.invariant in
    let looks = c.in_ok-coming.ensures.looks in
    let place = looked_passed _ 1 (texts c.args.names.now) c.loop-coming.self.captures.items c.next.new.self.captures.items _ looks in
    let (more, noted, counted) = c.count_next.ensures.passes in
    record {
      same = λ each. c.count_next.ensures.shelf.constant each ∙ c.in_ok-coming.ensures.shelf.constant each ∙ i.same each;
      quiet = λ each. c.count_next.ensures.shelf.quiet (λ never. never) each ∙ c.in_ok-coming.ensures.shelf.quiet (λ e. cc) each ∙ i.quiet each;
      settings = c.count_next.ensures.settings ∙ ap settings_of c.next.ensures.probe ∙ i.settings;
      more = i.more ++ more;
      noted = notes_both g.N.Notes.since c.args.notes.now c.loop-coming.notes c.count_next.new.notes i.more more i.noted noted;
      early = omega (arith, c.count_next.ensures.last, c.if-coming-moment.false);
      keeps = c.count_next.ensures.keeps;
      passed = λ files are frames stop journal left stands.
          let q = i.passed files are frames stop journal left stands in
          let (finds, still) = c.in_ok-coming.ensures.finds files q.left stop (held_still _ _ _ files i.same are) q.leaves in
          let looked = passed_looking (settings_of c.args.self.now.probe) c.args.moment files c.loop-coming.self.captures.items c.next.new.self.captures.items c.loop-coming.self.probe c.next.new.self.probe
          (passed_of c.args.self.now.captures.items) frames stop journal i.more q still place c.next.ensures.probe in
          passed_one (settings_of c.args.self.now.probe) c.args.moment (g.F.Shelf.held c.next.new.shelf) (texts c.args.names.now) files c.next.new.self.captures.items c.count_next.new.self.captures.items c.next.new.self.probe
          c.count_next.new.self.probe (passed_of c.args.self.now.captures.items) frames stop journal i.more more c.in-Some.coming
          (held_still _ _ _ files c.in_ok-coming.ensures.shelf.constant (held_still _ _ _ files i.same are)) (ap settings_of c.next.ensures.probe ∙ i.settings) c.if-coming-moment.false counted c.count_next.ensures.count looked
          (rw c.in-Some.is at finds);
    }

pub loop-coming-smaller : goal.loop-coming-smaller
loop-coming-smaller g c =
    let place = looked_passed _ 1 (texts c.args.names.now) c.loop-coming.self.captures.items c.next.new.self.captures.items _ c.in_ok-coming.ensures.looks in
    let most = most_passed _ _ c.loop-coming.self.probe c.loop-coming.self.captures.items c.requires.few c.loop-coming.invariant.keeps in
    omega (arith, c.count_next.ensures.count, place, most)
