use Rattle.std.proofs.Common.{◌≡◌, ◌∙◌, ◌∷◌, Ok, ap, sym, subst}
use Rattle.rm_edge.proofs.Keeping.{keeps_more}
use Rattle.rm_model.specs.Journal.{Frame, Journal, passes}
use Rattle.rm_pcap.specs.declared.frame.Step.{Step}
use Rattle.rm_pcap.specs.declared.frame.Step.TheVariants.{Next}
use Rattle.rm_captures.specs.Reading.{texts}
use Rattle.rm_captures.specs.declared.coming.Coming.{Coming}
use Rattle.rm_captures.proofs.ComingLemmas.{LendsTold, told_is_lent}
use Rattle.rm_captures.proofs.NameLemmas.{as_many_texts}
use Rattle.rm_probe.specs.Advance.{IsAdvanced}
use Rattle.rm_probe.specs.Probe.{Stands, settings_of}
use Rattle.rm_probe.proofs.FrameLemmas.{told_passes, told_place}
use Rattle.rm_probe.proofs.replaying.Replaying.count_next.Goals as goal

pub pass_next-requires : goal.pass_next-requires
pass_next-requires g c =
    let (held, olds, looks) = c.requires.told in
    let (first, captured, named) = told_place held (texts c.args.names.now) _ olds c.args.self.now.captures.items c.args.coming (as_many_texts c.args.names.now) looks in
    record { first = first; captured = captured; named = named }

pub frame-requires : goal.frame-requires
frame-requires g c =
    let (held, olds, looks) = c.requires.told in
    let step : c.pass_next.result ≡ Ok (Next c.in-Ok-Next.frame) = c.in-Ok-Next.is ∙ ap Ok c.in-Ok-Next.field-0-is in
    let (may, same) = told_passes held (g.F.Shelf.held c.args.shelf.now) (texts c.args.names.now) _ olds c.args.self.now.captures.items c.pass_next.follows.lender-at-none.items c.args.coming c.in-Ok-Next.frame c.args.self.now.probe
    c.requires.few (as_many_texts c.args.names.now) looks (rw step at c.pass_next.follows.holds-at-none.0) c.requires.keeps in
    record { later = may.later; captured = may.captured; original = may.most; room = may.room }

pub returns-in-Ok-Next-clause-keeps : goal.returns-in-Ok-Next-clause-keeps
returns-in-Ok-Next-clause-keeps g c =
    let (held, olds, looks) = c.requires.told in
    let step : c.pass_next.result ≡ Ok (Next c.in-Ok-Next.frame) = c.in-Ok-Next.is ∙ ap Ok c.in-Ok-Next.field-0-is in
    let (may, same) = told_passes held (g.F.Shelf.held c.args.shelf.now) (texts c.args.names.now) _ olds c.args.self.now.captures.items c.pass_next.follows.lender-at-none.items c.args.coming c.in-Ok-Next.frame c.args.self.now.probe
    c.requires.few (as_many_texts c.args.names.now) looks (rw step at c.pass_next.follows.holds-at-none.0) c.requires.keeps in
    may.keeps c.frame.new.self c.frame.ensures.last c.frame.ensures.frames

pub returns-in-Ok-Next-clause-count : goal.returns-in-Ok-Next-clause-count
returns-in-Ok-Next-clause-count g c =
    let (held, olds, looks) = c.requires.told in
    let step : c.pass_next.result ≡ Ok (Next c.in-Ok-Next.frame) = c.in-Ok-Next.is ∙ ap Ok c.in-Ok-Next.field-0-is in
    let (may, same) = told_passes held (g.F.Shelf.held c.args.shelf.now) (texts c.args.names.now) _ olds c.args.self.now.captures.items c.pass_next.follows.lender-at-none.items c.args.coming c.in-Ok-Next.frame c.args.self.now.probe
    c.requires.few (as_many_texts c.args.names.now) looks (rw step at c.pass_next.follows.holds-at-none.0) c.requires.keeps in
    may.count

pub returns-in-Ok-Next-clause-last : goal.returns-in-Ok-Next-clause-last
returns-in-Ok-Next-clause-last g c =
    let (held, olds, looks) = c.requires.told in
    let step : c.pass_next.result ≡ Ok (Next c.in-Ok-Next.frame) = c.in-Ok-Next.is ∙ ap Ok c.in-Ok-Next.field-0-is in
    let (may, same) = told_passes held (g.F.Shelf.held c.args.shelf.now) (texts c.args.names.now) _ olds c.args.self.now.captures.items c.pass_next.follows.lender-at-none.items c.args.coming c.in-Ok-Next.frame c.args.self.now.probe
    c.requires.few (as_many_texts c.args.names.now) looks (rw step at c.pass_next.follows.holds-at-none.0) c.requires.keeps in
    c.frame.ensures.last ∙ same

pub returns-in-Ok-Next-clause-passes : goal.returns-in-Ok-Next-clause-passes
returns-in-Ok-Next-clause-passes g c =
    let step : c.pass_next.result ≡ Ok (Next c.in-Ok-Next.frame) = c.in-Ok-Next.is ∙ ap Ok c.in-Ok-Next.field-0-is in
    let (more, noted, counted) = c.frame.ensures.passes in (
      more,
      noted,
      λ files frame rest stop journal are is left stands.
          let (lent, leaves) = rw step at (c.pass_next.follows.holds-at-none.1 files frame rest stop are (sym (ap (λ (coming : Coming). coming.interface) is)) left) in (
            leaves,
            subst (λ (f : Frame). (ready : Journal) × IsAdvanced (settings_of c.args.self.now.probe) f.moment journal more ready × Stands c.frame.new.self (passes f ∷ ready)) lent (counted journal stands),
          ),
    )

pub returns-in-Ok-Next-clause-shelf : goal.returns-in-Ok-Next-clause-shelf
returns-in-Ok-Next-clause-shelf g c =
    let step : c.pass_next.result ≡ Ok (Next c.in-Ok-Next.frame) = c.in-Ok-Next.is ∙ ap Ok c.in-Ok-Next.field-0-is in
    keeps_more g.F.Shelf.held g.F.Shelf.faults c.args.shelf.now c.pass_next.new.shelf _ _ _ _ c.pass_next.ensures.shelf (λ each is. is) (λ e. let is = sym step ∙ e.1 in cc)

pub returns-in-Ok-End : goal.returns-in-Ok-End
returns-in-Ok-End g c =
    let (held, olds, looks) = c.requires.told in
    absurd (subst (λ (step : Step). LendsTold c.args.coming (Ok step)) c.in-Ok-End.field-0-is (subst (LendsTold c.args.coming) c.in-Ok-End.is
    (told_is_lent held (g.F.Shelf.held c.args.shelf.now) 1 (texts c.args.names.now) olds c.args.self.now.captures.items c.pass_next.follows.lender-at-none.items c.args.coming c.pass_next.result looks
    c.pass_next.follows.holds-at-none.0)))

pub returns-in-Ok-Cut : goal.returns-in-Ok-Cut
returns-in-Ok-Cut g c =
    let (held, olds, looks) = c.requires.told in
    absurd (subst (λ (step : Step). LendsTold c.args.coming (Ok step)) c.in-Ok-Cut.field-0-is (subst (LendsTold c.args.coming) c.in-Ok-Cut.is
    (told_is_lent held (g.F.Shelf.held c.args.shelf.now) 1 (texts c.args.names.now) olds c.args.self.now.captures.items c.pass_next.follows.lender-at-none.items c.args.coming c.pass_next.result looks
    c.pass_next.follows.holds-at-none.0)))

pub returns-in-Err : goal.returns-in-Err
returns-in-Err g c =
    let (held, olds, looks) = c.requires.told in
    absurd (subst (LendsTold c.args.coming) c.in-Err.is
    (told_is_lent held (g.F.Shelf.held c.args.shelf.now) 1 (texts c.args.names.now) olds c.args.self.now.captures.items c.pass_next.follows.lender-at-none.items c.args.coming c.pass_next.result looks
    c.pass_next.follows.holds-at-none.0))
