use Rattle.std.proofs.Common.{◌≡◌, ◌<◌, ◌-◌, length, Ok, Err, refl, ap, arith}
use Rattle.rm_edge.proofs.Keeping.{keeps_more}
use Rattle.rm_pcap.specs.declared.fault.PcapFault.{PcapFault}
use Rattle.rm_pcap.specs.declared.fault.PcapFault.TheVariants.{Read}
use Rattle.rm_captures.specs.Reading.{texts}
use Rattle.rm_captures.proofs.NameLemmas.{text_at, as_many_texts, one_of_at, rose_at}
use Rattle.rm_captures.proofs.PassLemmas.{steps_at, steps_left}
use Rattle.rm_captures.proofs.passing.pass_next.Goals as goal

pub returns-in-Ok : goal.returns-in-Ok
returns-in-Ok g c =
    let named : c.args.interface - 1 < length (texts c.args.names.now) = omega (arith, as_many_texts c.args.names.now, c.requires.first, c.requires.named) in
    let steps = steps_at (g.F.Shelf.held c.args.shelf.now) 1 (c.args.interface - 1) c.args.interface (texts c.args.names.now) c.args.captures.now.items _ _ c.index_mut.result.now c.next.follows.lender-at-none (Ok c.in-Ok.step)
    (omega (arith, c.requires.first)) named (omega (arith, c.requires.first, c.requires.captured)) (text_at c.args.names.now (c.args.interface - 1) _) c.index_mut.ensures.value
    (rw c.in-Ok.is at c.next.follows.holds-at-none) in (
      (refl, λ _. tt, (steps, λ files frame more stop are is left. steps_left _ 1 c.args.interface _ _ _ _ files frame more stop steps are is left)),
      record {
        shelf = keeps_more g.F.Shelf.held g.F.Shelf.faults c.args.shelf.now c.next.new.shelf _ _ _ _ c.in-Ok.ensures.shelf
            (λ each is. one_of_at c.args.names.now (c.args.interface - 1) _ each (omega (arith, c.requires.first, c.requires.named)) is) (λ e. absurd cc);
        cause = tt;
        after = tt;
      },
    )

pub returns-in-Err : goal.returns-in-Err
returns-in-Err g c =
    let named : c.args.interface - 1 < length (texts c.args.names.now) = omega (arith, as_many_texts c.args.names.now, c.requires.first, c.requires.named) in
    let within : c.args.interface - 1 < length c.args.names.now = omega (arith, c.requires.first, c.requires.named) in
    let steps = steps_at (g.F.Shelf.held c.args.shelf.now) 1 (c.args.interface - 1) c.args.interface (texts c.args.names.now) c.args.captures.now.items _ _ c.index_mut.result.now c.next.follows.lender-at-none
    (Err (record { interface = c.args.interface; fault = c.in-Err.fault }))
    (omega (arith, c.requires.first)) named (omega (arith, c.requires.first, c.requires.captured)) (text_at c.args.names.now (c.args.interface - 1) _) c.index_mut.ensures.value
    (refl, c.in-Err.ensures.faults, rw c.in-Err.is at c.next.follows.holds-at-none) in (
      (refl, λ _. tt, (steps, λ files frame more stop are is left. steps_left _ 1 c.args.interface _ _ _ _ files frame more stop steps are is left)),
      record {
        shelf = keeps_more g.F.Shelf.held g.F.Shelf.faults c.args.shelf.now c.next.new.shelf _ _ _ _ c.in-Err.ensures.shelf
            (λ each is. one_of_at c.args.names.now (c.args.interface - 1) _ each within is)
            (λ e. let same : c.in-Err.fault ≡ Read = cc in (c.args.interface, ap (λ (fault : PcapFault). Err (record { interface = c.args.interface; fault = fault })) same));
        cause = λ read. rose_at _ _ c.args.names.now (c.args.interface - 1) _ within (c.in-Err.ensures.cause read);
        after = tt;
      },
    )
