use Rattle.std.proofs.Common.{drop, subst, sym, arith}
use Rattle.rm_val.specs.Spellable.{HasSpelling}
use Rattle.rm_pdu.proofs.PlacedLemmas.{placed_one, stands_inside}
use Rattle.rm_pdu.proofs.places.Places.value.Goals as goal

pub value_at-requires : goal.value_at-requires
value_at-requires c =
    let p = placed_one c.args.bytes.now c.args.self.now c.requires.held.0 c.args.place c.offsets_at-offsets.result c.requires.held.1 c.offsets_at-offsets.ensures in
    let inside = stands_inside p.binding.value p.placed.1 c.args.bytes.now c.offsets_at-offsets.result.value p.placed.3 in
    omega (arith, inside)

pub returns-clause-value : goal.returns-clause-value
returns-clause-value c = λ bindings are.
    let p = placed_one c.args.bytes.now c.args.self.now bindings c.args.place c.offsets_at-offsets.result are c.offsets_at-offsets.ensures in
    rw p.is (c.value_at.ensures p.binding.value p.placed.1 p.placed.3)

pub returns-clause-spelling : goal.returns-clause-spelling
returns-clause-spelling c =
    let p = placed_one c.args.bytes.now c.args.self.now c.requires.held.0 c.args.place c.offsets_at-offsets.result c.requires.held.1 c.offsets_at-offsets.ensures in
    let spelling : HasSpelling p.binding.value = c.values_are_spellable.ensures p.binding.value p.placed.1 (drop c.offsets_at-offsets.result.value c.args.bytes.now) p.placed.3 in
    subst HasSpelling (sym (c.value_at.ensures p.binding.value p.placed.1 p.placed.3)) spelling
