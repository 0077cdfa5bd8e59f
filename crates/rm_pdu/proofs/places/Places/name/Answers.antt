use Rattle.std.proofs.Common.{drop, subst, sym, arith}
use Rattle.rm_val.specs.Val.{name}
use Rattle.rm_val.specs.Spellable.{IsSpellable}
use Rattle.rm_pdu.proofs.PlacedLemmas.{placed_one, stands_inside}
use Rattle.rm_pdu.proofs.places.Places.name.Goals as goal

pub name_at-requires : goal.name_at-requires
name_at-requires c =
    let p = placed_one c.args.bytes.now c.args.self.now c.requires.held.0 c.args.place c.offsets_at-offsets.result c.requires.held.1 c.offsets_at-offsets.ensures in
    let inside = stands_inside (name p.binding.name) p.placed.0 c.args.bytes.now c.offsets_at-offsets.result.name p.placed.2 in
    omega (arith, inside)

pub returns-clause-name : goal.returns-clause-name
returns-clause-name c = λ bindings are.
    let p = placed_one c.args.bytes.now c.args.self.now bindings c.args.place c.offsets_at-offsets.result are c.offsets_at-offsets.ensures in
    rw p.is (c.name_at.ensures p.binding.name p.placed.0 p.placed.2)

pub returns-clause-spelling : goal.returns-clause-spelling
returns-clause-spelling c =
    let p = placed_one c.args.bytes.now c.args.self.now c.requires.held.0 c.args.place c.offsets_at-offsets.result c.requires.held.1 c.offsets_at-offsets.ensures in
    let spelling : IsSpellable p.binding.name = c.values_are_spellable.ensures (name p.binding.name) p.placed.0 (drop c.offsets_at-offsets.result.name c.args.bytes.now) p.placed.2 in
    subst IsSpellable (sym (c.name_at.ensures p.binding.name p.placed.0 p.placed.2)) spelling
