use Rattle.std.proofs.Common.{◌≡◌, Some, None, arith, position, refl, inr, rules}
use Rattle.rm_edge.specs.MemShelf.{is_named}
use Rattle.rm_edge.proofs.Files.{file_in-None, stands_at, counts_fault}
use Rattle.rm_edge.proofs.memory.shelf.MemShelfShelf.read.Goals as goal

pub returns-in_default : goal.returns-in_default
returns-in_default c =
    let place : position (is_named c.args.name.now) c.self.inside.files.items ≡ None = rw (← c.deref.ensures.value, ← c.place_of.ensures) c.in_default.is in
    let none = file_in-None c.self.inside.files.items c.args.name.now place in
    rw (← c.self.view_is) record {
      most = search rules;
      shelf = record { constant = search rules; later = search rules; quiet = search rules; apart = search rules };
      octets = rw none (search rules);
      cause = rw none (record { later = omega arith; failed = omega arith });
      exact = (λ _. inr (rw none refl), λ _. refl);
      count = search rules;
      counted = rw none (omega arith);
      calls = search rules;
      failing = search rules;
      pieces = search rules;
    }

pub returns-then-fails : goal.returns-then-fails
returns-then-fails c =
    let place : position (is_named c.args.name.now) c.self.inside.files.items ≡ Some c.in-Some.place = rw (← c.deref.ensures.value, ← c.place_of.ensures) c.in-Some.is in
    let stands = stands_at c.self.inside.files.items c.args.name.now c.in-Some.place c.index_mut.result.now place c.index_mut.ensures.value in
    let counts = counts_fault c.self.inside.files.items c.in-Some.place c.self.inside.absent_faults c.index_mut.result.now c.count_fault.new.self c.args.name.now stands c.count_fault.ensures.counted c.count_fault.ensures.later in
    rw (← c.self.view_is) record {
      most = search rules;
      shelf = record { constant = counts.constant; later = counts.later; quiet = search rules; apart = λ each bytes other _. counts.apart each other };
      octets = rw stands.file (search rules);
      cause = record { later = counts.later c.args.name.now; failed = omega (arith, counts.counted) };
      exact = search rules;
      count = search rules;
      counted = counts.counted;
      calls = search rules;
      failing = search rules;
      pieces = search rules;
    }

pub returns : goal.returns
returns c =
    let place : position (is_named c.args.name.now) c.self.inside.files.items ≡ Some c.in-Some.place = rw (← c.deref.ensures.value, ← c.place_of.ensures) c.in-Some.is in
    let stands = stands_at c.self.inside.files.items c.args.name.now c.in-Some.place c.index.result.now place c.index.ensures in
    rw (← c.self.view_is) record {
      most = omega (arith, c.read_at.ensures.count);
      shelf = record { constant = search rules; later = search rules; quiet = search rules; apart = search rules };
      octets = rw stands.file (record { octets = c.read_at.ensures.octets; within = omega (arith, c.read_at.ensures.count); some = grind (arith, c.read_at.ensures.count, c.read_at.auto.into) });
      cause = record { later = omega arith; failed = search rules };
      exact = rw stands.file (search rules);
      count = rw stands.file c.read_at.ensures.count;
      counted = search rules;
      calls = search rules;
      failing = search rules;
      pieces = search rules;
    }
