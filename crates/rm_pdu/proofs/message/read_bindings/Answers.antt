use Rattle.std.proofs.Common.{◌≡◌, [], is_some, true, refl, sym, ap, ◌∙◌, arith}
use Rattle.std.specs.Prelude.{slice_get}
use Rattle.rm_pdu.proofs.ListLemmas.{list_more, list_ends, comes_some, comes_none}
use Rattle.rm_pdu.proofs.message.read_bindings.Goals as goal

pub loop-list-preserved : goal.loop-list-preserved
loop-list-preserved c =
    let comes : is_some (slice_get c.loop-list.list.left 0) ≡ true = sym (ap is_some c.peek.ensures) ∙ sym c.is_some.ensures ∙ c.loop-list-test.true in (
      c.in_ok-offsets.ensures.end ∙ c.loop-list.invariant.0,
      omega (arith, c.loop-list.invariant.1, c.in_ok-offsets.ensures.shorter refl),
      λ requests bytes outer at.
          let so_far = c.loop-list.invariant.2 requests bytes outer at in
          let part = c.in_ok-offsets.ensures.part requests bytes outer so_far.0 (comes_some c.loop-list.list.left comes) in (
            part.0,
            list_more bytes c.args.list.now.left c.loop-list.list.left c.read_binding.new.list.left c.loop-list.into c.keep.new.self c.loop-list.count c.in_ok-offsets.offsets so_far.1 part.1
                c.keep.ensures.room c.keep.ensures.full,
          ),
    )

pub returns-clause-part : goal.returns-clause-part
returns-clause-part c = λ requests bytes outer at.
    let none : c.loop-list.list.left ≡ [] = comes_none c.loop-list.list.left (sym (ap is_some c.peek.ensures) ∙ sym c.is_some.ensures ∙ c.loop-list-test.false) in
    let so_far = c.loop-list.invariant.2 requests bytes outer at in
    (so_far.0, none, list_ends bytes c.args.list.now.left c.loop-list.list.left c.loop-list.into c.loop-list.count so_far.1 none)
