use Rattle.std.proofs.Common.{arith}
use Rattle.std.proofs.lemmas.Int.{to_z_pos, to_z-of_z}
use Rattle.std.specs.Int.{w32}
use Rattle.rm_val.specs.declared.error.ErrorStatus.TheVariants.{NoError}
use Rattle.rm_reply.specs.Sets.{returning}
use Rattle.rm_reply.proofs.SetLemmas.{all_fit}
use Rattle.rm_reply.proofs.set.telling.Goals as goal

pub tell-requires : goal.tell-requires
tell-requires c =
    let (m, returned) = c.requires.returned in
    let fits = all_fit c.index_128_is_longest.ensures m c.args.status c.args.index c.requires.index returned.short in (
      returning m NoError 128,
      returned.is,
      rw (to_z-of_z w32 c.number.result (record { sfits = c.number.type_inv }), c.number.ensures, to_z_pos w32 c.args.index (omega (arith, c.requires.index))) fits,
    )
