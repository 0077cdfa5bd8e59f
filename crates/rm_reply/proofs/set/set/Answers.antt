use Rattle.std.proofs.Common.{◌≡◌, false, true, sym, ◌∙◌}
use Rattle.rm_val.specs.declared.error.ErrorStatus.TheVariants.{NoAccess}
use Rattle.rm_reply.specs.Sets.{alone_among, is_barred, returning, telling}
use Rattle.rm_model.specs.Readings.{nothing_read}
use Rattle.rm_reply.proofs.SetLemmas.{no_access, told}
use Rattle.rm_reply.proofs.set.set.Goals as goal

pub returns-then-is_barred-clause-reply : goal.returns-then-is_barred-clause-reply
returns-then-is_barred-clause-reply g c m asked settings journal stands later askable =
    let (fits, returned) = c.in-Some.ensures.some m asked in
    let barred : is_barred c.args.may_write m ≡ true = sym (c.is_barred.ensures m asked) ∙ c.if-is_barred.true in (
      journal,
      stands,
      (
        returning m NoAccess 1,
        no_access (alone_among g.G.Objects.objects g.G.Group.alone) (g.G.Group.together settings journal c.args.now nothing_read) (g.G.Stores.reserves settings journal) c.args.may_write c.args.now journal m fits barred,
        c.telling.ensures m returned,
      ),
    )

pub returns-clause-reply : goal.returns-clause-reply
returns-clause-reply g c m asked settings journal stands later askable =
    let (fits, returned) = c.in-Some.ensures.some m asked in
    let may : is_barred c.args.may_write m ≡ false = sym (c.is_barred.ensures m asked) ∙ c.if-is_barred.false in
    let verdict = c.perform_asked-verdict.result in
    let alone = alone_among g.G.Objects.objects g.G.Group.alone in
    let together = g.G.Group.together settings journal c.args.now nothing_read in
    let (after, stood, judges) = c.perform_asked-verdict.ensures.judged m asked settings journal stands later askable in
    (after, stood, (telling m verdict, told alone together (g.G.Stores.reserves settings journal) c.args.may_write c.args.now journal m fits verdict after may judges, c.told.ensures m returned))
