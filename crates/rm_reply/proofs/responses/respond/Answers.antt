use Rattle.std.proofs.Common.{◌≡◌, sym, ap, subst, ◌∙◌}
use Rattle.rm_pdu.specs.declared.kind.Kind.{Kind}
use Rattle.rm_pdu.specs.declared.kind.Kind.TheVariants.{Set}
use Rattle.rm_pdu.specs.Parse.{is_request}
use Rattle.rm_reply.specs.Sets.{alone_among}
use Rattle.rm_reply.specs.Responses.{IsReplyBy}
use Rattle.rm_model.specs.Readings.{nothing_read}
use Rattle.rm_reply.proofs.SetLemmas.{set_kind}
use Rattle.rm_reply.proofs.Verdicts.{set_moment}
use Rattle.rm_reply.proofs.responses.respond.Goals as goal

pub returns-in-None-clause-reply : goal.returns-in-None-clause-reply
returns-in-None-clause-reply g c settings journal m stands later askable asked =
    let cells = g.G.Group.cells settings journal c.args.now in
    let together = g.G.Group.together settings journal c.args.now nothing_read in
    let reserves = g.G.Stores.reserves settings journal in
    let (whole, is_asked, asks) = c.requires.asked in
    let kind : c.args.request.now.message.kind ≡ Set = set_kind _ (ap is_request is_asked.told.kind ∙ asks) (sym c.in-None.ensures.built) in
    let same : m.kind ≡ Set = sym asked.told.kind ∙ kind in
    let (after, stood, (reply, is, drafted_so)) = c.set.ensures.reply m asked settings journal stands later askable in (
      after,
      stood,
      set_moment (alone_among g.G.Objects.objects g.G.Group.alone) together reserves c.args.now journal c.args.may_write m reply after is later,
      (
        reply,
        subst (λ (k : Kind). IsReplyBy cells g.G.Objects.objects g.G.Group.alone together reserves c.args.may_write c.args.now journal k m reply after) (sym same) is,
        drafted_so,
      ),
    )
