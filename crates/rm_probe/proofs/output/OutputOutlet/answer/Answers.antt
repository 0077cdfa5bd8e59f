use Rattle.std.proofs.Common.{ap, refl}
use Rattle.rm_agent.specs.declared.answer.Answer.TheVariants.{Drop, Reply}
use Rattle.rm_probe.specs.Said.{Responded, response_of}
use Rattle.rm_probe.proofs.OutputLemmas.{says_one, says_put}
use Rattle.rm_probe.proofs.output.OutputOutlet.answer.Goals as goal

pub returns-in-Reply : goal.returns-in-Reply
returns-in-Reply g c = rw c.in-Reply.is (record {
  says = λ start said since. says_one g.P.Post.peers g.P.Post.same g.met.P.Post.still g.met.P.Post.onward g.met.P.Post.kept _ _ _ _ _ _ _ _ _ said since (Responded c.args.request.number c.args.request.moment (response_of (Reply c.in-Reply.count) c.args.out.now))
      c.tell.ensures.same_reference c.tell.ensures.post (rw (c.answer_line.ensures, c.in-Reply.is) at c.tell.ensures.adds) (rw (c.answer_line.ensures, c.in-Reply.is) at c.tell.ensures.order);
  failed = c.tell.ensures.failed;
})

pub returns-in-Drop : goal.returns-in-Drop
returns-in-Drop g c = rw c.in-Drop.is (record {
  says = λ start said since. says_put g.P.Post.peers g.P.Post.same g.met.P.Post.still g.met.P.Post.onward g.met.P.Post.kept _ _ _ _ _ _ _ _ _ said since (Responded c.args.request.number c.args.request.moment (response_of (Drop c.in-Drop.field-0) c.args.out.now))
      c.put.ensures.same_reference refl c.put.ensures.post (ap g.P.Post.sent c.put.ensures.post) (rw (c.answer_line.ensures, c.in-Drop.is) at c.put.ensures.adds);
  failed = c.put.ensures.failed;
})
