use Rattle.std.proofs.Common.{ap, refl}
use Rattle.rm_probe.specs.Said.{Last}
use Rattle.rm_probe.proofs.OutputLemmas.{says_put}
use Rattle.rm_probe.proofs.output.OutputOutlet.last.Goals as goal

pub returns : goal.returns
returns g c = record {
  says = λ start said since. says_put g.P.Post.peers g.P.Post.same g.met.P.Post.still g.met.P.Post.onward g.met.P.Post.kept _ _ _ _ _ _ _ _ _ said since (Last c.args.is_cut c.args.frames c.args.requests)
      c.put.ensures.same_reference refl c.put.ensures.post (ap g.P.Post.sent c.put.ensures.post) (rw c.last_line.ensures at c.put.ensures.adds);
  failed = c.put.ensures.failed;
}
