use Rattle.rm_probe.specs.Said.{Notified}
use Rattle.rm_probe.proofs.OutputLemmas.{says_one}
use Rattle.rm_probe.proofs.output.OutputNotes.note.Goals as goal

pub returns : goal.returns
returns g c = record {
  noted = λ start said since. says_one g.P.Post.peers g.P.Post.same g.met.P.Post.still g.met.P.Post.onward g.met.P.Post.kept _ _ _ _ _ _ _ _ _ said since (Notified (record { moment = c.args.moment; message = c.args.message.now }))
      c.tell.ensures.same_reference c.tell.ensures.post (rw c.trap_line.ensures at c.tell.ensures.adds) (rw c.trap_line.ensures at c.tell.ensures.order);
}
