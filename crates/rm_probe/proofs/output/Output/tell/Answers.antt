use Rattle.std.proofs.Common.{refl, [], List, ℕ, ap, inr, Some, subst}
use Rattle.std.proofs.lemmas.List.{append-nil}
use Rattle.rm_edge.specs.Outside.{Adds, AddsFront, Puts}
use Rattle.rm_edge.specs.Link.{Datagram}
use Rattle.rm_probe.specs.Said.{to_each}
use Rattle.rm_probe.specs.Output.{HasAdded, shown}
use Rattle.rm_probe.specs.declared.output.OutputFault.TheVariants.{Send}
use Rattle.rm_probe.proofs.OutputLemmas.{added_then, adds_front, send_adds}
use Rattle.rm_probe.proofs.output.Output.tell.Goals as goal

pub returns-in-Ok-clause-adds : goal.returns-in-Ok-clause-adds
returns-in-Ok-clause-adds g c =
    let old = shown g.K.Sink.content g.K.Sink.faults g.P.Post.sent g.P.Post.faults c.args.self.now.sink.now c.args.self.now.post c.args.self.now.failed in
    let mid = shown g.K.Sink.content g.K.Sink.faults g.P.Post.sent g.P.Post.faults c.put.new.self.sink.now c.put.new.self.post c.put.new.self.failed in
    let new = shown g.K.Sink.content g.K.Sink.faults g.P.Post.sent g.P.Post.faults c.put.new.self.sink.now c.send.new.self c.put.new.self.failed in
    let message = to_each (g.P.Post.peers c.args.self.now.post c.args.to) c.args.message.now in
    let none = c.in_ok-put.ensures.failed in
    subst (λ (line : List ℕ). HasAdded old new line message) (append-nil c.args.line.now.items)
    (added_then old mid new c.args.line.now.items [] [] message c.in_ok-put.ensures.adds
    (send_adds mid new message c.send.result none (subst (λ (ms : List Datagram). Puts (g.P.Post.sent c.put.new.self.post) (g.P.Post.sent c.send.new.self) ms c.send.result) (ap (λ post. to_each (g.P.Post.peers post c.args.to) c.args.message.now) c.in_ok-put.ensures.post) c.send.ensures.sent) c.send.ensures.cause refl refl (rw c.in-Ok.is none)))

pub returns-in-Err-clause-adds : goal.returns-in-Err-clause-adds
returns-in-Err-clause-adds g c =
    let old = shown g.K.Sink.content g.K.Sink.faults g.P.Post.sent g.P.Post.faults c.args.self.now.sink.now c.args.self.now.post c.args.self.now.failed in
    let mid = shown g.K.Sink.content g.K.Sink.faults g.P.Post.sent g.P.Post.faults c.put.new.self.sink.now c.put.new.self.post c.put.new.self.failed in
    let new = shown g.K.Sink.content g.K.Sink.faults g.P.Post.sent g.P.Post.faults c.put.new.self.sink.now c.send.new.self (Some Send) in
    let message = to_each (g.P.Post.peers c.args.self.now.post c.args.to) c.args.message.now in
    subst (λ (line : List ℕ). HasAdded old new line message) (append-nil c.args.line.now.items)
    (added_then old mid new c.args.line.now.items [] [] message c.in_ok-put.ensures.adds
    (send_adds mid new message c.send.result c.in_ok-put.ensures.failed (subst (λ (ms : List Datagram). Puts (g.P.Post.sent c.put.new.self.post) (g.P.Post.sent c.send.new.self) ms c.send.result) (ap (λ post. to_each (g.P.Post.peers post c.args.to) c.args.message.now) c.in_ok-put.ensures.post) c.send.ensures.sent) c.send.ensures.cause refl refl (rw c.in-Err.is refl)))

pub returns-in-Ok-clause-order : goal.returns-in-Ok-clause-order
returns-in-Ok-clause-order g c = λ none.
    let message = to_each (g.P.Post.peers c.args.self.now.post c.args.to) c.args.message.now in
    let post = c.in_ok-put.ensures.post in
    inr (
      c.in_ok-put.ensures.adds.puts.whole c.in_ok-put.ensures.failed,
      subst (λ before. AddsFront (g.P.Post.sent before) (g.P.Post.sent c.send.new.self) message) post
          (adds_front (g.P.Post.sent c.put.new.self.post) (g.P.Post.sent c.send.new.self) message
          (subst (λ before. Adds (g.P.Post.sent c.put.new.self.post) (g.P.Post.sent c.send.new.self) (to_each (g.P.Post.peers before c.args.to) c.args.message.now)) post c.in-Ok.ensures.sent)),
    )
