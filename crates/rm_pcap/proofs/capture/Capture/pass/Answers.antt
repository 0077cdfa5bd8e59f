use Rattle.std.proofs.Common.{◌≡◌, ◌+◌, ◌-◌, ℕ, List, ◌∙◌, ap, sym, subst, take, drop, Some, None, arith}
use Rattle.rm_pcap.specs.declared.position.Position.{Position}
use Rattle.rm_pcap.specs.Steps.{Whole}
use Rattle.rm_pcap.specs.Progress.{Progress}
use Rattle.rm_pcap.specs.Calls.{Looks}
use Rattle.rm_pcap.specs.Seen.{frame_seen}
use Rattle.rm_window.specs.Window.{octets_of, passed_of}
use Rattle.rm_pcap.specs.View.{progress_of}
use Rattle.rm_pcap.proofs.CaptureLemmas.{passes, behind_record}
use Rattle.rm_pcap.proofs.capture.Capture.pass.Goals as goal

pub returns-in-Whole-clause-passes : goal.returns-in-Whole-clause-passes
unfolding progress_of
returns-in-Whole-clause-passes g c =
    let self = c.args.self.now in
    let seen = c.in-Whole.record in
    let octets = octets_of c.look.new.self.window in
    let next = octets_of c.pass.new.self in
    let header : (16 + seen.included) - seen.included ≡ 16 = omega arith in
    let lent : passed_of c.pass.new.self seen.included ≡ take seen.included (drop 16 octets) =
    c.pass.ensures.passed seen.included (omega arith) ∙ ap (λ (n : ℕ). take seen.included (drop n octets)) header in
    let looks = rw c.in-Whole.is at c.in_ok-seen.ensures.looks in
    let follows = rw c.in-Whole.is at c.in_ok-seen.ensures.follows in
    passes _ (progress_of self) (progress_of c.look.new.self) _ _
    (subst (λ (t : List ℕ). Looks (g.S.Shelf.held c.args.shelf.now c.args.name.now) (progress_of self) (progress_of c.look.new.self) (Whole (frame_seen self.position.start.interface seen t) seen.after)) (sym lent) looks)
    (ap (λ (position : Position). let p : Progress = record { form = position.form; start = position.start; reach = seen.after; ahead = None; read = next } in p) c.in_ok-seen.ensures.position)
    (λ bytes front. behind_record self.position.reach seen octets next bytes follows c.pass.ensures.octets (c.look.new.self.long seen (c.in_ok-seen.ensures.seen ∙ ap Some c.in-Whole.is)) front)
