use Rattle.std.proofs.Common.{◌≡◌, ◌∙◌, ap, sym, refl, take, None, List, ℕ}
use Rattle.rm_pcap.specs.Progress.{Progress}
use Rattle.rm_pcap.specs.Seen.{found_of}
use Rattle.rm_window.specs.Window.{octets_of}
use Rattle.rm_pcap.specs.View.{progress_of, ahead_of}
use Rattle.rm_pcap.proofs.CaptureLemmas.{lawful_find, follows_seen, looks_again, looks_new}
use Rattle.rm_pcap.proofs.capture.Capture.look.Goals as goal

pub returns-in-Some-clause-looks : goal.returns-in-Some-clause-looks
unfolding progress_of
returns-in-Some-clause-looks g c =
    let self = c.args.self.now in
    let octets = octets_of self.window in
    looks_again _ (progress_of self) _ (ap (ahead_of self.position octets) c.in-Some.is)
    (lawful_find self.position.start.interface self.position.reach octets c.in-Some.seen (follows_seen self.position.reach self.seen c.in-Some.seen self.follows c.in-Some.is))

pub returns-in-Ok-clause-looks : goal.returns-in-Ok-clause-looks
unfolding progress_of
returns-in-Ok-clause-looks g c =
    let self = c.args.self.now in
    let none : self.seen ≡ None = c.in_default.is in
    let octets = octets_of c.see.new.window in
    looks_new _ (progress_of self) _ (found_of self.position.start.interface self.position.reach octets c.in-Ok.seen) (ap (ahead_of self.position (octets_of self.window)) none) refl
    (lawful_find self.position.start.interface self.position.reach octets c.in-Ok.seen c.in-Ok.ensures.follows) c.in-Ok.ensures.found c.in-Ok.ensures.kept

pub returns-in-Err-clause-looks : goal.returns-in-Err-clause-looks
unfolding progress_of
returns-in-Err-clause-looks g c =
    let self = c.args.self.now in
    let same : octets_of c.truncate.new.self ≡ octets_of self.window =
    c.truncate.ensures.octets ∙ ap (λ (n : ℕ). take n (octets_of c.see.new.window)) c.len-next.ensures ∙ sym c.in-Err.ensures.keeps in
    ap (λ (octets : List ℕ). let p : Progress = record { form = self.position.form; start = self.position.start; reach = self.position.reach; ahead = ahead_of self.position octets self.seen; read = octets } in p) same

pub returns-in-Err-clause-faults : goal.returns-in-Err-clause-faults
unfolding progress_of
returns-in-Err-clause-faults g c =
    let self = c.args.self.now in
    let none : self.seen ≡ None = c.in_default.is in
    record { unseen = ap (ahead_of self.position (octets_of self.window)) none; cause = c.in-Err.ensures.faults; kept = c.in-Err.ensures.broken }
