use Rattle.std.proofs.Common.{subst, sym}
use Rattle.rm_window.specs.Window.{octets_of}
use Rattle.rm_pcap.specs.Progress.{Progress, Agrees, HasRead}
use Rattle.rm_pcap.specs.View.{progress_of}
use Rattle.rm_pcap.proofs.BaseLemmas.{agrees_based, progress_based, read_based}
use Rattle.rm_pcap.proofs.capture.Capture.based.Goals as goal

pub returns-clause-read : goal.returns-clause-read
unfolding progress_of
returns-clause-read c = λ read.
    let self = c.args.self.now in
    subst (λ (p : Progress). HasRead p) (sym (progress_based c.args.base self.position (octets_of self.window) self.seen c.requires.unseen.first))
    (read_based c.args.base (progress_of self) c.requires.unseen read)

pub returns-clause-agrees : goal.returns-clause-agrees
unfolding progress_of
returns-clause-agrees c = λ bytes agrees.
    let self = c.args.self.now in
    subst (λ (p : Progress). Agrees p bytes) (sym (progress_based c.args.base self.position (octets_of self.window) self.seen c.requires.unseen.first))
    (agrees_based c.args.base self bytes c.requires.unseen agrees)
