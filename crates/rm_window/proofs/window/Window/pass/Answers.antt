use Rattle.rm_window.proofs.WindowLemmas.{passed_front, passed_last}
use Rattle.rm_window.proofs.window.Window.pass.Goals as goal

pub returns-clause-octets : goal.returns-clause-octets
returns-clause-octets c =
    let self = c.args.self.now in passed_front self.from self.until c.args.count self.buffer.items c.requires

pub returns-clause-passed : goal.returns-clause-passed
returns-clause-passed c = λ k few.
    let self = c.args.self.now in passed_last self.from self.until c.args.count k self.buffer.items c.requires few
