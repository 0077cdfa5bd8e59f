use Rattle.rm_dir.specs.Idle.{stands_passed}
use Rattle.rm_dir.proofs.group.DirectoryUnfired.take_frame.Goals as goal

pub returns-clause-stands : goal.returns-clause-stands
returns-clause-stands c settings earlier frame is stands later asked = stands_passed c.args.self.now earlier frame stands
