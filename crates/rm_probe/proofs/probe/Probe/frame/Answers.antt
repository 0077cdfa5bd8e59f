use Rattle.rm_probe.specs.Probe.{settings_of}
use Rattle.rm_probe.proofs.probe.Probe.frame.Goals as goal

pub returns-clause-passes : goal.returns-clause-passes
returns-clause-passes g c =
    let (more, noted, advanced) = c.advance.ensures.advanced in (
      more,
      noted,
      λ journal stands.
          let (ready, is, stood) = advanced journal stands in
          let (orderly, none) = c.advance_is_orderly.ensures (settings_of c.args.self.now) c.args.frame.now.moment journal is.sent ready stands.orderly is.advanced in
          (ready, is, c.frame.ensures.stands ready stood none),
    )
