use Rattle.std.proofs.Common.{refl}
use Rattle.rm_cmd.proofs.CommandLemmas.{octets_of}
use Rattle.rm_cmd.proofs.entry.run_decode.Goals as goal

pub returns-in_default-clause-decodes : goal.returns-in_default-clause-decodes
returns-in_default-clause-decodes g c = let (octets, is) = octets_of c.args.digits.now c.requires.digits in (octets, is, refl)
