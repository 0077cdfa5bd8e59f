use Rattle.rm_group.proofs.acts.sample_begins.Goals as goal

pub returns : goal.returns
returns g c settings earlier alarm reading stands later asked =
    g.met.G.Unsampled.begins c.args.group.now settings earlier c.args.moment alarm reading stands later asked
