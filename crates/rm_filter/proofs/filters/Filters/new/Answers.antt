use Rattle.rm_filter.proofs.filters.Filters.new.Goals as goal

pub returns : goal.returns
returns c settings = record { first = c.new.ensures; second = c.new-2.ensures settings; tied = tt }
