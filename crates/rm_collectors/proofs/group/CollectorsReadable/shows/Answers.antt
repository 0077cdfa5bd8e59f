use Rattle.rm_history.specs.Collection.{history_collection}
use Rattle.rm_sourced.specs.Collection.{source_collection}
use Rattle.rm_four.specs.Four.{first_of}
use Rattle.rm_collectors.specs.Group.{collected_cells}
use Rattle.rm_collectors.proofs.group.CollectorsReadable.shows.Goals as goal

pub returns : goal.returns
unfolding collected_cells history_collection source_collection
returns c settings journal stands later asked name =
    let history = c.shows.ensures settings journal stands.history later tt name in
    let matrix = c.shows-2.ensures settings journal stands.matrix later tt name in
    let hosts = c.shows-3.ensures settings journal stands.hosts later tt name in
    let reports = c.shows-4.ensures settings journal stands.reports later asked name in
    λ d. first_of (history d) (matrix d) (hosts d) (reports d)
