use Rattle.std.specs.Option.{option_or}
use Rattle.rm_model.specs.Cells.{Cells}
use Rattle.rm_history.specs.Collection.{history_collection}
use Rattle.rm_matrix.specs.Collection.{matrix_collection}
use Rattle.rm_hosts.specs.Collection.{host_collection}
use Rattle.rm_collectors.specs.Group.{collected_cells}
use Rattle.rm_collectors.proofs.group.CollectorsGroup.after.Goals as goal

pub returns-clause-next : goal.returns-clause-next
unfolding collected_cells
returns-clause-next c settings journal stands later askable =
    let history = history_collection.cells settings journal c.args.now in
    let of_two : Cells = λ name. option_or (history name) (matrix_collection.cells settings journal c.args.now name) in
    let of_three : Cells = λ name. option_or (of_two name) (host_collection.cells settings journal c.args.now name) in
    c.nearer_in.ensures.next of_three settings journal
    (c.nearer_in-of_three.ensures.next of_two settings journal
    (c.nearer_in-of_two.ensures.next history settings journal
    (c.after-history.ensures.next settings journal stands.history later tt) stands.matrix later tt) stands.hosts later tt) stands.reports later askable
