use Rattle.rm_layer_tables.proofs.shown.count_in.Goals as goal

pub returns-in-4 : goal.returns-in-4
returns-in-4 g c = rw c.in-4.is (rw c.rows-rows.ensures at c.network_inserts.ensures.kept)

pub returns-in-5 : goal.returns-in-5
returns-in-5 g c = rw c.in-5.is (rw c.rows-rows.ensures at c.network_deletes.ensures.kept)

pub returns-in-8 : goal.returns-in-8
returns-in-8 g c = rw c.in-8.is (rw c.rows-rows.ensures at c.application_inserts.ensures.kept)

pub returns-in-9 : goal.returns-in-9
returns-in-9 g c = rw c.in-9.is (rw c.rows-rows.ensures at c.application_deletes.ensures.kept)
