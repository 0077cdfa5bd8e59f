use Rattle.rm_matrix.proofs.by_source.BySourceKeyTable.index_above.Goals as goal

pub returns-clause-least : goal.returns-clause-least
returns-clause-least c = rw c.rows.ensures.value at c.key_above.ensures.least
