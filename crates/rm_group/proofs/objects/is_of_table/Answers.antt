use Rattle.rm_group.proofs.Listing.{none_longer}
use Rattle.rm_group.proofs.objects.is_of_table.Goals as goal

pub returns-in-Err : goal.returns-in-Err
returns-in-Err c = none_longer c.args.table.now.entry.now c.args.table.now.columns.now c.args.name.now (rw c.len.ensures.value at c.len.ensures.fits) c.in-Err.ensures.room.1
