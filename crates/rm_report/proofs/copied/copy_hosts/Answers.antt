use Rattle.std.proofs.Common.{◌≡◌, ◌+◌, ◌∷◌, [], ◌++◌, map, take, vec_len, sym, ap, ◌∙◌, arith}
use Rattle.rm_rows.specs.Table.{keys_of}
use Rattle.rm_report.specs.Copies.{copy_in}
use Rattle.rm_report.proofs.Walking.{one_more, not_all}
use Rattle.rm_report.proofs.copied.copy_hosts.Goals as goal
use Rattle.rm_report.proofs.copied.copy_hosts.Goals.{in-Some, in_default}

pub loop-place-preserved : goal.loop-place-preserved
loop-place-preserved c =
    let rows = c.args.hosts.now.rows in
    let f = copy_in c.args.base rows in
    let place = c.loop-place.place in
    elim c.match-copied_at.branch [
      | in-Some w ↦
          let more : map f (take (place + 1) (keys_of rows)) ≡ map f (take place (keys_of rows)) ++ w.in-Some.copied ∷ [] = one_more f rows place w.in-Some.copied w.in-Some.ensures in
          record { copies = cc; len = omega (arith, ap vec_len w.copies-is); room = cc }
      | in_default w ↦ absurd (not_all f rows place (omega arith) (sym w.in_default.is ∙ c.copied_at.ensures))
    ]
