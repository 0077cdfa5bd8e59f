use Rattle.std.proofs.Common.{◌≡◌, ◌+◌, ◌∷◌, [], ◌++◌, filter, map, take, vec_len, sym, ap, ◌∙◌, arith}
use Rattle.rm_rows.specs.Table.{keys_of}
use Rattle.rm_report.specs.Ranking.{gains_something, rated}
use Rattle.rm_report.proofs.Walking.{one_more_passes, not_all}
use Rattle.rm_report.proofs.ranked.rate_hosts.Goals as goal
use Rattle.rm_report.proofs.ranked.rate_hosts.Goals.{in-Some, in_default}

pub loop-place-preserved : goal.loop-place-preserved
loop-place-preserved c =
    let rows = c.args.hosts.now.rows in
    let f = rated c.args.base c.args.copies.now rows in
    let place = c.loop-place.place in
    elim c.match-rated_at.branch [
      | in-Some w ↦
          record {
            rates = λ rising.
                let more : filter gains_something (map f (take (place + 1) (keys_of rows))) ≡ filter gains_something (map f (take place (keys_of rows))) ++ filter gains_something (w.in-Some.host ∷ []) =
                one_more_passes f gains_something rows place w.in-Some.host (w.in-Some.ensures rising) in
                let before = c.loop-place.invariant.rates rising in
                let added = w.add.ensures.ranked in
                cc;
            len = omega (arith, w.add.ensures.len, ap vec_len w.ranked-is);
            room = cc;
          }
      | in_default w ↦
          record {
            rates = λ rising. absurd (not_all f rows place (omega arith) (sym w.in_default.is ∙ c.rated_at.ensures rising));
            len = omega (arith, ap vec_len w.ranked-is);
            room = cc;
          }
    ]
