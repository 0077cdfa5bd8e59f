use Rattle.rm_evicting.proofs.Keys.{exact_key}
use Rattle.rm_order.proofs.ReversedLemmas.{alike_of}
use Rattle.rm_reversed.proofs.RowLemmas.{row_of-of, next-of}
use Rattle.rm_reversed.proofs.rows.Goals as goal

pub returns : goal.returns
returns g c =
    let eq = g.K.PartialEq.eq in
    let to = g.K.Reversible.reversing in
    let twice = g.met.K.Reversible.twice in
    let alike = alike_of eq (exact_key eq g.K.Ord.cmp g.met.K.Eq.laws g.met.K.Ord.matches_eq g.met.K.Key.exact) to twice in
    record {
      row = λ rows key. row_of-of eq to twice alike key rows;
      next = λ ordered rows from next are is. next-of to twice g.K.Ord.cmp ordered rows are from next is;
    }
