use Rattle.std.proofs.Common.{◌≡◌, true, sym, ◌∙◌}
use Rattle.rm_evicting.specs.Row.{holds}
use Rattle.rm_evicting.proofs.RowLemmas.{each_held}
use Rattle.rm_evicting.specs.Stands.{IsRow}
use Rattle.rm_evicting.proofs.Keys.{exact_key}
use Rattle.rm_evicting.proofs.RankLemmas.{each_at}
use Rattle.rm_layers.specs.Event.{on_since, span}
use Rattle.rm_layers.specs.Upper.{IsValue}
use Rattle.rm_layers.proofs.Cells.{network-shown, application-shown, applications_held-is}
use Rattle.rm_layers.proofs.shown.Goals as goal

pub returns-clause-network : goal.returns-clause-network
returns-clause-network g c = λ blank add none more cap slots r u is i row at.
    let exact = exact_key g.K.PartialEq.eq g.K.Ord.cmp g.met.K.Eq.laws g.met.K.Ord.matches_eq g.met.K.Key.exact in
    network-shown g.K.PartialEq.eq exact blank add none more cap slots r row
    (each_at (IsRow g.K.PartialEq.eq (IsValue blank add none more slots (λ q. on_since q r)) cap (span r)) u.rows i row is.stands.each at)
    (sym (is.stands.held row.key) ∙ each_at (λ other. holds g.K.PartialEq.eq other.key u.rows ≡ true) u.rows i row (each_held g.K.PartialEq.eq exact u.rows) at)

pub returns-clause-application : goal.returns-clause-application
returns-clause-application g c = λ blank add none more cap slots r u tuned is i row at p.
    application-shown g.K.PartialEq.eq (exact_key g.K.PartialEq.eq g.K.Ord.cmp g.met.K.Eq.laws g.met.K.Ord.matches_eq g.met.K.Key.exact) blank add none more cap slots r tuned row (each_at (IsRow g.K.PartialEq.eq (IsValue blank add none more slots (λ q. on_since q r)) cap (span r)) u.rows i row is.stands.each at) p

pub returns-clause-application_rows : goal.returns-clause-application_rows
returns-clause-application_rows g c = λ blank add none more cap slots r u tuned is.
    applications_held-is g.K.PartialEq.eq (exact_key g.K.PartialEq.eq g.K.Ord.cmp g.met.K.Eq.laws g.met.K.Ord.matches_eq g.met.K.Key.exact) blank add none more cap slots r tuned u.rows is.stands
