use Rattle.std.proofs.Common.{ℕ, refl, sym, subst}
use Rattle.rm_model.specs.Journal.{last_moment}
use Rattle.rm_pool.proofs.Numbered.{numbered}
use Rattle.rm_topn.specs.Control.{top_control}
use Rattle.rm_topn.specs.Held.{AreAskable, HaveEndedBy}
use Rattle.rm_topn.proofs.Ended.{ended_then, askable_then, of_valid_then, kept_then, due_then, no_more_then, fewer_then, askable_both, askable_earlier}
use Rattle.rm_topn.proofs.reports.Reports.end_by.Goals as goal

pub invariant_of-self : goal.invariant_of-self
invariant_of-self c =
    let old = c.args.self.now in
    record {
      of_valid = of_valid_then c.args.hosts.now c.args.moment old.courses c.change_each.new.self c.change_each.ensures.parts old.rows old.of_valid;
      ended = subst (λ (n : ℕ). HaveEndedBy c.change_each.new.self n) (sym c.max-self.ensures) (ended_then c.args.hosts.now c.args.moment old.courses c.change_each.new.self c.change_each.ensures.parts old.last old.ended);
    }

pub returns-clause-stands : goal.returns-clause-stands
returns-clause-stands c settings journal stand stands =
    let old = c.args.self.now in
    let earlier : AreAskable old.courses (last_moment journal) = askable_earlier c.args.hosts.now c.args.moment old.courses c.change_each.new.self c.change_each.ensures.parts old.last (last_moment journal) stands.timely in
    record {
      held = record { rows = stands.held.rows; given = stands.held.given; measured = stands.held.measured };
      courses = λ row. kept_then c.args.hosts.now c.args.moment old.courses c.change_each.new.self c.change_each.ensures.parts settings journal stands.held.measured stand earlier row (stands.courses row);
      timely = askable_both c.args.hosts.now c.args.moment old.courses c.change_each.new.self c.change_each.ensures.parts old.last (last_moment journal) _ c.max-self.ensures stands.timely;
    }

pub returns-clause-askable : goal.returns-clause-askable
returns-clause-askable c = askable_then c.args.hosts.now c.args.moment c.args.self.now.courses c.change_each.new.self c.change_each.ensures.parts

pub returns-clause-ended : goal.returns-clause-ended
returns-clause-ended c =
    let old = c.args.self.now in
    let new = c.change_each.new.self in
    let each = c.change_each.ensures.parts in
    record {
      others = due_then c.args.hosts.now c.args.moment old.courses new each;
      no_more = no_more_then c.args.hosts.now c.args.moment old.courses new each;
      fewer = fewer_then c.args.hosts.now c.args.moment old.courses new each (numbered top_control refl old.courses old.rows c.len.ensures.rows old.of_valid);
    }
