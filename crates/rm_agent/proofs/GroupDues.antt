-- What falls due of the groups, and by the journal that they stand for.
use Rattle.std.proofs.Common.{◌≡◌, ◌⊎◌, inl, inr, ℕ, ◌<◌, ◌≤◌, true, Option, Some, None, refl, sym, ap, ◌∙◌, arith}
use Rattle.std.specs.Prelude.{IfSome, is_some}
use Rattle.std.proofs.lemmas.Option.{same_Some}
use Rattle.rm_acts.specs.Alarms.{due_of, IsNextDue}
use Rattle.rm_alarm.proofs.NextDue.{due_is}
use Rattle.rm_alarm.specs.Group.{due_in}
use Rattle.rm_collectors.specs.Group.{FallsDue as ReportsFallDue, ended_by}
use Rattle.rm_collectors.specs.Laws.{all_asked, ends_are}
use Rattle.rm_group.specs.Due.{ComesFirst, HaveEnded, IsFirst}
use Rattle.rm_group.specs.declared.due.Due.{Due}
use Rattle.rm_group.specs.declared.due.TheConstants.{SAMPLES}
use Rattle.rm_model.specs.Counting.{Counting}
use Rattle.rm_model.specs.Journal.{Journal, last_moment}
use Rattle.rm_sources.specs.Group.{Stands as SourcesStand}
use Rattle.rm_topn.proofs.Dues.{first_alike}
use Rattle.rm_topn.specs.Due.{end_after, end_in}
use Rattle.rm_topn.specs.declared.due.TheConstants.{REPORTS}
use Rattle.rm_agent.specs.Agent.{IsNextMoment}
use Rattle.rm_agent.specs.Dues.{FallsDue, IsNext, moment_in}
use Rattle.rm_agent.specs.Groups.{AreAskable, FallDue, GroupsStand, clock_of}
use Rattle.rm_agent.specs.Members.{Groups, alarms_of, collectors_of}
use Rattle.rm_agent.specs.Orderly.{NoneIsDue}
use Rattle.rm_agent.proofs.Askable.{by_collectors}

module _ (groups : Groups) (settings : Counting) (journal : Journal) (stands : GroupsStand groups settings journal) where
  abbrev ended_of : ℕ
  ended_of = ended_by (collectors_of groups) journal

  end_is : (row : ℕ) → end_in (collectors_of groups).reports.courses row ≡ end_after ended_of journal row
  unfolding SourcesStand
  end_is = ends_are (collectors_of groups) settings journal stands.second.second.first.first.second

  sample_is : (alarm : ℕ) → due_in (alarms_of groups) alarm ≡ due_of journal alarm
  sample_is = let stand = stands.second.second.second.stand in due_is (alarms_of groups).rows settings journal stand.rows stand.kept

  there : (due : Due) → FallDue groups due → FallsDue ended_of journal due
  there due (inl is) = inl (is.0, sym (end_is due.number) ∙ is.1)
  there due (inr is) = inr (is.0, sym (sample_is due.number) ∙ is.1)

  back : (due : Due) → FallsDue ended_of journal due → FallDue groups due
  back due (inl is) = inl (is.0, end_is due.number ∙ is.1)
  back due (inr is) = inr (is.0, sample_is due.number ∙ is.1)

  pub is_next : (last : ℕ) (next : Option Due) → clock_of groups ≤ last → last_moment journal ≤ last → IsFirst (FallDue groups) next → IsNext journal last next
  is_next last next later at first = record {
    ended = ended_of;
    acts = omega arith;
    given = omega (arith, later, at);
    first = first_alike (FallDue groups) (FallsDue ended_of journal) next there back first;
  }

-- where what comes first is later, all of it is
pub all_later : (Falls : Due → Type 0) (to : ℕ) (next : Option Due) → IsFirst Falls next → IfSome (moment_in next) (λ moment. to < moment) → (due : Due) → Falls due → to < due.moment
all_later Falls to None none later due is = absurd (none due is)
all_later Falls to (Some next) first later due is = by_place (first.1 due is)
  where
    by_place : ComesFirst next due → to < due.moment
    by_place (inl before) = omega (arith, later, before)
    by_place (inr same) = omega (arith, later, same.0)

-- so no sample is due then
pub none_until : (ended to : ℕ) (journal : Journal) (next : Option Due) → IsFirst (FallsDue ended journal) next → IfSome (moment_in next) (λ moment. to < moment) → NoneIsDue to journal
none_until ended to journal next first later = λ alarm moment due. all_later (FallsDue ended journal) to next first later (record { moment = moment; kind = SAMPLES; number = alarm }) (inr (refl, due))

-- where that is a sample, it is the next one
pub next_sample : (ended : ℕ) (journal : Journal) (next : Due) → IsFirst (FallsDue ended journal) (Some next) → next.kind ≡ SAMPLES → IsNextDue (due_of journal) (Some (next.moment, next.number))
next_sample ended journal next first kind = (own first.0, λ other moment due. by_place other moment (first.1 (record { moment = moment; kind = SAMPLES; number = other }) (inr (refl, due))))
  where
    own : FallsDue ended journal next → due_of journal next.number ≡ Some next.moment
    own (inl is) = absurd (omega (arith, kind, is.0))
    own (inr is) = is.1

    by_place : (other moment : ℕ) → ComesFirst next (record { moment = moment; kind = SAMPLES; number = other }) → (next.moment < moment) ⊎ ((next.moment ≡ moment) × (next.number ≤ other))
    by_place other moment (inl before) = inl before
    by_place other moment (inr (same, inl lower)) = absurd (omega (arith, kind, lower))
    by_place other moment (inr (same, inr is)) = inr (same, is.1)

-- what comes first has one moment
pub same_moment : (Falls : Due → Type 0) (one other : Option Due) → IsFirst Falls one → IsFirst Falls other → moment_in one ≡ moment_in other
same_moment Falls None None none none' = refl
same_moment Falls None (Some other) none first = absurd (none other first.0)
same_moment Falls (Some one) None first none = absurd (none one first.0)
same_moment Falls (Some one) (Some other) first second = λ d. Some (same (first.1 other second.0) (second.1 one first.0) d)
  where
    same : ComesFirst one other → ComesFirst other one → one.moment ≡ other.moment
    same (inr x) y = x.0
    same (inl x) (inr y) = sym y.0
    same (inl x) (inl y) = absurd (omega (arith, x, y))

-- one that is said to come at a moment does
pub at_moment : (Falls : Due → Type 0) (moment : ℕ) (o : Option Due) (next : Due) → IsNextMoment Falls (Some moment) → IsFirst Falls o → o ≡ Some next → next.moment ≡ moment
at_moment Falls moment o next (other, second, at) first is = same_Some next.moment moment (ap moment_in (sym is) ∙ same_moment Falls o other first second ∙ sym at)

-- there is one
pub there_is : (Falls : Due → Type 0) (moment : ℕ) (o : Option Due) → IsNextMoment Falls (Some moment) → IsFirst Falls o → is_some o ≡ true
there_is Falls moment (Some next) said first = refl
there_is Falls moment None (other, second, at) first = let none : None ≡ Some moment = same_moment Falls None other first second ∙ sym at in absurd (cc)

-- what is of the kind of samples is the sample of an alarm
pub its_sample : (groups : Groups) (due : Due) → FallDue groups due → due.kind ≡ SAMPLES → due_in (alarms_of groups) due.number ≡ Some due.moment
its_sample groups due (inl is) kind = absurd (omega (arith, kind, is.0))
its_sample groups due (inr is) kind = is.1

-- what isn't is the end of a report
pub its_end : (groups : Groups) (due : Due) → FallDue groups due → (due.kind ≡ SAMPLES → ⊥) → due.kind ≡ REPORTS
its_end groups due (inl is) other = is.0
its_end groups due (inr is) other = absurd (other is.0)

-- what is of a lower kind than samples is the end of a report
pub is_end : (groups : Groups) (due : Due) → FallDue groups due → due.kind < SAMPLES → ReportsFallDue (collectors_of groups) due
is_end groups due (inl is) below = is
is_end groups due (inr is) below = absurd (omega (arith, is.0, below))

-- the groups may be asked where nothing falls due up to the moment
pub askable_by : (groups : Groups) (moment : ℕ) → ((due : Due) → FallDue groups due → moment < due.moment) → AreAskable groups moment
askable_by groups moment none = by_collectors groups moment ((all_asked (collectors_of groups) moment).1 (λ due is below. none due (inl is)))

-- where they may be, all has ended that ends by itself
pub have_ended : (groups : Groups) (moment : ℕ) → AreAskable groups moment → HaveEnded (FallDue groups) moment
have_ended groups moment asked due (inl is) below = (all_asked (collectors_of groups) moment).0 asked.1.1.0.0.1 due is below
have_ended groups moment asked due (inr is) below = absurd (omega (arith, is.0, below))
