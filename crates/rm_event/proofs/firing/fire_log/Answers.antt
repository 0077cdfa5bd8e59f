use Rattle.std.proofs.Common.{◌≡◌, true, false, cond, Option, Some, refl, sym, ap, subst, ◌∙◌, nat_eq}
use Rattle.std.specs.Prelude.{is_some, unwrap_or}
use Rattle.rm_pool.specs.Slots.{part_in, has_part}
use Rattle.rm_pool.proofs.Lent.{lent_part, lent_size}
use Rattle.rm_pool.proofs.Spares.{eq_is, eq_itself}
use Rattle.rm_event.specs.declared.log.Log.{Log}
use Rattle.rm_event.specs.Log.{IsLog}
use Rattle.rm_event.proofs.firing.fire_log.Goals as goal

in_some : (x y : Log) → ◌≡◌ {A = Option Log} (Some x) (Some y) → x ≡ y
in_some x y e = ap (λ (o : Option Log). unwrap_or o x) e

pub returns-in-Some-clause-itself : goal.returns-in-Some-clause-itself
returns-in-Some-clause-itself c log here =
    let logs = c.args.logs.now in
    let row = c.args.row in
    let new : Log = c.fire.new.self in
    let same = in_some log c.in-Some.log.now (sym here ∙ c.in-Some.ensures.value) in (
      new,
      lent_part logs row new (ap is_some c.in-Some.ensures.value) row ∙ ap (λ t. cond t (Some new) (part_in logs row)) (eq_itself row),
      λ moments is. c.fire.ensures moments (subst (λ (l : Log). IsLog l c.args.event_type moments) same is),
    )

pub returns-in-Some-clause-others : goal.returns-in-Some-clause-others
returns-in-Some-clause-others c other apart =
    lent_part c.args.logs.now c.args.row c.fire.new.self (ap is_some c.in-Some.ensures.value) other
    ∙ ap (λ t. cond t (Some c.fire.new.self) (part_in c.args.logs.now other)) apart

pub returns-in-Some-clause-same : goal.returns-in-Some-clause-same
returns-in-Some-clause-same c other =
    let logs = c.args.logs.now in
    let new : Log = c.fire.new.self in
    let has : has_part logs c.args.row ≡ true = ap is_some c.in-Some.ensures.value in
    ap is_some (lent_part logs c.args.row new has other)
    ∙ elim (nat_eq c.args.row other) as (λ t. nat_eq c.args.row other ≡ t → is_some (cond t (Some new) (part_in logs other)) ≡ has_part logs other) [
      | true ↦ λ e. sym (subst (λ n. has_part logs n ≡ true) (eq_is c.args.row other e) has)
      | false ↦ λ _. refl
    ] refl

pub returns-in-Some-clause-size : goal.returns-in-Some-clause-size
returns-in-Some-clause-size c = lent_size c.args.logs.now c.args.row c.fire.new.self
