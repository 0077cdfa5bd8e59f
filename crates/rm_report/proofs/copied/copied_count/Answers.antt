use Rattle.std.proofs.Common.{◌≡◌, rules}
use Rattle.std.proofs.lemmas.List.Sorted.{answers_always}
use Rattle.rm_report.specs.declared.copied.Copied.{Copied}
use Rattle.rm_report.proofs.Copying.{count_at, count_none}
use Rattle.rm_report.proofs.copied.copied_count.Goals as goal

pub returns-in-Ok : goal.returns-in-Ok
returns-in-Ok c rising =
    count_at c.args.copies.now c.args.entry rising c.in-Ok.place (record { entry = 0; count = 0 }) c.in-Ok.ensures.bound
    (c.in-Ok.ensures.position (λ (copied : Copied). copied.entry) (answers_always _ (λ a r. r ≡ a.0.now.entry) _ (λ f a r q k. search rules)) (record { entry = 0; count = 0 }))

pub returns-in-Err : goal.returns-in-Err
returns-in-Err c rising =
    count_none c.args.copies.now c.args.entry rising c.in-Err.field-0
    (c.in-Err.ensures.position (λ (copied : Copied). copied.entry) (answers_always _ (λ a r. r ≡ a.0.now.entry) _ (λ f a r q k. search rules)))
