use Rattle.std.proofs.Common.{◌≡◌, ℕ, ◌≤◌, ◌+◌, List, length, take, refl, sym, ap, subst, ◌∙◌, arith, length-take, to_z, of_z}
use Rattle.std.specs.Prelude.{ℤ, pos}
use Rattle.std.specs.Int.{w32}
use Rattle.std.proofs.lemmas.Int.{to_z-of_z}
use Rattle.std.proofs.lemmas.List.{take_all}
use Rattle.rm_val.specs.Val.{int}
use Rattle.rm_pdu.specs.Message.{Message, message_octets}
use Rattle.rm_pdu.specs.Draft.{drafted, empty_message}
use Rattle.rm_pdu.specs.declared.kind.Kind.TheVariants.{Set}
use Rattle.rm_agent.proofs.NotificationLemmas.{put}
use Rattle.rm_load.specs.declared.table.Table.{Table}
use Rattle.rm_load.specs.Sets.{with_status, with_statuses, set_request}
use Rattle.rm_load.proofs.RequestLemmas.{front_request, status_at, one_more, statuses_fit}
use Rattle.rm_load.proofs.requests.request.Goals as goal

pub loop-table-init : goal.loop-table-init
loop-table-init c =
    let id : to_z w32 (of_z w32 c.from.result) ≡ pos c.args.id = to_z-of_z w32 c.from.result (record { sfits = c.from.type_inv }) ∙ c.from.ensures in
    c.new-draft.ensures.message ∙ ap (λ (z : ℤ). drafted (empty_message c.args.community.now Set z (pos 0) (pos 0))) id

pub loop-table-preserved : goal.loop-table-preserved
loop-table-preserved c =
    let place = c.loop-table.table-index in
    let statuses = c.args.statuses.now in
    let one = with_status (status_at statuses place) in
    let more = one_more c.args.community.now c.args.id statuses place c.loop-table-test.true in
    let few : length (take (place + 1) statuses) ≤ 4 = omega (arith, length-take (place + 1) statuses, c.requires.few) in
    let fits =
    statuses_fit c.bindings_add_up.ensures c.bindings_are_bounded.ensures.numbers (take (place + 1) statuses) few (front_request c.args.community.now c.args.id statuses (place + 1))
    (omega (arith, c.requires.short)) refl in
    let status = ap int (to_z-of_z w32 c.from-in-loop-table.result (record { sfits = c.from-in-loop-table.type_inv }) ∙ c.from-in-loop-table.ensures) in
    put (front_request c.args.community.now c.args.id statuses place) _ one.name _ one.value _ _ c.add.result c.status_name.ensures status c.add.ensures.room c.add.ensures.ok c.loop-table.invariant
    (subst (λ (m : Message). length (message_octets m) ≤ 1472) (sym more) fits)
    ∙ ap drafted more

pub returns : goal.returns
returns c =
    c.loop-table.invariant
    ∙ ap (λ (statuses : List (Table × ℕ)). drafted (set_request c.args.community.now c.args.id (with_statuses statuses)))
    (take_all c.loop-table.table-index c.args.statuses.now (omega (arith, c.loop-table-test.false)))
