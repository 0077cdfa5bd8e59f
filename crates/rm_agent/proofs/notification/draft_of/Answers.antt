use Rattle.std.proofs.Common.{◌≡◌, ℕ, ◌≤◌, ◌/◌, List, [], ◌∷◌, ◌++◌, length, refl, ap, ◌∙◌, arith, rules, to_z, of_z}
use Rattle.std.specs.Prelude.{pos, ℤ, FitsSigned}
use Rattle.std.specs.Int.{w32}
use Rattle.std.proofs.lemmas.Int.{to_z_pos, to_z-of_z}
use Rattle.rm_val.specs.Val.{int, name, ticks}
use Rattle.rm_acts.specs.Alarms.{alarm_entry}
use Rattle.rm_model.specs.ControlRows.{cell_name}
use Rattle.rm_pdu.specs.Message.{Binding, Message, message_octets}
use Rattle.rm_pdu.specs.Draft.{drafted, empty_message, binding_of}
use Rattle.rm_pdu.specs.declared.kind.Kind.TheVariants.{Trap}
use Rattle.rm_agent.specs.Notifications.{up_time_name, trap_name}
use Rattle.rm_agent.specs.Told.{stated_bindings}
use Rattle.rm_agent.proofs.NotificationLemmas.{put, stated_short}
use Rattle.rm_agent.proofs.notification.draft_of.Goals as goal

pub returns : goal.returns
returns c =
    let all : List Binding = stated_bindings c.args.moment c.args.alarm c.args.trap.now c.args.told.now in
    let with : List Binding → Message = λ bindings. record { community = c.args.community.now; kind = Trap; id = pos c.args.id; first = pos 0; second = pos 0; bindings = bindings } in
    let cell : ℕ → List ℕ = λ column. cell_name alarm_entry column (c.args.alarm ∷ []) in
    let b1 = binding_of up_time_name (ticks (c.args.moment / 10)) in
    let b2 = binding_of trap_name (name c.args.trap.now.kind) in
    let b3 = binding_of (cell 1) (int c.args.told.now.index) in
    let b4 = binding_of (cell 3) (name c.args.told.now.variable) in
    let b5 = binding_of (cell 4) (int c.args.told.now.sample_type) in
    let b6 = binding_of (cell 5) (int c.args.told.now.value) in
    let b7 = binding_of (cell c.args.trap.now.threshold_column) (int c.args.told.now.threshold) in
    let total : length (message_octets (with all)) ≤ 1472 =
    stated_short c.bindings_add_up.ensures c.bindings_are_bounded.ensures.numbers c.bindings_are_bounded.ensures.ticks c.bindings_are_bounded.ensures.names
    c.args.community.now c.args.id c.args.moment c.args.alarm c.args.trap.now c.args.told.now c.requires.community c.requires.kind (omega (arith, c.len.ensures.value, c.len.ensures.fits)) in
    let short : (front rest : List Binding) → front ++ rest ≡ all → length (message_octets (with front)) ≤ 1472 =
    λ front rest is. omega (arith, c.bindings_lengthen.ensures (with front) rest, ap (λ bindings. length (message_octets (with bindings))) is, total) in
    let id : to_z w32 c.args.id ≡ pos c.args.id = to_z_pos w32 c.args.id c.requires.id in
    let d0 = c.new-draft.ensures.message ∙ ap (λ z. drafted (empty_message c.args.community.now Trap z (pos 0) (pos 0))) id in
    let again : (z : ℤ) → FitsSigned w32 z → int (to_z w32 (of_z w32 z)) ≡ int z = λ z fits. ap int (to_z-of_z w32 z fits) in
    let fit1 : FitsSigned w32 c.args.told.now.index = search rules in
    let fit2 : FitsSigned w32 c.args.told.now.sample_type = search rules in
    let fit3 : FitsSigned w32 c.args.told.now.value = search rules in
    let fit4 : FitsSigned w32 c.args.told.now.threshold = search rules in
    let d1 = put (with []) _ up_time_name _ b1.value _ _ c.add.result c.up_time_name.ensures refl c.add.ensures.room c.add.ensures.ok d0 (short (b1 ∷ []) _ refl) in
    let d2 = put (with (b1 ∷ [])) _ trap_name _ b2.value _ _ c.add-2.result c.trap_name.ensures (ap name c.copied.ensures) c.add-2.ensures.room c.add-2.ensures.ok d1 (short (b1 ∷ b2 ∷ []) _ refl) in
    let d3 = put (with (b1 ∷ b2 ∷ [])) _ (cell 1) _ b3.value _ _ c.add-3.result c.column_name.ensures (again _ fit1) c.add-3.ensures.room c.add-3.ensures.ok d2 (short (b1 ∷ b2 ∷ b3 ∷ []) _ refl) in
    let d4 = put (with (b1 ∷ b2 ∷ b3 ∷ [])) _ (cell 3) _ b4.value _ _ c.add-4.result c.column_name-2.ensures (ap name c.copied-2.ensures) c.add-4.ensures.room c.add-4.ensures.ok d3 (short (b1 ∷ b2 ∷ b3 ∷ b4 ∷ []) _ refl) in
    let d5 = put (with (b1 ∷ b2 ∷ b3 ∷ b4 ∷ [])) _ (cell 4) _ b5.value _ _ c.add-5.result c.column_name-3.ensures (again _ fit2) c.add-5.ensures.room c.add-5.ensures.ok d4 (short (b1 ∷ b2 ∷ b3 ∷ b4 ∷ b5 ∷ []) _ refl) in
    let d6 = put (with (b1 ∷ b2 ∷ b3 ∷ b4 ∷ b5 ∷ [])) _ (cell 5) _ b6.value _ _ c.add-6.result c.column_name-4.ensures (again _ fit3) c.add-6.ensures.room c.add-6.ensures.ok d5 (short (b1 ∷ b2 ∷ b3 ∷ b4 ∷ b5 ∷ b6 ∷ []) _ refl) in
    put (with (b1 ∷ b2 ∷ b3 ∷ b4 ∷ b5 ∷ b6 ∷ [])) _ (cell c.args.trap.now.threshold_column) _ b7.value _ _ c.add-7.result c.column_name-5.ensures (again _ fit4) c.add-7.ensures.room c.add-7.ensures.ok d6 (short all [] refl)
