use Rattle.std.proofs.Common.{◌≡◌, ℕ, ap, sym, ◌∙◌, to_z, of_z, arith, rules}
use Rattle.std.specs.Prelude.{ℤ, FitsSigned}
use Rattle.std.specs.Int.{w32}
use Rattle.std.proofs.lemmas.Int.{to_z-of_z, to_z_pos}
use Rattle.rm_acts.specs.Alarms.{number_of, name_of}
use Rattle.rm_alarm.specs.ShownRow.{cell_of_alarm}
use Rattle.rm_agent.proofs.told.Told.of.Goals as goal
use Rattle.rm_agent.proofs.told.Told.of.Goals.{then-threshold-eq-RISING_THRESHOLD, else-threshold-eq-RISING_THRESHOLD}

pub returns-clause-told : goal.returns-clause-told
returns-clause-told c settings journal shown =
    let told : ℕ → ℤ = λ column. number_of (cell_of_alarm settings journal c.args.alarm column) in
    let index : to_z w32 c.args.alarm ≡ told 1 = to_z_pos w32 c.args.alarm (omega (arith, c.requires.index)) in
    let variable : c.variable.result ≡ name_of (cell_of_alarm settings journal c.args.alarm 3) = c.variable.ensures ∙ ap name_of (sym shown.variable) in
    let type : to_z w32 (of_z w32 c.number.result) ≡ told 4 =
    to_z-of_z w32 c.number.result (record { sfits = c.number.type_inv }) ∙ c.number.ensures ∙ ap number_of (sym shown.sample_type) in
    let value : to_z w32 (of_z w32 c.value.result) ≡ told 5 =
    to_z-of_z w32 c.value.result (record { sfits = c.value.type_inv }) ∙ c.value.ensures ∙ ap number_of (sym shown.value) in
    let threshold : to_z w32 c.if-threshold-eq-RISING_THRESHOLD.result-bits ≡ told c.args.threshold =
    elim c.if-threshold-eq-RISING_THRESHOLD.branch as (λ _. to_z w32 c.if-threshold-eq-RISING_THRESHOLD.result-bits ≡ told c.args.threshold) [
      | then-threshold-eq-RISING_THRESHOLD w ↦
          let fits : FitsSigned w32 c.args.row.now.thresholds.rising = search rules in
          w.result-is ∙ to_z-of_z w32 c.args.row.now.thresholds.rising fits ∙ ap number_of (sym shown.rising) ∙ ap told (sym w.if-threshold-eq-RISING_THRESHOLD.true)
      | else-threshold-eq-RISING_THRESHOLD w ↦
          let other = w.if-threshold-eq-RISING_THRESHOLD.false in
          let eight : c.args.threshold ≡ 8 = omega (arith, c.requires.threshold, other) in
          let fits : FitsSigned w32 c.args.row.now.thresholds.falling = search rules in
          w.result-is ∙ to_z-of_z w32 c.args.row.now.thresholds.falling fits ∙ ap number_of (sym shown.falling) ∙ ap told (sym eight)
    ] in
    λ d. record { index = index d; variable = variable d; sample_type = type d; value = value d; threshold = threshold d }
