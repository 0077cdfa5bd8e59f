-- When the next sample of an alarm is due, after each act.
use Rattle.std.proofs.Common.{◌≡◌, ℕ, ◌+◌, ◌*◌, [], ◌∷◌, length, Bool, true, false, cond, ◌&&◌, Option, Some, None, refl, sym, ap, ◌∙◌, nat_eq, arith, rules}
use Rattle.std.specs.Prelude.{ℤ}
use Rattle.std.specs.Str.{bytes_eq}
use Rattle.std.proofs.Math.Nat.{mul-suc}
use Rattle.std.proofs.lemmas.Bool.Decides.{nat_tests}
use Rattle.std.proofs.lemmas.Option.{same_Some}
use Rattle.rm_model.specs.Journal.{Act, Assignments, assigns, Journal, samples}
use Rattle.rm_model.specs.ControlRows.{no_rows, is_valid, next_state, stays_valid, since, activated}
use Rattle.rm_acts.specs.Alarms.{alarm_table, alarm_state, interval_of, readings_in, readings_of, due_of}
use Rattle.rm_model.specs.declared.row.Ask.TheVariants.{Nothing, Destroy}

both_true : (a b : Bool) → (a && b) ≡ true → (a ≡ true) × (b ≡ true)
both_true true b h = (refl, h)
both_true false b h = absurd (cc)

-- when a sample is due, by whether the alarm is valid, since when, with how many seconds between two, after how many
abbrev due_by : Bool → ℕ → ℕ → ℕ → Option ℕ
due_by valid start seconds taken = cond valid (Some (start + 1000 * seconds * (taken + 1))) None

one_more : (x k : ℕ) → x * (k + 1 + 1) ≡ x * (k + 1) + x
one_more x k = ap (λ n. x * n) (omega arith) ∙ mul-suc x (k + 1)

pub not_due : (journal : Journal) (i : ℕ) → is_valid (alarm_state journal i) ≡ false → due_of journal i ≡ None
not_due journal i e = rw e refl

pub valid_if_due : (journal : Journal) (i moment : ℕ) → due_of journal i ≡ Some moment → is_valid (alarm_state journal i) ≡ true
valid_if_due journal i moment is =
    elim (is_valid (alarm_state journal i)) as (λ v. is_valid (alarm_state journal i) ≡ v → v ≡ true) [
      | true ↦ λ _. refl
      | false ↦ λ e. absurd (let no : None ≡ Some moment = sym (not_due journal i e) ∙ is in cc)
    ] refl

-- an act by which an alarm stays valid
module _ (journal : Journal) (act : Act) (i : ℕ) (stays : stays_valid alarm_table no_rows act journal (i ∷ []) ≡ true) where
  was_valid : is_valid (alarm_state journal i) ≡ true
  was_valid = (both_true (is_valid (alarm_state journal i)) (is_valid (alarm_state (act ∷ journal) i)) stays).0

  valid_now : is_valid (alarm_state (act ∷ journal) i) ≡ true
  valid_now = (both_true (is_valid (alarm_state journal i)) (is_valid (alarm_state (act ∷ journal) i)) stays).1

  pub more_since : since alarm_table no_rows (act ∷ journal) (i ∷ []) ≡ act ∷ since alarm_table no_rows journal (i ∷ [])
  more_since = ap (λ b. cond b (act ∷ since alarm_table no_rows journal (i ∷ [])) []) stays

  same_start : activated alarm_table no_rows (act ∷ journal) (i ∷ []) ≡ activated alarm_table no_rows journal (i ∷ [])
  same_start = rw stays refl

  due_before : due_of journal i ≡ due_by true (activated alarm_table no_rows journal (i ∷ [])) (interval_of journal i) (length (readings_of journal i))
  due_before = ap (λ v. due_by v (activated alarm_table no_rows journal (i ∷ [])) (interval_of journal i) (length (readings_of journal i))) was_valid

  -- with the interval that it had
  module _ (interval : interval_of (act ∷ journal) i ≡ interval_of journal i) where
    due_after : (taken : ℕ) → length (readings_of (act ∷ journal) i) ≡ taken → due_of (act ∷ journal) i ≡ due_by true (activated alarm_table no_rows journal (i ∷ [])) (interval_of journal i) taken
    due_after taken count =
        ap (λ v. due_by v (activated alarm_table no_rows (act ∷ journal) (i ∷ [])) (interval_of (act ∷ journal) i) (length (readings_of (act ∷ journal) i))) valid_now
        ∙ ap (λ a. due_by true a (interval_of (act ∷ journal) i) (length (readings_of (act ∷ journal) i))) same_start
        ∙ ap (λ n. due_by true (activated alarm_table no_rows journal (i ∷ [])) n (length (readings_of (act ∷ journal) i))) interval
        ∙ ap (λ k. due_by true (activated alarm_table no_rows journal (i ∷ [])) (interval_of journal i) k) count

  -- one that is no sample of its own
  module _ (other : (acts : Journal) → readings_in i (act ∷ acts) ≡ readings_in i acts) where
    pub same_readings : readings_of (act ∷ journal) i ≡ readings_of journal i
    same_readings = ap (readings_in i) more_since ∙ other (since alarm_table no_rows journal (i ∷ []))

    pub same_due : interval_of (act ∷ journal) i ≡ interval_of journal i → due_of (act ∷ journal) i ≡ due_of journal i
    same_due interval = due_after interval (length (readings_of journal i)) (ap length same_readings) ∙ sym due_before

-- an act that leaves the state of an alarm
pub due_left : (journal : Journal) (act : Act) (i : ℕ) → alarm_state (act ∷ journal) i ≡ alarm_state journal i → interval_of (act ∷ journal) i ≡ interval_of journal i
    → ((acts : Journal) → readings_in i (act ∷ acts) ≡ readings_in i acts) → due_of (act ∷ journal) i ≡ due_of journal i
due_left journal act i state interval other =
    elim (is_valid (alarm_state journal i)) as (λ v. is_valid (alarm_state journal i) ≡ v → due_of (act ∷ journal) i ≡ due_of journal i) [
      | true ↦ λ e. same_due journal act i (ap (λ s. is_valid (alarm_state journal i) && is_valid s) state ∙ ap (λ b. b && b) e) other interval
      | false ↦ λ e. not_due (act ∷ journal) i (ap is_valid state ∙ e) ∙ sym (not_due journal i e)
    ] refl

-- whether the index of an alarm is that of a sample's
pub same_number : (i alarm : ℕ) → bytes_eq (i ∷ []) (alarm ∷ []) ≡ nat_eq alarm i
same_number i alarm = and_true (nat_eq i alarm) ∙ either_way
  where
    and_true : (b : Bool) → (b && true) ≡ b
    and_true true = refl
    and_true false = refl

    either_way : nat_eq i alarm ≡ nat_eq alarm i
    either_way = grind (arith, nat_tests)

-- a sample of another alarm
module _ (journal : Journal) (moment alarm i : ℕ) (other : nat_eq alarm i ≡ false) where
  not_its_own : bytes_eq (i ∷ []) (alarm ∷ []) ≡ false
  not_its_own = same_number i alarm ∙ other

  pub state_of_others : (reading : Option ℤ) → alarm_state (samples moment alarm reading ∷ journal) i ≡ alarm_state journal i
  state_of_others None = ap (λ b. next_state (cond b Destroy Nothing) (alarm_state journal i)) not_its_own
  state_of_others (Some number) = refl

  pub due_of_others : (reading : Option ℤ) → due_of (samples moment alarm reading ∷ journal) i ≡ due_of journal i
  due_of_others None = due_left journal (samples moment alarm None) i (state_of_others None) refl (λ acts. refl)
  due_of_others (Some number) = due_left journal (samples moment alarm (Some number)) i refl refl
      (λ acts. ap (λ b. cond b (number ∷ readings_in i acts) (readings_in i acts)) other)

-- its own sample, that reads a number
pub more_readings : (journal : Journal) (moment alarm : ℕ) (number : ℤ) → stays_valid alarm_table no_rows (samples moment alarm (Some number)) journal (alarm ∷ []) ≡ true
    → readings_of (samples moment alarm (Some number) ∷ journal) alarm ≡ number ∷ readings_of journal alarm
more_readings journal moment alarm number stays =
    ap (readings_in alarm) (more_since journal (samples moment alarm (Some number)) alarm stays)
    ∙ ap (λ b. cond b (number ∷ readings_of journal alarm) (readings_of journal alarm)) itself
  where
    itself : nat_eq alarm alarm ≡ true
    itself = search rules

-- its own sample
module _ (journal : Journal) (moment alarm : ℕ) (due : due_of journal alarm ≡ Some moment) where
  itself : nat_eq alarm alarm ≡ true
  itself = search rules

  pub due_gone : due_of (samples moment alarm None ∷ journal) alarm ≡ None
  due_gone = not_due (samples moment alarm None ∷ journal) alarm
      (ap (λ b. is_valid (next_state (cond (b && true) Destroy Nothing) (alarm_state journal alarm))) itself)

  module _ (number : ℤ) where
    abbrev own : Act
    own = samples moment alarm (Some number)

    stays : stays_valid alarm_table no_rows own journal (alarm ∷ []) ≡ true
    stays = ap (λ b. b && b) (valid_if_due journal alarm moment due)

    pub due_next : due_of (own ∷ journal) alarm ≡ Some (moment + 1000 * interval_of journal alarm)
    due_next =
        let start : ℕ = activated alarm_table no_rows journal (alarm ∷ []) in
        let each : ℕ = 1000 * interval_of journal alarm in
        let taken : ℕ = length (readings_of journal alarm) in
        let is : start + each * (taken + 1) ≡ moment = same_Some _ _ (sym (due_before journal own alarm stays) ∙ due) in
        let product : each * (taken + 1 + 1) ≡ each * (taken + 1) + each = one_more each taken in
        due_after journal own alarm stays refl (taken + 1) (ap length (more_readings journal moment alarm number stays) ∙ omega arith) ∙ ap Some (omega arith)

-- a Set by which an alarm becomes valid
module _ (journal : Journal) (now : ℕ) (values : Assignments) (i : ℕ) (starts : stays_valid alarm_table no_rows (assigns now values) journal (i ∷ []) ≡ false)
    (valid : is_valid (alarm_state (assigns now values ∷ journal) i) ≡ true) where
  pub due_begun : due_of (assigns now values ∷ journal) i ≡ Some (now + 1000 * interval_of (assigns now values ∷ journal) i * (0 + 1))
  due_begun =
      let act : Act = assigns now values in
      let none : readings_of (act ∷ journal) i ≡ [] = ap (λ b. readings_in i (cond b (act ∷ since alarm_table no_rows journal (i ∷ [])) [])) starts in
      let start : activated alarm_table no_rows (act ∷ journal) (i ∷ []) ≡ now =
      ap (λ b. cond b (activated alarm_table no_rows journal (i ∷ [])) (cond (is_valid (alarm_state (act ∷ journal) i)) now 0)) starts ∙ ap (λ b. cond b now 0) valid in
      ap (λ v. due_by v (activated alarm_table no_rows (act ∷ journal) (i ∷ [])) (interval_of (act ∷ journal) i) (length (readings_of (act ∷ journal) i))) valid
      ∙ ap (λ a. due_by true a (interval_of (act ∷ journal) i) (length (readings_of (act ∷ journal) i))) start
      ∙ ap (λ l. due_by true now (interval_of (act ∷ journal) i) (length l)) none
