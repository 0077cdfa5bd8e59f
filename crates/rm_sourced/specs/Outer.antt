-- Control rows that are there, since frames mention something to them.
use Rattle.std.proofs.Common.{◌≡◌, ℕ, List, [], ◌∷◌, Contains, Bool, true, false, refl, sym, ◌∙◌, ap}
use Rattle.std.specs.Prelude.{not}
use Rattle.rm_model.specs.Journal.{Journal}
use Rattle.rm_model.specs.ControlTable.{ControlTable}
use Rattle.rm_model.specs.ControlRows.{no_rows, is_absent, is_valid, state_of}
use Rattle.rm_model.specs.declared.row.State.{State}
use Rattle.rm_model.specs.declared.row.State.TheVariants.{Absent, UnderCreation, Valid}
use Rattle.rm_nested.proofs.Finite.{rows_of, in_rows}
use Rattle.rm_acts.specs.Seen.{Seen}
use Rattle.rm_evicting.specs.Mention.{Mention}
use Rattle.rm_keyed.specs.Mentions.{mentions_since}
use Rattle.rm_keyed.proofs.MentionLaws.{mentions_idle}

either_valid : (s : State) → (is_valid s ≡ false → true ≡ false) → not (is_absent s) ≡ true
either_valid Valid idle = refl
either_valid UnderCreation idle = refl
either_valid Absent idle = absurd (true_false (idle refl))
  where
    true_false : true ≡ false → ⊥
    true_false e = cc

-- a row is there where a test of its mentions passes that fails without any
pub row_there : {K C : Type 0} (table : ControlTable) (mentioned : Seen → List (Mention K C)) (journal : Journal) (row : ℕ) (test : List (Mention K C) → Bool)
    → test [] ≡ false → test (mentions_since table mentioned journal row) ≡ true → Contains (rows_of table journal) (row ∷ [])
row_there table mentioned journal row test none passes =
    in_rows table journal (row ∷ []) (either_valid (state_of table no_rows journal (row ∷ [])) (λ idle. sym passes ∙ ap test (mentions_idle table mentioned journal row idle) ∙ none))
