-- The rows of a control table whose index is one number, 1 to 65535.
use Rattle.std.specs.Prelude.{◌≡◌, ℕ, ◌<◌, [], ◌∷◌, length, Bool, ◌&&◌, nat_le, None}
use Rattle.rm_model.specs.Journal.{Journal, passes, assigns, samples}
use Rattle.rm_model.specs.ControlTable.{ControlTable}
use Rattle.rm_model.specs.Judgement.{Bindings, first_pass, count_below}

-- nothing is wrong with any binding of a Set alone
abbrev pub IsFineAlone : ControlTable → Bindings → Type 0
IsFineAlone table bindings = (place : ℕ) → place < length bindings → first_pass table bindings place ≡ None

-- nothing is wrong alone with the Sets of a journal, as with those that were accepted
abbrev pub AreSetsFine : ControlTable → Journal → Type 0
AreSetsFine table [] = Unit {0}
AreSetsFine table (assigns moment values ∷ earlier) = IsFineAlone table values × AreSetsFine table earlier
AreSetsFine table (passes frame ∷ earlier) = AreSetsFine table earlier
AreSetsFine table (samples moment alarm reading ∷ earlier) = AreSetsFine table earlier

-- how many of the numbers 1 to 65535 pass a test
abbrev pub count_rows : (ℕ → Bool) → ℕ
count_rows test = count_below (λ row. nat_le 1 row && test row) 65536
