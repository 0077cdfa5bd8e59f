-- What a load writes: a line for each figure, with its word and its number, and a last line.
use Rattle.std.specs.Prelude.{ℕ, ◌+◌, pos, List, [], ◌∷◌, ◌++◌, flat_map, codes, Option, Some}
use Rattle.rm_val.specs.Val.{Val, int, counter, ticks}
use Rattle.rm_model.specs.Cells.{Cells}
use Rattle.rm_settings.specs.declared.settings.Settings.{Settings}
use Rattle.rm_agent.specs.Groups.{cells}
use Rattle.rm_summary.specs.Text.{line}
use Rattle.rm_load.specs.declared.figure.Figure.{Figure}
use Rattle.rm_load.specs.declared.figure.Figure.TheVariants.{EtherStatsPkts, EtherStatsOctets, HostControlTableSize, HostControlLastDeleteTime, MatrixControlTableSize, MatrixControlLastDeleteTime, HostNlInserts, HostNlDeletes, HostAlInserts, HostAlDeletes, MatrixNlInserts, MatrixNlDeletes, MatrixAlInserts, MatrixAlDeletes}
use Rattle.rm_load.specs.Acts.{acts_of}
use Rattle.rm_load.specs.Names.{variable_of}

-- the word of a figure
abbrev pub word_of : Figure → List ℕ
word_of EtherStatsPkts = codes "etherStatsPkts"
word_of EtherStatsOctets = codes "etherStatsOctets"
word_of HostControlTableSize = codes "hostControlTableSize"
word_of HostControlLastDeleteTime = codes "hostControlLastDeleteTime"
word_of MatrixControlTableSize = codes "matrixControlTableSize"
word_of MatrixControlLastDeleteTime = codes "matrixControlLastDeleteTime"
word_of HostNlInserts = codes "hostNlInserts"
word_of HostNlDeletes = codes "hostNlDeletes"
word_of HostAlInserts = codes "hostAlInserts"
word_of HostAlDeletes = codes "hostAlDeletes"
word_of MatrixNlInserts = codes "matrixNlInserts"
word_of MatrixNlDeletes = codes "matrixNlDeletes"
word_of MatrixAlInserts = codes "matrixAlInserts"
word_of MatrixAlDeletes = codes "matrixAlDeletes"

-- all figures, in the order of their lines
abbrev pub figures : List Figure
figures =
    EtherStatsPkts ∷ EtherStatsOctets ∷ HostControlTableSize ∷ HostControlLastDeleteTime ∷ MatrixControlTableSize ∷ MatrixControlLastDeleteTime
    ∷ HostNlInserts ∷ HostNlDeletes ∷ HostAlInserts ∷ HostAlDeletes ∷ MatrixNlInserts ∷ MatrixNlDeletes ∷ MatrixAlInserts ∷ MatrixAlDeletes ∷ []

-- the number that a variable shows: an INTEGER that isn't negative, a Counter32 or TimeTicks, else 0
abbrev pub number_shown : Option Val → ℕ
number_shown (Some (int (pos n))) = n
number_shown (Some (counter n)) = n
number_shown (Some (ticks n)) = n
number_shown other = 0

-- a variable has a number that is shown: an INTEGER that isn't negative, a Counter32 or TimeTicks
abbrev pub IsNumber : Option Val → Type 0
IsNumber (Some (int (pos n))) = Unit {0}
IsNumber (Some (counter n)) = Unit {0}
IsNumber (Some (ticks n)) = Unit {0}
IsNumber other = ⊥

-- the number of a figure, by the variables that have a value
abbrev pub figure_in : Cells → Figure → ℕ
figure_in values figure = number_shown (values (variable_of figure))

-- the lines of figures
abbrev pub figure_lines : Cells → List Figure → List ℕ
figure_lines values each = flat_map (λ one. line (word_of one) (figure_in values one)) each

-- The text of a load: each figure as the variables are a millisecond after the last of so many frames, and the count of the frames.
abbrev pub text_of : Settings → (start count : ℕ) → List ℕ
text_of settings start count = figure_lines (cells settings (acts_of start count) (1001 + count)) figures ++ line (codes "end") count
