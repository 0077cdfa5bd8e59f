-- What variables read, by recursion on the journal: what depends on readings asks for those after earlier acts only.
use Rattle.std.specs.Prelude.{◌≡◌, ℕ, pos, List, [], ◌∷◌, length, true, false, nat_eq, if◌then◌else◌, Option, Some, None}
use Rattle.std.specs.Option.{option_and_then}
use Rattle.rm_val.specs.Val.{Val, int, counter, gauge, ticks}
use Rattle.rm_model.specs.Counting.{Counting}
use Rattle.rm_model.specs.Journal.{Journal}
use Rattle.rm_model.specs.Readings.{Readings, nothing_read}
use Rattle.rm_model.specs.Cells.{Cells}
use Rattle.rm_model.specs.declared.reading.Reading.{Reading}

-- what a value reads: a number where it is an INTEGER, a Counter32, a Gauge32 or a TimeTicks, and else nothing
abbrev pub reading_in : Val → Option Reading
reading_in (int n) = Some (record { value = n; counter = false })
reading_in (counter n) = Some (record { value = pos n; counter = true })
reading_in (gauge n) = Some (record { value = pos n; counter = false })
reading_in (ticks n) = Some (record { value = pos n; counter = false })
reading_in other = None

abbrev pub reading_of : Option Val → Option Reading
reading_of value = option_and_then reading_in value

-- the cells that alarms may sample, after a journal and at a moment in milliseconds
abbrev pub Sampleable : Type 0
Sampleable = Counting → Journal → ℕ → Cells

-- what cells read
abbrev pub read : Cells → Readings
read cells variable = reading_of (cells variable)

-- settings with these readings in place of theirs
abbrev pub with_readings : Counting → (Journal → ℕ → Readings) → Counting
with_readings settings readings = record settings { readings = readings }

-- What the cells read after each journal that is earlier than one: after the one that is an act shorter, they are the cells
-- by what they read after those that are earlier still.
abbrev pub readings_before : Sampleable → Counting → Journal → (Journal → ℕ → Readings)
readings_before cells settings [] = λ asked now. nothing_read
readings_before cells settings (act ∷ earlier) =
    λ asked now. if nat_eq (length asked) (length earlier)
    then read (cells (with_readings settings (readings_before cells settings earlier)) earlier now)
    else readings_before cells settings earlier asked now

-- what they read after a journal
abbrev pub readings_after : Sampleable → Counting → Journal → ℕ → Readings
readings_after cells settings journal now =
    read (cells (with_readings settings (readings_before cells settings journal)) journal now)

-- the settings of a probe whose alarms sample these cells, with all else as it is set
abbrev pub sampling : Sampleable → Counting → Counting
sampling cells settings = with_readings settings (readings_after cells settings)

-- readings that are the same after each journal that is earlier than one
abbrev pub ReadAlikeBefore : (one other : Journal → ℕ → Readings) → Journal → Type 0
ReadAlikeBefore one other [] = Unit {0}
ReadAlikeBefore one other (act ∷ earlier) =
    ((now : ℕ) (name : List ℕ) → one earlier now name ≡ other earlier now name) × ReadAlikeBefore one other earlier

-- cells depend on what is read after earlier acts only
abbrev pub ReadBefore : Sampleable → Type 0
ReadBefore cells =
    (settings : Counting) (one other : Journal → ℕ → Readings) (journal : Journal) → ReadAlikeBefore one other journal
    → (now : ℕ) (name : List ℕ) → cells (with_readings settings one) journal now name ≡ cells (with_readings settings other) journal now name
