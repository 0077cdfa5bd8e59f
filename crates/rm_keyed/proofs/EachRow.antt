-- What holds of each row after a mention.
use Rattle.std.proofs.Common.{ℕ, ◌<◌, ◌≤◌, ◌+◌, Bool, nat_lt, List, [], ◌∷◌, length, All, arith, inl, inr}
use Rattle.std.specs.List.{AllByRecursion}
use Rattle.std.proofs.lemmas.Bool.{cases_Bool}
use Rattle.std.proofs.lemmas.List.Elements.{All-from_recursion, recursion_from_All}
use Rattle.rm_evicting.specs.declared.Row.{Row}
use Rattle.rm_evicting.specs.Row.{at_first, without_first, is_oldest, holds, room_made, touched, credited}
use Rattle.rm_evicting.proofs.RowLemmas.{each-push, each-weaker}
use Rattle.rm_rows.specs.Table.{Table}
use Rattle.rm_keyed.specs.Entered.{IsReady}

module _ {X : Type 0} (P : X → Type 0) (test : X → Bool) where
  each-at_first : (change : X → X) → ((x : X) → P x → P (change x)) → (xs : List X) → AllByRecursion P xs → AllByRecursion P (at_first test change xs)
  each-at_first change stays [] a = tt
  each-at_first change stays (x ∷ xs) a = elim (cases_Bool (test x)) [
    | inl e ↦ rw e (stays x a.0, a.1)
    | inr e ↦ rw e (a.0, each-at_first change stays xs a.1)
  ]

  each-without_first : (xs : List X) → AllByRecursion P xs → AllByRecursion P (without_first test xs)
  each-without_first [] a = tt
  each-without_first (x ∷ xs) a = elim (cases_Bool (test x)) [
    | inl e ↦ rw e a.1
    | inr e ↦ rw e (a.0, each-without_first xs a.1)
  ]

module _ {K V : Type 0} (eq : K → K → Bool) (blank : V) (plus : V → V → V) where
  -- a table after a stray mention
  abbrev pub strayed : K → V → Table K V → Table K V
  strayed key gain table = record { room = table.room; capacity = table.capacity; rows = credited eq plus key gain table.rows }

  -- a table after a reference
  abbrev pub referred : K → ℕ → ℕ → V → Table K V → Table K V
  referred key stamp tick gain table =
      record { room = table.room; capacity = table.capacity; rows = credited eq plus key gain (touched eq blank table.capacity key stamp tick table.rows) }

  module _ (P : Row K V → Type 0) where
    -- whatever the value of a row is
    abbrev IsValueless : Type 0
    IsValueless = (row : Row K V) (value : V) → P row → P (record row { value = value })

    each-credited : IsValueless → (key : K) (gain : V) (rows : List (Row K V)) → AllByRecursion P rows → AllByRecursion P (credited eq plus key gain rows)
    each-credited valueless key gain rows a =
        each-at_first P (λ row. eq key row.key) (λ row. record row { value = plus row.value gain }) (λ row p. valueless row (plus row.value gain) p) rows a

    all-strayed : IsValueless → (key : K) (gain : V) (table : Table K V) → All P table.rows → All P (strayed key gain table).rows
    all-strayed valueless key gain table a =
        All-from_recursion P (credited eq plus key gain table.rows) (each-credited valueless key gain table.rows (recursion_from_All P table.rows a))

    module _ (key : K) (stamp tick : ℕ) where
      -- in each row that was referred to so
      abbrev IsOfReference : Type 0
      IsOfReference = (row : Row K V) → P (record row { last = stamp; tick = tick })

      each-touched : IsOfReference → (capacity : ℕ) (rows : List (Row K V)) → AllByRecursion P rows → AllByRecursion P (touched eq blank capacity key stamp tick rows)
      each-touched holding capacity rows a = elim (cases_Bool (holds eq key rows)) [
        | inl e ↦ rw e (each-at_first P (λ row. eq key row.key) (λ row. record row { last = stamp; tick = tick }) (λ row p. holding row) rows a)
        | inr e ↦ rw e (each-push P (room_made capacity rows) entered left (holding entered))
      ]
        where
          entered : Row K V
          entered = record { key = key; value = blank; entry = stamp; last = stamp; tick = tick }

          left : AllByRecursion P (room_made capacity rows)
          left = elim (cases_Bool (nat_lt (length rows) capacity)) [
            | inl e ↦ rw e a
            | inr e ↦ rw e (each-without_first P (is_oldest rows) rows a)
          ]

      all-referred : IsOfReference → IsValueless → (gain : V) (table : Table K V) → All P table.rows → All P (referred key stamp tick gain table).rows
      all-referred holding valueless gain table a =
          let touches : List (Row K V) = touched eq blank table.capacity key stamp tick table.rows in
          All-from_recursion P (credited eq plus key gain touches)
          (each-credited valueless key gain touches (each-touched holding table.capacity table.rows (recursion_from_All P table.rows a)))

  all-weaker : (P Q : Row K V → Type 0) → ((row : Row K V) → P row → Q row) → (rows : List (Row K V)) → All P rows → All Q rows
  all-weaker P Q weaker rows a = All-from_recursion Q rows (each-weaker P Q weaker rows (recursion_from_All P rows a))

  pub ready-strayed : (key : K) (gain : V) (table : Table K V) (stamps tick : ℕ) → IsReady table stamps tick → IsReady (strayed key gain table) stamps tick
  ready-strayed key gain table stamps tick ready = record {
    room = ready.room;
    some = ready.some;
    stamped = all-strayed (λ row. row.last < stamps) (λ row value p. p) key gain table ready.stamped;
    timed = all-strayed (λ row. row.tick ≤ tick) (λ row value p. p) key gain table ready.timed;
  }

  pub ready-referred : (key : K) (stamp tick : ℕ) (gain : V) (table : Table K V) (stamps before : ℕ) → stamps ≤ stamp → before ≤ tick → IsReady table stamps before → IsReady (referred key stamp tick gain table) (stamp + 1) tick
  ready-referred key stamp tick gain table stamps before above after ready = record {
    room = ready.room;
    some = ready.some;
    stamped = all-referred (λ row. row.last < stamp + 1) key stamp tick (λ row. omega arith) (λ row value p. p) gain table
        (all-weaker (λ row. row.last < stamps) (λ row. row.last < stamp + 1) (λ row lt. omega arith) table.rows ready.stamped);
    timed = all-referred (λ row. row.tick ≤ tick) key stamp tick (λ row. omega arith) (λ row value p. p) gain table
        (all-weaker (λ row. row.tick ≤ before) (λ row. row.tick ≤ tick) (λ row le. omega arith) table.rows ready.timed);
  }
