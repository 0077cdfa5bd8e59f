-- What the columns of a control row show by its rows is what they show by the mentions of the keys of these.
use Rattle.std.proofs.Common.{◌≡◌, ℕ, List, [], Bool, cond, Option, Some, None, nat_eq, min, sym, ap, ◌∙◌, arith}
use Rattle.std.specs.Prelude.{pos}
use Rattle.rm_val.specs.Val.{int, ticks}
use Rattle.rm_evicting.specs.Mention.{Mention, keys}
use Rattle.rm_evicting.specs.Held.{size, last_delete}
use Rattle.rm_keyed.specs.Entered.{Entered, IsOf}
use Rattle.rm_keyed.specs.SourceControl.{size_in, deleted_in, source_value, source_other}

module _ {K V : Type 0} (eq : K → K → Bool) (blank : V) (plus : V → V → V) (room : ℕ) (mentions : List (Mention K V)) where
  -- the rows are those of the mentions, with room for so many; there are no mentions where there are no rows
  abbrev pub AreRowsOf : Option (Entered K V) → Type 0
  AreRowsOf (Some entered) = IsOf eq blank plus mentions entered × (entered.rows.capacity ≡ room)
  AreRowsOf None = mentions ≡ []

  none_held : (capacity : ℕ) → min capacity 0 ≡ 0
  none_held capacity = omega arith

  size_is : (rows : Option (Entered K V)) → AreRowsOf rows → size_in rows ≡ size eq room (keys mentions)
  size_is (Some entered) are = are.0.rows.size ∙ ap (λ r. size eq r (keys mentions)) are.1
  size_is None none = sym (ap (λ (m : List (Mention K V)). size eq room (keys m)) none ∙ none_held room)

  deleted_is : (rows : Option (Entered K V)) → AreRowsOf rows → deleted_in rows ≡ last_delete eq room mentions
  deleted_is (Some entered) are = are.0.deletes ∙ ap (λ r. last_delete eq r mentions) are.1
  deleted_is None none = sym (ap (λ (m : List (Mention K V)). last_delete eq room m) none)

  pub source_same : (rows : Option (Entered K V)) → AreRowsOf rows → (column : ℕ) → source_value rows column ≡ source_other eq room mentions column
  source_same rows are column = λ d. cond (nat_eq column 3) (int (pos (size_is rows are d))) (ticks (deleted_is rows are d))
