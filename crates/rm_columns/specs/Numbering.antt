-- The numbers of the variants in which a column is kept.
use Rattle.std.specs.Prelude.{ℕ, List, ◌∷◌, find, nat_eq, unwrap_or}

-- The variants of a type: the number of each, the default of the column, and the other ones.
pub record Numbering (E : Type 0) : Type 0 where
  pub number_of : E → ℕ
  pub first : E
  pub others : List E

-- the variant with a number, which is the default for every number that is no variant's
abbrev pub variant : {E : Type 0} → Numbering E → ℕ → E
variant numbering number = unwrap_or (find (λ one. nat_eq (numbering.number_of one) number) (numbering.first ∷ numbering.others)) numbering.first
