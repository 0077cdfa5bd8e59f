-- A name begins with the identifier of a column exactly where it is an instance.
use Rattle.std.proofs.Common.{◌≡◌, ℕ, List, [], ◌∷◌, ◌++◌, refl, sym, ◌∙◌, Bool, true, false, cond, ◌&&◌, Option, Some, None, nat_eq}
use Rattle.std.specs.Prelude.{is_some}
use Rattle.std.specs.List.{list_any, starts_with}
use Rattle.rm_model.specs.declared.instance.Instance.{Instance}
use Rattle.rm_model.specs.Cells.{behind, is_one_of, instance_of, instance_left, is_of_column}

abbrev starts_left : Option (List ℕ) → List ℕ → Bool
starts_left (Some left) front = starts_with nat_eq left front
starts_left None front = false

-- a name that begins with a front goes on behind it
starts_behind : (e n more : List ℕ) → starts_with nat_eq n (e ++ more) ≡ starts_left (behind e n) more
starts_behind [] n more = refl
starts_behind (x ∷ e) [] more = refl
starts_behind (x ∷ e) (y ∷ n) more =
    elim (nat_eq x y) as (λ t. (t && starts_with nat_eq n (e ++ more)) ≡ starts_left (cond t (behind e n) None) more) [
      | true ↦ starts_behind e n more
      | false ↦ refl
    ]

any_same : (f g : ℕ → Bool) (xs : List ℕ) → ((x : ℕ) → f x ≡ g x) → list_any f xs ≡ list_any g xs
any_same f g [] same = refl
any_same f g (x ∷ xs) same = rw (same x, any_same f g xs same) refl

none_at_all : (xs : List ℕ) → list_any (λ x. false) xs ≡ false
none_at_all [] = refl
none_at_all (x ∷ xs) = none_at_all xs

and_true : (b : Bool) → (b && true) ≡ b
and_true true = refl
and_true false = refl

some_if : (b : Bool) (at : Instance) → b ≡ is_some (cond b (Some at) None)
some_if true at = refl
some_if false at = refl

left_is : (columns : List ℕ) (left : Option (List ℕ)) → list_any (λ column. starts_left left (column ∷ [])) columns ≡ is_some (instance_left columns left)
left_is columns None = none_at_all columns
left_is columns (Some []) = none_at_all columns
left_is columns (Some (column ∷ index)) =
    any_same (λ c. nat_eq c column && true) (λ c. nat_eq c column) columns (λ c. and_true (nat_eq c column)) ∙ some_if (is_one_of columns column) (record { column = column; index = index })

pub is_of_column-instance : (e columns n : List ℕ) → is_some (instance_of e columns n) ≡ is_of_column e columns n
is_of_column-instance e columns n =
    sym (any_same (λ c. starts_with nat_eq n (e ++ c ∷ [])) (λ c. starts_left (behind e n) (c ∷ [])) columns (λ c. starts_behind e n (c ∷ [])) ∙ left_is columns (behind e n))
