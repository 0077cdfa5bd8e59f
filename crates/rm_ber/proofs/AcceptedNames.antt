-- Names that are accepted have a spelling.
use Rattle.std.proofs.Common.{◌^◌, ◌≤◌, ◌<◌, ℕ, List, [], ◌∷◌, length, sym, subst, inl, inr, arith}
use Rattle.std.proofs.lemmas.Bool.{cases_lt, lt-ltb, le-ltb}
use Rattle.rm_val.specs.Val.{Val, name}
use Rattle.rm_val.specs.Spellable.{IsSpellable, HasSpelling}
use Rattle.rm_ber.specs.Grammar.{AreGroups, ValueFirst, numbers_of}

first_spellable : (group : ℕ) (more : List ℕ) → group < 2 ^ 32 → IsSpellable (numbers_of (group ∷ more))
first_spellable group more below = elim (cases_lt group 40) [
  | inl zero_first ↦ rw (lt-ltb group 40 zero_first) (omega arith, λ _. omega (arith, zero_first), omega (arith, below))
  | inr over ↦ elim (cases_lt group 80) [
    | inl one_first ↦ rw (le-ltb group 40 over, lt-ltb group 80 one_first) (omega arith, λ _. omega (arith, one_first), omega (arith, below, over))
    | inr far ↦ rw (le-ltb group 40 over, le-ltb group 80 far) (omega arith, λ less. absurd (omega (arith, less)), omega (arith, below, far))
  ]
]

groups_spellable : (content groups : List ℕ) → AreGroups content groups → 1 ≤ length groups → IsSpellable (numbers_of groups)
groups_spellable content [] are some = absurd (omega (arith, some))
groups_spellable content (group ∷ more) are some = first_spellable group more are.2.below

pub accepted_spelling : (v : Val) (rest bytes : List ℕ) → ValueFirst v rest bytes → HasSpelling v
accepted_spelling (name numbers) rest bytes first =
    let is = first.is_value.1 in
    subst IsSpellable (sym is.is) (groups_spellable first.content is.groups is.are_groups is.some)
accepted_spelling other rest bytes first = tt
