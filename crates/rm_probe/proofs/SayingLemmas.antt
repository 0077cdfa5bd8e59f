-- What is said, one after the other.
use Rattle.std.proofs.Common.{List, [], ◌++◌, map, subst, sym, append_assoc}
use Rattle.std.proofs.lemmas.List.{append-nil}
use mathlib.Core.List.{map-append}
use Rattle.rm_probe.specs.Notes.{Note}
use Rattle.rm_probe.specs.Said.{Notified, Said, SaysMore}

module _ {S : Type 0} (since : S → S → List Said → Type 0) where
  pub says_nothing : (state : S) → SaysMore since state state []
  says_nothing state = λ start said is. subst (λ (all : List Said). since start state all) (sym (append-nil said)) is

  -- some things, and then others
  pub says_both : (old mid new : S) (said more : List Said) → SaysMore since old mid said → SaysMore since mid new more → SaysMore since old new (said ++ more)
  says_both old mid new said more first second = λ start before is.
      subst (λ (all : List Said). since start new all) (append_assoc before said more) (second start (before ++ said) (first start before is))

  -- notifications, and then others
  pub notes_both : (old mid new : S) (notes more : List Note) → SaysMore since old mid (map Notified notes) → SaysMore since mid new (map Notified more) → SaysMore since old new (map Notified (notes ++ more))
  notes_both old mid new notes more first second =
      subst (λ (all : List Said). SaysMore since old new all) (sym (map-append Notified notes more)) (says_both old mid new (map Notified notes) (map Notified more) first second)
