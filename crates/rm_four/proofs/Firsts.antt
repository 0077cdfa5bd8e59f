-- Of which of four things the first is.
use Rattle.std.proofs.Common.{◌≡◌, ℕ, ◌<◌, List, length, Option, Some, None, refl}
use Rattle.std.specs.Option.{option_or}
use Rattle.rm_val.specs.Val.{Val}
use Rattle.rm_val.specs.declared.error.ErrorStatus.{ErrorStatus}
use Rattle.rm_model.specs.Judgement.{Bindings}
use Rattle.rm_group.specs.Alone.{alone_at, AreFineAlone}
use Rattle.rm_four.specs.Four.{first_of}

module _ {A : Type 0} where
  neither : (one other : Option A) → option_or one other ≡ None → (one ≡ None) × (other ≡ None)
  neither None other none = (refl, none)
  neither (Some x) other none = absurd (cc)

  -- where there is no first one, there is none of them
  none_of_four : (one two three four : Option A) → first_of one two three four ≡ None → (((one ≡ None) × (two ≡ None)) × (three ≡ None)) × (four ≡ None)
  none_of_four one two three four none =
      let last = neither (option_or (option_or one two) three) four none in
      let third = neither (option_or one two) three last.0 in
      ((neither one two third.0, third.1), last.1)

-- where nothing is wrong with a binding alone by four together, nothing is by one of them
pub fine_alone : (one two three four : List ℕ → Val → Option ErrorStatus) (bindings : Bindings)
    → AreFineAlone (λ name value. first_of (one name value) (two name value) (three name value) (four name value)) bindings
    → ((AreFineAlone one bindings × AreFineAlone two bindings) × AreFineAlone three bindings) × AreFineAlone four bindings
fine_alone one two three four bindings fine =
    (((λ place within. (at place within).0.0.0, λ place within. (at place within).0.0.1), λ place within. (at place within).0.1), λ place within. (at place within).1)
  where
    at : (place : ℕ) → place < length bindings
        → (((alone_at one bindings place ≡ None) × (alone_at two bindings place ≡ None)) × (alone_at three bindings place ≡ None)) × (alone_at four bindings place ≡ None)
    at place within = none_of_four (alone_at one bindings place) (alone_at two bindings place) (alone_at three bindings place) (alone_at four bindings place) (fine place within)
