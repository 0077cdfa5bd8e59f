-- Bindings at their places.
use Rattle.std.proofs.Common.{◌≡◌, ◌-◌, ◌<◌, ℕ, zero, suc, List, [], ◌∷◌, ◌++◌, length, take, drop, Result, Ok, Some, refl, sym, ap, ◌∙◌, subst, arith}
use Rattle.std.specs.Prelude.{slice_get}
use Rattle.std.proofs.lemmas.List.{length-drop, take_all}
use Rattle.rm_val.specs.Val.{Val}
use Rattle.rm_ber.specs.Grammar.{ValueFirst}
use Rattle.rm_pdu.specs.Message.{Binding}
use Rattle.rm_pdu.specs.Placed.{IsPlaced, ArePlaced}
use Rattle.rm_pdu.specs.declared.places.Offsets.{Offsets}
use Rattle.rm_pdu.specs.declared.message.Message.{Message as Told}
use Rattle.rm_pdu.specs.Parse.{Parse, message}
use Rattle.rm_pdu.specs.Answers.{IsAnswer}
use Rattle.rm_pdu.proofs.Steps.{tag_then}

pub record PlacedOne (bytes : List ℕ) (bindings : List Binding) (place : ℕ) (offsets : Offsets) : Type 0 where
  pub binding : Binding
  pub is : slice_get bindings place ≡ Some binding
  pub placed : IsPlaced bytes offsets binding

pub placed_one : (bytes : List ℕ) (all : List Offsets) (bindings : List Binding) (place : ℕ) (offsets : Offsets) → ArePlaced bytes all bindings → slice_get all place ≡ Some offsets
    → PlacedOne bytes bindings place offsets
placed_one bytes [] bindings place offsets are at = absurd cc
placed_one bytes (o ∷ others) [] place offsets are at = absurd are
placed_one bytes (o ∷ others) (b ∷ more) zero offsets are at =
    let e : o ≡ offsets = cc in
    record { binding = b; is = refl; placed = subst (λ (x : Offsets). IsPlaced bytes x b) e are.0 }
placed_one bytes (o ∷ others) (b ∷ more) (suc place) offsets are at =
    let p = placed_one bytes others more place offsets are.1 at in
    record { binding = p.binding; is = p.is; placed = p.placed }

-- what stands at an offset begins before the end
pub stands_inside : (v : Val) (rest bytes : List ℕ) (at : ℕ) → ValueFirst v rest (drop at bytes) → at < length bytes
stands_inside v rest bytes at first =
    let t = tag_then first.tag first.content rest (drop at bytes) first.stands in
    omega (arith, length-drop at bytes, ap length t.1)

-- one more binding is kept
pub placed_more : (bytes : List ℕ) (all : List Offsets) (bindings : List Binding) (offsets : Offsets) (binding : Binding) → length all ≡ length bindings → ArePlaced bytes all bindings
    → IsPlaced bytes offsets binding → ArePlaced bytes (all ++ offsets ∷ []) (bindings ++ binding ∷ [])
placed_more bytes [] [] offsets binding same are placed = (placed, tt)
placed_more bytes [] (b ∷ more) offsets binding same are placed = absurd (omega (arith, same))
placed_more bytes (o ∷ others) [] offsets binding same are placed = absurd are
placed_more bytes (o ∷ others) (b ∷ more) offsets binding same are placed = (are.0, placed_more bytes others more offsets binding (omega (arith, same)) are.1 placed)

-- more bindings that aren't kept
pub placed_enough : (bytes : List ℕ) (all : List Offsets) (bindings others : List Binding) → ArePlaced bytes all bindings → ArePlaced bytes all (bindings ++ others)
placed_enough bytes [] bindings others are = tt
placed_enough bytes (o ∷ all) [] others are = absurd are
placed_enough bytes (o ∷ all) (b ∷ more) others are = (are.0, placed_enough bytes all more others are.1)

-- the octets from a place on, as a slice has them
pub from_here : (bytes : List ℕ) (at : ℕ) → take (length bytes - at) (drop at bytes) ≡ drop at bytes
from_here bytes at = take_all (length bytes - at) (drop at bytes) (omega (arith, length-drop at bytes))

pub same_name : {E : Type 0} (r : Result (List ℕ) E) (a b : List ℕ) → r ≡ Ok a → r ≡ Ok b → a ≡ b
same_name r a b first second = let e : Ok a ≡ Ok b = sym first ∙ second in cc

-- a message that was read has its bindings at their places
pub told_placed : (bytes : List ℕ) (v : Parse) (told : Told) (offsets : List Offsets) → IsAnswer bytes v (Ok told) offsets
    → (bindings : List Binding) × ArePlaced bytes offsets bindings
told_placed bytes (message m) told offsets is = (m.bindings, is.kept.1)
told_placed bytes v told offsets is = absurd is
