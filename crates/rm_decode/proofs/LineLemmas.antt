-- Lines that are appended one after the other.
use Rattle.std.proofs.Common.{◌≡◌, ℕ, zero, suc, false, ◌<◌, List, [], ◌∷◌, ◌++◌, take, drop, length, flat_map, refl, ap, ◌∙◌, arith, append_assoc, subst, Result, Ok, Err, OnOk}
use Rattle.std.specs.Prelude.{IfSome, slice_get}
use Rattle.rm_val.specs.Val.{Val}
use Rattle.rm_pdu.specs.Message.{Binding}
use Rattle.rm_pdu.specs.Message.{Message as Meant}
use Rattle.rm_pdu.specs.Parse.{Parse, IsParse, too_long, malformed, other_version, not_request, message}
use Rattle.rm_pdu.specs.Reading.{IsTold}
use Rattle.rm_pdu.specs.Answers.{IsAnswer, parse_of}
use Rattle.rm_pdu.specs.declared.places.Offsets.{Offsets}
use Rattle.rm_pdu.specs.declared.message.Fault.{Fault}
use Rattle.rm_pdu.specs.declared.message.Message.{Message as Told}
use Rattle.rm_decode.specs.Text.{binding_line}

-- the lines of bindings from a place on begin with that of the binding which stands there
pub lines_from : (most place : ℕ) (all : List Binding) (numbers : List ℕ) (value : Val) → place < most → place < length all
    → IfSome (slice_get all place) (λ binding. numbers ≡ binding.name) → IfSome (slice_get all place) (λ binding. value ≡ binding.value)
    → flat_map binding_line (drop place (take most all)) ≡ binding_line (record { name = numbers; value = value }) ++ flat_map binding_line (drop (suc place) (take most all))
lines_from (suc most) zero (binding ∷ more) numbers value low inside named valued = rw (named, valued) refl
lines_from (suc most) (suc place) (binding ∷ more) numbers value low inside named valued =
    lines_from most place more numbers value (omega (arith, low)) (omega (arith, inside)) named valued
lines_from zero place all numbers value low inside named valued = absurd (omega (arith, low))
lines_from (suc most) zero [] numbers value low inside named valued = absurd (omega (arith, inside))
lines_from (suc most) (suc place) [] numbers value low inside named valued = absurd (omega (arith, inside))

-- some octets and then others are appended
pub appended_behind : {T E : Type 0} (result : Result T E) (old mid new first second : List ℕ) → mid ≡ old ++ first → OnOk result (new ≡ mid ++ second)
    → OnOk result (new ≡ old ++ (first ++ second))
appended_behind (Ok done) old mid new first second begun goes = goes ∙ ap (λ (t : List ℕ). t ++ second) begun ∙ append_assoc old first second
appended_behind (Err fault) old mid new first second begun goes = tt

-- the message of an answer, and its parse
pub told_of : (bytes : List ℕ) (v : Parse) (told : Told) (offsets : List Offsets) → IsParse false bytes v → IsAnswer bytes v (Ok told) offsets
    → (m : Meant) × IsParse false bytes (message m) × IsTold bytes told offsets m
told_of bytes (message m) told offsets parse is = (m, parse, is)
told_of bytes too_long told offsets parse is = absurd is
told_of bytes (malformed at) told offsets parse is = absurd is
told_of bytes (other_version z) told offsets parse is = absurd is
told_of bytes (not_request tag) told offsets parse is = absurd is

-- a fault is the parse
pub fault_of : (bytes : List ℕ) (v : Parse) (fault : Fault) (offsets : List Offsets) → IsParse false bytes v → IsAnswer bytes v (Err fault) offsets
    → IsParse false bytes (parse_of fault)
fault_of bytes v fault offsets parse is = subst (IsParse false bytes) is parse
