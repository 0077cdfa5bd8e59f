-- Replies worked out by hand. Names have one number or two, so that they can be read.
use Rattle.std.proofs.Common.{◌≡◌, ◌≤◌, ◌<◌, ◌+◌, ◌*◌, ℕ, zero, suc, Bool, true, false, List, [], ◌∷◌, ◌++◌, length, Some, None, refl, subst, arith}
use Rattle.std.specs.Prelude.{pos, codes, ◌==◌, ◌&&◌, if◌then◌else◌, slice_index}
use Rattle.rm_val.specs.Val.{int, null, no_object, no_instance, end_of_view}
use Rattle.rm_ber.specs.Element as elements
use Rattle.rm_model.specs.Cells.{Cells}
use Rattle.rm_pdu.specs.declared.kind.Kind.TheVariants.{Get, Bulk}
use Rattle.rm_pdu.specs.Message.{Binding, Message, message_octets}
use Rattle.rm_pdu.specs.Draft.{binding_of}
use Rattle.rm_reply.specs.Answered.{IsGetBinding, AreFirst, are_end}
use Rattle.rm_reply.specs.Replies.{carrying, size_with, IsWholeReply, repeaters, names_asked, repetition, IsBulkList}

-- A GetRequest for 1.0, which is 7, for 1.5, which is no instance of the one object that there is, 1, and for 2.0.
abbrev cells : Cells
cells name = if slice_index name 0 == 1 && slice_index name 1 == 0 then Some (int (pos 7)) else None

abbrev is_object : List ℕ → Bool
is_object name = slice_index name 0 == 1

abbrev named : List ℕ → Binding
named name = binding_of name null

abbrev gets : Message
gets = record { community = codes "public"; kind = Get; id = pos 9; first = pos 0; second = pos 0; bindings = named (1 ∷ 0 ∷ []) ∷ named (1 ∷ 5 ∷ []) ∷ named (2 ∷ 0 ∷ []) ∷ [] }

abbrev got : List Binding
got = binding_of (1 ∷ 0 ∷ []) (int (pos 7)) ∷ binding_of (1 ∷ 5 ∷ []) no_instance ∷ binding_of (2 ∷ 0 ∷ []) no_object ∷ []

-- 22 octets of bindings, with what stands before them
got_size : size_with gets got ≡ 48
unfolding message_octets elements.element elements.integer_octets elements.name_octets elements.number_octets
got_size = refl

pub whole : IsWholeReply (IsGetBinding cells is_object) gets (carrying gets got)
whole = record {
  answers = got;
  are = record { first = (refl, (refl, (refl, tt))); all = refl };
  fits = λ _. refl;
  long = λ long. absurd (let much : 1472 < 48 = subst (λ (n : ℕ). 1472 < n) got_size long in omega (arith, much));
}

-- A GetBulkRequest for 1, which isn't repeated, and for three repetitions of 2 and 3. Behind each name of one number stands the
-- variable with one number more, and nothing behind that.
abbrev next_of : List ℕ → Binding
next_of name = if length name == 1 then binding_of (name ++ 1 ∷ []) (int (pos 7)) else binding_of name end_of_view

abbrev IsNextOf : List ℕ → Binding → Type 0
IsNextOf name binding = binding ≡ next_of name

abbrev bulks : Message
bulks = record { community = codes "public"; kind = Bulk; id = pos 9; first = pos 1; second = pos 3; bindings = named (1 ∷ []) ∷ named (2 ∷ []) ∷ named (3 ∷ []) ∷ [] }

abbrev seven : ℕ → Binding
seven n = binding_of (n ∷ 1 ∷ []) (int (pos 7))

abbrev over : ℕ → Binding
over n = binding_of (n ∷ 1 ∷ []) end_of_view

-- the first repetition has values, the second is wholly endOfMibView, and there is no third
abbrev listed : List Binding
listed = seven 1 ∷ seven 2 ∷ seven 3 ∷ over 2 ∷ over 3 ∷ []

repeated : repeaters bulks ≡ 2
repeated = refl

asked : names_asked bulks listed ≡ (1 ∷ []) ∷ (2 ∷ []) ∷ (3 ∷ []) ∷ (2 ∷ 1 ∷ []) ∷ (3 ∷ 1 ∷ []) ∷ (2 ∷ 1 ∷ []) ∷ (3 ∷ 1 ∷ []) ∷ []
asked = refl

first_repetition : repetition bulks listed 0 ≡ seven 2 ∷ seven 3 ∷ []
first_repetition = refl

second_repetition : repetition bulks listed 1 ≡ over 2 ∷ over 3 ∷ []
second_repetition = refl

in_place : AreFirst IsNextOf (names_asked bulks listed) listed
in_place = (refl, (refl, (refl, (refl, (refl, tt)))))

going_on : (index : ℕ) → 1 + (index + 1) * 2 < 5 → are_end (repetition bulks listed index) ≡ false
going_on zero longer = refl
going_on (suc index) longer = absurd (omega (arith, longer))

pub bulk_list : IsBulkList IsNextOf bulks listed
bulk_list = record {
  answers = in_place;
  few = let few : 5 ≤ 1 + 3 * 2 = omega arith in few;
  goes_on = going_on;
}

-- one more repetition may not follow
pub no_more : IsBulkList IsNextOf bulks (listed ++ over 2 ∷ []) → ⊥
no_more is = let end : true ≡ false = is.goes_on 1 (let longer : 5 < 6 = omega arith in longer) in cc
