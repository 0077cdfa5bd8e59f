-- What holds of four groups holds of them as one.
use Rattle.std.specs.Prelude.{◌||◌, ℕ, List, Bool, Option}
use Rattle.std.specs.Option.{option_or}
use Rattle.rm_val.specs.Val.{Val}
use Rattle.rm_val.specs.declared.error.ErrorStatus.{ErrorStatus}
use Rattle.rm_model.specs.Cells.{Cells}
use Rattle.rm_model.specs.Finite.{AreFinite}
use Rattle.rm_model.proofs.Finite.{both_finite}
use Rattle.rm_acts.specs.Recurring.{Sampleable, ReadBefore}
use Rattle.rm_acts.proofs.ShownLaws.{both_before}
use Rattle.rm_group.specs.Listed.{AreOfObjects, AreRefused, both_of_objects, both_refused}
use Rattle.rm_four.specs.Four.{first_of, any_of}

-- the cells are finitely many
pub four_finite : (one two three four : Cells) → AreFinite one → AreFinite two → AreFinite three → AreFinite four
    → AreFinite (λ name. first_of (one name) (two name) (three name) (four name))
four_finite one two three four of_one of_two of_three of_four =
    let both : Cells = λ name. option_or (one name) (two name) in
    let all_three : Cells = λ name. option_or (both name) (three name) in
    both_finite all_three four (both_finite both three (both_finite one two of_one of_two) of_three) of_four

-- they depend on what alarms read after earlier acts only
pub four_before : (one two three four : Sampleable) → ReadBefore one → ReadBefore two → ReadBefore three → ReadBefore four
    → ReadBefore (λ settings journal now name. first_of (one settings journal now name) (two settings journal now name) (three settings journal now name) (four settings journal now name))
four_before one two three four of_one of_two of_three of_four =
    let both : Sampleable = λ settings journal now name. option_or (one settings journal now name) (two settings journal now name) in
    let all_three : Sampleable = λ settings journal now name. option_or (both settings journal now name) (three settings journal now name) in
    both_before all_three four (both_before both three (both_before one two of_one of_two) of_three) of_four

-- each has a name that begins with one of the objects
module _ (objects_one objects_two objects_three objects_four : List ℕ → Bool) where
  abbrev objects : List ℕ → Bool
  objects name = any_of (objects_one name) (objects_two name) (objects_three name) (objects_four name)

  pub four_of_objects : (one two three four : Cells) → AreOfObjects objects_one one → AreOfObjects objects_two two → AreOfObjects objects_three three → AreOfObjects objects_four four
      → AreOfObjects objects (λ name. first_of (one name) (two name) (three name) (four name))
  four_of_objects one two three four of_one of_two of_three of_four =
      let both : Cells = λ name. option_or (one name) (two name) in
      let all_three : Cells = λ name. option_or (both name) (three name) in
      let objects_both : List ℕ → Bool = λ name. objects_one name || objects_two name in
      both_of_objects (λ name. objects_both name || objects_three name) objects_four all_three four
      (both_of_objects objects_both objects_three both three (both_of_objects objects_one objects_two one two of_one of_two) of_three) of_four

  -- an object that can't be set is notWritable
  module _ (set_one set_two set_three set_four : List ℕ → Bool) (alone_one alone_two alone_three alone_four : List ℕ → Val → Option ErrorStatus) where
    pub four_refused : AreRefused objects_one set_one alone_one → AreRefused objects_two set_two alone_two → AreRefused objects_three set_three alone_three
        → AreRefused objects_four set_four alone_four
        → AreRefused objects (λ name. any_of (set_one name) (set_two name) (set_three name) (set_four name))
        (λ name value. first_of (alone_one name value) (alone_two name value) (alone_three name value) (alone_four name value))
    four_refused of_one of_two of_three of_four =
        let objects_both : List ℕ → Bool = λ name. objects_one name || objects_two name in
        let set_both : List ℕ → Bool = λ name. set_one name || set_two name in
        let alone_both : List ℕ → Val → Option ErrorStatus = λ name value. option_or (alone_one name value) (alone_two name value) in
        both_refused (λ name. objects_both name || objects_three name) objects_four (λ name. set_both name || set_three name) set_four
        (λ name value. option_or (alone_both name value) (alone_three name value)) alone_four
        (both_refused objects_both objects_three set_both set_three alone_both alone_three
        (both_refused objects_one objects_two set_one set_two alone_one alone_two of_one of_two) of_three) of_four
