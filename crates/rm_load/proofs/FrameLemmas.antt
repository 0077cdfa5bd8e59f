-- One frame more of a load.
use Rattle.std.proofs.Common.{◌≡◌, ℕ, suc, ◌∷◌, sym, ap, ◌∙◌, add-one}
use Rattle.rm_model.specs.Journal.{Frame, passes}
use Rattle.rm_load.specs.declared.frames.Frames.{Frames}
use Rattle.rm_load.specs.declared.made.MadeFrame.{MadeFrame}
use Rattle.rm_load.specs.Acts.{acts_of}
use Rattle.rm_load.specs.Draws.{next, number_of, drawn_by}
use Rattle.rm_load.specs.Frames.{frame_by, frame_at}
use Rattle.rm_load.specs.Making.{made_of, HasGone}

module _ (start : ℕ) (old new : Frames) (made : MadeFrame) (gone : HasGone old new made) (is : old.number ≡ number_of start old.passed) where
  pub passed_is : new.passed ≡ suc old.passed
  passed_is = gone.passed ∙ add-one old.passed

  -- it is made by the next number, and has the next number
  pub number_is : new.number ≡ number_of start new.passed
  number_is = gone.number ∙ ap next is ∙ sym (ap (number_of start) passed_is)

  pub count_is : made.number ≡ new.passed
  count_is = ap (λ (frame : Frame). frame.number) gone.frame

  frame_is : made_of made ≡ frame_at start (suc old.passed)
  frame_is = gone.frame ∙ ap (λ (n : ℕ). frame_by new.passed (drawn_by n)) number_is ∙ ap (frame_at start) passed_is

  -- the acts with it in front are those of one frame more
  pub acts_are : passes (made_of made) ∷ acts_of start old.passed ≡ acts_of start new.passed
  acts_are = ap (λ (frame : Frame). passes frame ∷ acts_of start old.passed) frame_is ∙ sym (ap (acts_of start) passed_is)
