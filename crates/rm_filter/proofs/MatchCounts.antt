-- What becomes of channelMatches by an act.
use Rattle.std.proofs.Common.{arith, ◌≡◌, ℕ, ◌+◌, List, [], ◌∷◌, Bool, true, false, cond, ◌&&◌, refl, ap, ◌∙◌, Option, Some, None}
use Rattle.std.specs.Prelude.{ℤ, length, filter}
use Rattle.rm_model.specs.Counting.{Counting}
use Rattle.rm_model.specs.Journal.{Act, Assignments, Frame, Journal, passes, assigns, samples}
use Rattle.rm_model.specs.ControlRows.{no_rows, is_valid, state_of, stays_valid}
use Rattle.rm_acts.specs.Seen.{Seen, with_act, seen_since}
use Rattle.rm_acts.specs.Channels.{channel_table, accepts, match_count}

and_false : (b : Bool) → (b && false) ≡ false
and_false true = refl
and_false false = refl

abbrev accepted : Counting → (channel : ℕ) → Seen → Bool
accepted settings channel seen = accepts settings seen.before channel seen.frame

abbrev count_of : Counting → (channel : ℕ) → List Seen → ℕ
count_of settings channel seen = length (filter (accepted settings channel) seen)

module _ (settings : Counting) (channel : ℕ) where
  -- a channel that isn't valid, or becomes so, has accepted nothing
  pub idle_count : (journal : Journal) → is_valid (state_of channel_table no_rows journal (channel ∷ [])) ≡ false → match_count settings journal channel ≡ 0
  idle_count [] idle = refl
  idle_count (act ∷ earlier) idle =
      ap (λ b. count_of settings channel (cond b (with_act act earlier (seen_since channel_table no_rows earlier (channel ∷ []))) []))
      (ap (λ b. is_valid (state_of channel_table no_rows earlier (channel ∷ [])) && b) idle ∙ and_false (is_valid (state_of channel_table no_rows earlier (channel ∷ []))))

  pub begun_count : (act : Act) (earlier : Journal) → stays_valid channel_table no_rows act earlier (channel ∷ []) ≡ false → match_count settings (act ∷ earlier) channel ≡ 0
  begun_count act earlier begins =
      ap (λ b. count_of settings channel (cond b (with_act act earlier (seen_since channel_table no_rows earlier (channel ∷ []))) [])) begins

  -- one that stays valid over a Set has accepted what it had
  pub kept_count : (moment : ℕ) (values : Assignments) (earlier : Journal) → stays_valid channel_table no_rows (assigns moment values) earlier (channel ∷ []) ≡ true
      → match_count settings (assigns moment values ∷ earlier) channel ≡ match_count settings earlier channel
  kept_count moment values earlier stays =
      ap (λ b. count_of settings channel (cond b (seen_since channel_table no_rows earlier (channel ∷ [])) [])) stays

  and_self : (b : Bool) → (b && b) ≡ b
  and_self true = refl
  and_self false = refl

  one_more : (b : Bool) (seen : Seen) (more : List Seen) → accepted settings channel seen ≡ b → count_of settings channel (seen ∷ more) ≡ count_of settings channel more + cond b 1 0
  one_more b seen more is =
      ap (λ t. length (cond t (seen ∷ filter (accepted settings channel) more) (filter (accepted settings channel) more))) is ∙ of_test b
    where
      of_test : (t : Bool) → length (cond t (seen ∷ filter (accepted settings channel) more) (filter (accepted settings channel) more)) ≡ count_of settings channel more + cond t 1 0
      of_test true = omega arith
      of_test false = omega arith

  -- a frame is one more where the channel is valid and accepts it
  pub passed_count : (frame : Frame) (earlier : Journal) (b : Bool) → (is_valid (state_of channel_table no_rows earlier (channel ∷ [])) && accepts settings earlier channel frame) ≡ b
      → match_count settings (passes frame ∷ earlier) channel ≡ match_count settings earlier channel + cond b 1 0
  passed_count frame earlier b is = by_valid (is_valid (state_of channel_table no_rows earlier (channel ∷ []))) refl
    where
      seen : List Seen
      seen = seen_since channel_table no_rows earlier (channel ∷ [])

      by_valid : (t : Bool) → is_valid (state_of channel_table no_rows earlier (channel ∷ [])) ≡ t → match_count settings (passes frame ∷ earlier) channel ≡ match_count settings earlier channel + cond b 1 0
      by_valid true valid =
          ap (λ t. count_of settings channel (cond (t && t) (record { frame = frame; before = earlier } ∷ seen_since channel_table no_rows earlier (channel ∷ [])) [])) valid
          ∙ one_more b (record { frame = frame; before = earlier }) (seen_since channel_table no_rows earlier (channel ∷ [])) (ap (λ t. t && accepts settings earlier channel frame) (valid_is valid) ∙ is)
        where
          valid_is : is_valid (state_of channel_table no_rows earlier (channel ∷ [])) ≡ true → true ≡ is_valid (state_of channel_table no_rows earlier (channel ∷ []))
          valid_is e = rw e refl
      by_valid false idle =
          let none : b ≡ false = (rw (← is) (rw idle refl)) in
          let old : match_count settings earlier channel ≡ 0 = idle_count earlier idle in
          let new : match_count settings (passes frame ∷ earlier) channel ≡ 0 = idle_count (passes frame ∷ earlier) idle in
          new ∙ (rw (none, old) refl)

  -- a sample is none
  pub sampled_count : (moment alarm : ℕ) (reading : Option ℤ) (earlier : Journal) → match_count settings (samples moment alarm reading ∷ earlier) channel ≡ match_count settings earlier channel
  sampled_count moment alarm reading earlier = by_reading reading
    where
      by_valid : (t : Bool) → is_valid (state_of channel_table no_rows earlier (channel ∷ [])) ≡ t
          → count_of settings channel (cond (t && t) (seen_since channel_table no_rows earlier (channel ∷ [])) []) ≡ match_count settings earlier channel
      by_valid true valid = refl
      by_valid false idle = idle_is (idle_count earlier idle)
        where
          idle_is : match_count settings earlier channel ≡ 0 → 0 ≡ match_count settings earlier channel
          idle_is e = rw e refl

      by_reading : (reading : Option ℤ) → match_count settings (samples moment alarm reading ∷ earlier) channel ≡ match_count settings earlier channel
      by_reading None = by_valid (is_valid (state_of channel_table no_rows earlier (channel ∷ []))) refl
      by_reading (Some n) = by_valid (is_valid (state_of channel_table no_rows earlier (channel ∷ []))) refl
