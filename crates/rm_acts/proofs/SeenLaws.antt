-- That the frames seen are those since a row became valid.
use Rattle.std.proofs.Common.{◌≡◌, ℕ, List, [], ◌∷◌, Bool, true, false, cond, refl, ap, map}
use Rattle.rm_model.specs.Journal.{Act, Journal, passes, assigns, samples, frames_in}
use Rattle.rm_model.specs.ControlTable.{ControlTable}
use Rattle.rm_model.specs.ControlRows.{Beginning, stays_valid, since}
use Rattle.rm_acts.specs.Seen.{with_act, seen_since}

module _ (table : ControlTable) (beginning : Beginning) (index : List ℕ) where
  pub frames_seen : (journal : Journal) → map (λ seen. seen.frame) (seen_since table beginning journal index) ≡ frames_in (since table beginning journal index)
  frames_seen [] = refl
  frames_seen (act ∷ earlier) = stays (stays_valid table beginning act earlier index) act (frames_seen earlier)
    where
      more : (act : Act) → map (λ seen. seen.frame) (seen_since table beginning earlier index) ≡ frames_in (since table beginning earlier index) → map (λ seen. seen.frame) (with_act act earlier (seen_since table beginning earlier index)) ≡ frames_in (act ∷ since table beginning earlier index)
      more (passes frame) same = ap (λ frames. frame ∷ frames) same
      more (assigns moment values) same = same
      more (samples moment alarm reading) same = same

      stays : (t : Bool) (act : Act) → map (λ seen. seen.frame) (seen_since table beginning earlier index) ≡ frames_in (since table beginning earlier index) → map (λ seen. seen.frame) (cond t (with_act act earlier (seen_since table beginning earlier index)) []) ≡ frames_in (cond t (act ∷ since table beginning earlier index) [])
      stays true act same = more act same
      stays false act same = refl
