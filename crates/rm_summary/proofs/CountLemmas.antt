-- One frame more is counted.
use Rattle.std.proofs.Common.{◌≡◌, ℕ, suc, ◌+◌, ◌-◌, ◌≤◌, zero, List, [], ◌∷◌, ◌++◌, length, Bool, true, false, refl, sym, ap, subst, ◌∙◌, arith, length-append}
use Rattle.std.specs.Prelude.{◌==◌, if◌then◌else◌, sum_by, count_by}
use Rattle.std.specs.List.{slice_index}
use Rattle.std.specs.Option.{is_some}
use Rattle.std.proofs.lemmas.List.{map-append}
use mir.Val.{bool_byte}
use Rattle.std.proofs.lemmas.Bool.{ne_eqb}
use Rattle.std.proofs.lemmas.List.Sums.{sum_by-append, sum_by-cons}
use Rattle.rm_model.specs.Journal.{Frame}
use Rattle.rm_proto.specs.Facts.{facts_of}
use Rattle.rm_proto.specs.declared.known.Facts.{Facts}
use Rattle.rm_summary.specs.declared.figure.Figure.TheVariants.{Frames, Octets, Good, Undersize, Oversize, Broadcast, Multicast, Ip, First, Last}
use Rattle.rm_summary.specs.declared.counts.Counts.{Counts}
use Rattle.rm_summary.specs.Text.{facts_in, moments_in, is_undersize, is_oversize, is_broadcast, is_multicast}
use Rattle.rm_summary.specs.Counted.{AreCounted, IsAdded, one_if}

-- a sum over frames, with one more
sum_more : (of : Facts → ℕ) (keep_short : Bool) (frames : List Frame) (frame : Frame)
    → sum_by of (facts_in keep_short (frames ++ frame ∷ [])) ≡ sum_by of (facts_in keep_short frames) + of (facts_of frame.octets frame.original keep_short)
sum_more of keep_short frames frame =
    let facts = facts_of frame.octets frame.original keep_short in
    let both = sum_by-append of (facts_in keep_short frames) (facts ∷ []) in
    let alone = sum_by-cons of facts [] in
    ap (sum_by of) (map-append (λ frame. facts_of frame.octets frame.original keep_short) frames (frame ∷ [])) ∙ omega (arith, both, alone)

-- the octet that a test is
pub octet_is : (yes : Bool) → bool_byte yes ≡ one_if yes
octet_is true = refl
octet_is false = refl

-- the moments of the first frame and of the last, with one more
first_more : (frames : List Frame) (frame : Frame) (counted first : ℕ) → counted ≡ length frames → first ≡ slice_index (moments_in frames) 0
    → (if counted == 0 then frame.moment else first) ≡ slice_index (moments_in (frames ++ frame ∷ [])) 0
first_more [] frame counted first few is = rw few refl
first_more (one ∷ more) frame counted first few is = some counted (omega (arith, few)) ∙ is
  where
    some : (n : ℕ) → 1 ≤ n → (if n == 0 then frame.moment else first) ≡ first
    some zero few = absurd (omega (arith, few))
    some (suc n) few = rw (ne_eqb (suc n) 0 (λ e. omega (arith, e))) refl

last_more : (frames : List Frame) (frame : Frame) → slice_index (moments_in (frames ++ frame ∷ [])) (length frames) ≡ frame.moment
last_more [] frame = refl
last_more (one ∷ more) frame = last_more more frame

-- the frames that were counted, and one more with these facts
pub counted_more : (keep_short : Bool) (frames : List Frame) (frame : Frame) (facts : Facts) (old new : Counts) → facts ≡ facts_of frame.octets frame.original keep_short
    → AreCounted keep_short frames old → IsAdded facts frame.moment old new → AreCounted keep_short (frames ++ frame ∷ []) new
counted_more keep_short frames frame facts old new same counted added_so = by_figure (subst (λ (f : Facts). IsAdded f frame.moment old new) same added_so)
  where
    test : (which : Facts → Bool) (was is : ℕ) → was ≡ count_by which (facts_in keep_short frames)
        → is ≡ was + one_if (which (facts_of frame.octets frame.original keep_short)) → is ≡ count_by which (facts_in keep_short (frames ++ frame ∷ []))
    test which was is before more = omega (arith, before, more, sum_more (λ (facts : Facts). one_if (which facts)) keep_short frames frame)

    by_figure : IsAdded (facts_of frame.octets frame.original keep_short) frame.moment old new → AreCounted keep_short (frames ++ frame ∷ []) new
    by_figure added Frames = omega (arith, added.frames, counted Frames, length-append frames (frame ∷ []))
    by_figure added Octets = omega (arith, added.octets, counted Octets, sum_more (λ (facts : Facts). facts.length) keep_short frames frame)
    by_figure added Good = test (λ (facts : Facts). facts.good) old.good new.good (counted Good) added.good
    by_figure added Undersize = test is_undersize old.undersize new.undersize (counted Undersize) added.undersize
    by_figure added Oversize = test is_oversize old.oversize new.oversize (counted Oversize) added.oversize
    by_figure added Broadcast = test is_broadcast old.broadcast new.broadcast (counted Broadcast) added.broadcast
    by_figure added Multicast = test is_multicast old.multicast new.multicast (counted Multicast) added.multicast
    by_figure added Ip = test (λ (facts : Facts). is_some facts.ip) old.ip new.ip (counted Ip) added.ip
    by_figure added First = added.first ∙ first_more frames frame old.frames old.first (counted Frames) (counted First)
    by_figure added Last =
        let at : length (frames ++ frame ∷ []) - 1 ≡ length frames = omega (arith, length-append frames (frame ∷ [])) in
        added.last ∙ sym (ap (slice_index (moments_in (frames ++ frame ∷ []))) at ∙ last_more frames frame)
