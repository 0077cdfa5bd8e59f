-- What the answer of a summary says.
use Rattle.std.proofs.Common.{◌≡◌, ℕ, Bool, List, [], ◌∷◌, ◌++◌, Some, refl, sym, ap, ◌∙◌}
use Rattle.std.specs.Option.{option_map}
use Rattle.rm_edge.specs.Outside.{Held, Untold, Absent, File, OfFile}
use Rattle.rm_summary.specs.declared.figure.Figure.{Figure}
use Rattle.rm_summary.specs.declared.figure.Figure.TheVariants.{Frames}
use Rattle.rm_summary.specs.declared.reading.Summary.{Summary}
use Rattle.rm_summary.specs.Text.{IsSummary, figure_for, figure_lines, figures, line, lines, word_of}
use Rattle.rm_summary.specs.Counted.{IsOf, ending_word, figure_in, text_of}

-- figures that are the same have the same lines
same_lines : (one other : Figure → ℕ) (each : List Figure) → ((figure : Figure) → one figure ≡ other figure) → figure_lines one each ≡ figure_lines other each
same_lines one other [] same = refl
same_lines one other (figure ∷ more) same =
    ap (λ (n : ℕ). line (word_of figure) n ++ figure_lines one more) (same figure) ∙ ap (λ (text : List ℕ). line (word_of figure) (other figure) ++ text) (same_lines one other more same)

-- the text of what was counted is the summary
is_summary : (lead : ℕ) (keep_short : Bool) (bytes : List ℕ) (summary : Summary) → IsOf lead keep_short bytes summary → IsSummary lead keep_short bytes (text_of summary)
is_summary lead keep_short bytes summary of = record {
  frames = of.frames;
  stop = of.stop;
  reads = of.reads;
  is = ap (option_map (lines (figure_for keep_short of.frames))) of.ends ∙ sym (ap Some (same (ending_word summary.ending)));
}
  where
    same : (word : List ℕ) → lines (figure_in summary.counts) word ≡ lines (figure_for keep_short of.frames) word
    same word =
        ap (λ (text : List ℕ). text ++ line word (figure_in summary.counts Frames)) (same_lines (figure_in summary.counts) (figure_for keep_short of.frames) figures of.counted)
        ∙ ap (λ (n : ℕ). figure_lines (figure_for keep_short of.frames) figures ++ line word n) (of.counted Frames)

-- what was put of the text was put of the summary
pub of_summary : (lead : ℕ) (keep_short : Bool) (held : Held) (summary : Summary) (P : List ℕ → Type 0) → OfFile held (λ bytes. IsOf lead keep_short bytes summary) → P (text_of summary)
    → OfFile held (λ bytes. (text : List ℕ) × IsSummary lead keep_short bytes text × P text)
of_summary lead keep_short Untold summary P of put = tt
of_summary lead keep_short Absent summary P of put = of
of_summary lead keep_short (File bytes) summary P of put = (text_of summary, is_summary lead keep_short bytes summary of, put)
